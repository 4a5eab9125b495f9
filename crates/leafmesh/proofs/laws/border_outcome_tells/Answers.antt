use Rattle.leafmesh.proofs.Tells.{border-tells}
use Rattle.leafmesh.proofs.laws.border_outcome_tells.Goals as goal

pub returns : goal.returns
returns c = border-tells
