use Rattle.coarsest.proofs.Evened.{evened-formed}
use Rattle.coarsest.proofs.laws.stays_formed.Goals as goal

pub returns : goal.returns
returns c = evened-formed
