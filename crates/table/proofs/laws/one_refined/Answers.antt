use Rattle.table.proofs.One.{one-refined}
use Rattle.table.proofs.laws.one_refined.Goals as goal

pub returns : goal.returns
returns c = one-refined
