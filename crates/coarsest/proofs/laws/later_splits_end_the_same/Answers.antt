use Rattle.coarsest.proofs.InTurn.{later-ends}
use Rattle.coarsest.proofs.laws.later_splits_end_the_same.Goals as goal

pub returns : goal.returns
returns c = later-ends
