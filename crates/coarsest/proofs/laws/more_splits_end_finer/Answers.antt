use Rattle.coarsest.proofs.Ends.{evened-grows}
use Rattle.coarsest.proofs.laws.more_splits_end_finer.Goals as goal

pub returns : goal.returns
returns c = λ e d k M. evened-grows k M e d
