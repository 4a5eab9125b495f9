use Rattle.coarsest.proofs.Ends.{evened-parts}
use Rattle.coarsest.proofs.laws.parts_end_the_same.Goals as goal

pub returns : goal.returns
returns c = λ e k M. evened-parts k M e
