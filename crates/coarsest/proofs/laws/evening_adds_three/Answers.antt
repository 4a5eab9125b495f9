use Rattle.coarsest.proofs.Evened.{evened-leaves}
use Rattle.coarsest.proofs.laws.evening_adds_three.Goals as goal

pub returns : goal.returns
returns c = λ e k M t. (let a = evened-leaves e k M t in (a.splits, a.leaves, a.cells))
