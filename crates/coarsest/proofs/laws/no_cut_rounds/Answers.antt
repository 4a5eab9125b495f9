use Rattle.coarsest.proofs.Sides.{no-cut-rounds, children-are-halves}
use Rattle.coarsest.proofs.laws.no_cut_rounds.Goals as goal

pub returns-clause-middles : goal.returns-clause-middles
returns-clause-middles c = no-cut-rounds

pub returns-clause-children : goal.returns-clause-children
returns-clause-children c = children-are-halves
