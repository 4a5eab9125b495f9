use Rattle.build.proofs.Wellformed.{tables-of-roots}
use Rattle.build.proofs.laws.leaves_tables_of_roots.Goals as goal

pub returns : goal.returns
returns c = tables-of-roots
