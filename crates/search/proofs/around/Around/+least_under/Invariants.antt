-- The least so far is that of the subtrees before this child's.
use Rattle.std.proofs.Common.{◌-◌}
use Rattle.table.specs.Mesh.{at}
use Rattle.table.specs.Tables.{cells}
use Rattle.search.specs.Search.{Least}
use Rattle.search.specs.Around.{owes}
use Rattle.search.proofs.Least.{Among}
use Rattle.search.proofs.around.Around.+least_under.Given as goal

abbrev pub decreases-least_under : goal.decreases-least_under
decreases-least_under l = l.self.now.table.head.max_level - (at (cells l.self.now.table) l.c).level

abbrev pub invariant-loop-child : goal.invariant-loop-child
invariant-loop-child l = Least (owes l.self l.difference) (Among (cells l.self.table) l.first l.child) l.from l.best l.least
