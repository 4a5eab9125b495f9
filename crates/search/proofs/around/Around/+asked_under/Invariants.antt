-- Nothing in the subtrees before this child's asks.
use Rattle.std.proofs.Common.{◌-◌, false}
use Rattle.table.specs.Mesh.{at}
use Rattle.table.specs.Tables.{cells}
use Rattle.search.specs.Search.{Found}
use Rattle.search.specs.Around.{asks}
use Rattle.search.proofs.Least.{Among}
use Rattle.search.proofs.around.Around.+asked_under.Given as goal

abbrev pub decreases-asked_under : goal.decreases-asked_under
decreases-asked_under l = l.self.now.table.head.max_level - (at (cells l.self.now.table) l.c).level

abbrev pub invariant-loop-child : goal.invariant-loop-child
invariant-loop-child l = Found (asks l.self l.difference) (Among (cells l.self.table) l.first l.child) l.stop false
