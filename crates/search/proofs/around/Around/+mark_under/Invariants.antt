-- All that is wanted in the subtrees before this child's is marked.
use Rattle.std.proofs.Common.{◌-◌}
use Rattle.table.specs.Mesh.{at}
use Rattle.table.specs.Tables.{cells}
use Rattle.search.specs.Marks.{Wanted, Marked}
use Rattle.search.proofs.Least.{Among}
use Rattle.search.proofs.around.Around.+mark_under.Given as goal

abbrev pub decreases-mark_under : goal.decreases-mark_under
decreases-mark_under l = l.self.now.table.head.max_level - (at (cells l.self.now.table) l.c).level

abbrev pub invariant-loop-child : goal.invariant-loop-child
invariant-loop-child l =
    Marked (Among (cells l.self.table) l.first l.child) (Wanted (cells l.self.table) l.self.cell l.levels) l.initial.marks l.marks
