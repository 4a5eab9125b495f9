-- All that the roots before this one hold is marked.
use Rattle.std.proofs.Common.{◌-◌}
use Rattle.table.specs.Tables.{cells}
use Rattle.search.specs.Marks.{Wanted, Marked}
use Rattle.search.proofs.Rooted.{Seen}
use Rattle.search.proofs.around.Around.mark.Given as goal

abbrev pub invariant-loop-root : goal.invariant-loop-root
invariant-loop-root l =
    Marked (Seen (cells l.self.table) l.root) (Wanted (cells l.self.table) l.self.cell l.levels) l.initial.marks l.marks

abbrev pub decreases-loop-root : goal.decreases-loop-root
decreases-loop-root l = l.self.roots.now.end - l.root
