use Rattle.std.proofs.Common.{◌-◌, ◌≤◌}
use Rattle.table.specs.Tables.{cells}
use Rattle.search.specs.Search.{Passed}
use Rattle.search.proofs.around.Around.next_root.Given as goal

abbrev pub invariant-loop-id : goal.invariant-loop-id
invariant-loop-id l = (l.from ≤ l.id) × Passed (cells l.self.table) l.self.cell l.from l.id

abbrev pub decreases-loop-id : goal.decreases-loop-id
decreases-loop-id l = l.self.roots.now.end - l.id
