use Rattle.std.proofs.Common.{◌-◌, ◌≤◌}
use Rattle.search.specs.Marks.{Unmarked}
use Rattle.search.proofs.marks.Marks.next.Given as goal

abbrev pub invariant-loop-id : goal.invariant-loop-id
invariant-loop-id l = (l.from ≤ l.id) × Unmarked l.self l.from l.id

abbrev pub decreases-loop-id : goal.decreases-loop-id
decreases-loop-id l = l.stop - l.id
