-- The new cells before x are met.
use Rattle.std.proofs.Common.{ℕ, ◌-◌, ◌<◌, ◌≤◌}
use Rattle.table.specs.Tables.{cells}
use Rattle.even.specs.Watch.{Met}
use Rattle.even.proofs.evener.Evener.mark_new.Given as goal

abbrev pub invariant-loop-x : goal.invariant-loop-x
invariant-loop-x l = (l.stop ≤ l.x) × ((y : ℕ) → l.stop ≤ y → y < l.x → Met l.self (cells l.table) l.marks y)

abbrev pub decreases-loop-x : goal.decreases-loop-x
decreases-loop-x l = l.table.head.count - l.x
