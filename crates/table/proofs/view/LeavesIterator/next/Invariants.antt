-- What is left to give stays the same until a leaf is found.
use Rattle.std.proofs.Common.{◌≡◌, ◌-◌}
use Rattle.table.specs.Tables.{leaves_left}
use Rattle.table.proofs.view.LeavesIterator.next.Given as goal

abbrev pub invariant-loop-self : goal.invariant-loop-self
invariant-loop-self l = (l.self.table ≡ l.initial.self.table) × (leaves_left l.self ≡ leaves_left l.initial.self)

abbrev pub decreases-loop-self : goal.decreases-loop-self
decreases-loop-self l = l.self.table.head.count - l.self.next
