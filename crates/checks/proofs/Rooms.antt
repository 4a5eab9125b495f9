-- What it means that there is room. Assumes nothing.
use Rattle.std.proofs.Common.{ℕ, ◌+◌, ◌*◌, ◌≤◌, ◌≡◌, refl, Bool, true, List, length}
use mathlib.Core.Bool.{and-true}
use Rattle.std.proofs.lemmas.Bool.{and_parts, leb-true}
use Rattle.checks.specs.Rooms.{max_nodes, roomy, room_after, work_row}

pub roomy-facts : (n e room : ℕ) → roomy n e room ≡ true → (n ≤ max_nodes) × (9 * n + 3 * e ≤ room)
unfolding roomy
roomy-facts n e room h = let p = and_parts _ _ h in (leb-true _ _ p.0, leb-true _ _ p.1)

-- the row after a call that was not refused
pub after-walk : (n e : ℕ) (w : List ℕ) (accepted : Bool) → accepted ≡ true → room_after n e w ≡ work_row n e accepted w
unfolding room_after work_row
after-walk n e w accepted h = rw (h, and-true (roomy n e (length w))) refl
