-- The row of work room: how long it is to be, and what it holds after a call.
use Rattle.std.specs.Prelude.{ℕ, ◌+◌, ◌*◌, ◌^◌, Bool, ◌&&◌, if◌then◌else◌, List, length, replicate, nat_le}

-- the most nodes that are put in order
abbrev pub max_nodes : ℕ
max_nodes = 2 ^ 26

-- the room is long enough for the quick walk over n nodes and e edges, and the nodes are few enough
unfoldable pub roomy : ℕ → ℕ → ℕ → Bool
roomy n e room = nat_le n max_nodes && nat_le (9 * n + 3 * e) room

-- the row after a walk: all zero after a quick one, and as it was after the plain one
unfoldable pub room_after : ℕ → ℕ → List ℕ → List ℕ
room_after n e w = if roomy n e (length w) then replicate (length w) 0 else w

-- and after a call, which walks where nothing is refused
unfoldable pub work_row : ℕ → ℕ → Bool → List ℕ → List ℕ
work_row n e accepted w = if roomy n e (length w) && accepted then replicate (length w) 0 else w
