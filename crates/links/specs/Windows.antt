-- What a footprint covers, cut to the board. Definitions only.
use Rattle.std.specs.Prelude.{ℕ, ◌≤◌, Bool, ◌||◌, nat_lt, IsTrue, ℤ, pos, nat_abs, ◌-ℤ◌}
use Rattle.std.specs.Int.Signed.{le_z}
use Rattle.cell.specs.Ticks.{on}
use Rattle.cell.specs.Boxes.{Box}
use Rattle.net_rows.specs.Nodes.{in_ticks}
use Rattle.net.specs.Net.{MeshNode}
use Rattle.net.specs.Laws.{widest}
use Rattle.links.specs.declared.rows.Footprint.{Footprint}
use Rattle.links.specs.declared.count.Window.{Window}
use Rattle.links.specs.Made.{covers}

-- each coordinate of the board that is at most so far from a centre lies between two
abbrev pub Reaches : ℤ → ℤ → ℕ → ℕ → Type 0
Reaches centre half first last =
    (x : ℕ) → x ≤ widest → IsTrue (le_z (pos (nat_abs (on x -ℤ centre))) half) → (first ≤ x) × (x ≤ last)

-- a node stands in a window
abbrev pub IsInside : Window → MeshNode → Type 0
IsInside w m = (w.x0 ≤ m.x) × (m.x ≤ w.x1) × (w.y0 ≤ m.y) × (m.y ≤ w.y1)

-- every place of the board that the footprint covers lies in the window
abbrev pub IsWindow : Footprint → Window → Type 0
IsWindow f w = (m : MeshNode) → m.x ≤ widest → m.y ≤ widest → IsTrue (covers f (in_ticks m)) → IsInside w m

-- no place of a box does
abbrev pub misses : Window → Box → Bool
misses w b = nat_lt b.x1 w.x0 || (nat_lt w.x1 b.x0 || (nat_lt b.y1 w.y0 || nat_lt w.y1 b.y0))
