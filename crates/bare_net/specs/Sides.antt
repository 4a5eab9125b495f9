-- The sides of the leaves by the rows of the work room: whole, or in two halves where a node so far stands in the middle. Definitions only.
use Rattle.std.specs.Prelude.{Bool, true, false, ◌&&◌, ℕ, zero, suc, ◌+◌, ◌*◌, ◌/◌}
use Rattle.std.specs.Prelude.{◌%◌, ◌==◌, nat_lt, nat_le, if◌then◌else◌, length, slice_index, Option, None, Some, is_none, Float}
use Rattle.net.specs.Net.{Edge, NetCell, ◌·◌, ◌÷◌, One, Half, across, upright}
use Rattle.net.specs.Flat as Flat
use Rattle.places.specs.Leaves.{leaf_of, leaf_at}
use Rattle.cell.specs.declared.border.Side.{Side}
use Rattle.cell.specs.declared.border.Side.TheVariants.{South, North, West, East}
use Rattle.bare_net.specs.declared.sides.Slot.{Slot}
use Rattle.bare_net.specs.declared.sides.Sides.{Sides}

-- ---- eight slots a leaf, two to a side

abbrev pub side_at : ℕ → Side
side_at zero = South
side_at (suc zero) = North
side_at (suc (suc zero)) = West
side_at (suc (suc (suc q))) = East

abbrev pub slot_of : ℕ → Slot
slot_of j = record { leaf = j / 8; side = side_at (j % 8 / 2); second = j % 2 == 1 }

-- the place of a side's middle among the four of its leaf
abbrev pub index_of : Side → ℕ
index_of South = 0
index_of North = 1
index_of West = 2
index_of East = 3

-- the corners at which a side begins and ends, of SW, SE, NE and NW
abbrev pub from_corner : Side → ℕ
from_corner South = 0
from_corner North = 3
from_corner West = 0
from_corner East = 1

abbrev pub to_corner : Side → ℕ
to_corner South = 1
to_corner North = 2
to_corner West = 3
to_corner East = 2

-- the resistance of a side: "(r_sheet · w) / h" of one that lies flat, "(r_sheet · h) / w" of one that stands
abbrev pub resistance : Flat.Leaf → Side → Float
resistance l South = across l.poly l.box
resistance l North = across l.poly l.box
resistance l West = upright l.poly l.box
resistance l East = upright l.poly l.box

-- ---- a leaf by the rows

abbrev pub leaf_in : Sides → ℕ → Flat.Leaf
leaf_in s v = leaf_of s.leaves.polygons s.leaves.sheets.now (leaf_at s.leaves.entries.now v)

-- the node at a corner
abbrev pub corner_in : Sides → ℕ → ℕ → ℕ
corner_in s v c = slice_index s.numbers.now (4 * v + c)

-- the first place of the middle of a side
abbrev pub middle_in : Sides → ℕ → Side → ℕ
middle_in s v q = slice_index s.middles.now (4 * v + index_of q)

-- the node at a place, if it stands there so far: if the place is a corner of a leaf of a polygon no later than v's own
abbrev pub node_so_far : Sides → ℕ → ℕ → Option ℕ
node_so_far s v f =
    if nat_lt f (length s.numbers.now) && nat_le (leaf_in s (f / 4)).piece (leaf_in s v).piece then Some (slice_index s.numbers.now f) else None

-- half of a side from a to b with this resistance, if there is a node in its middle, and else the whole
abbrev pub half_edge : Bool → Option ℕ → ℕ → ℕ → Float → Edge
half_edge second None a b r = record { from = a; to = b; conductance = One ÷ r }
half_edge false (Some m) a b r = record { from = a; to = m; conductance = One ÷ (r · Half) }
half_edge true (Some m) a b r = record { from = m; to = b; conductance = One ÷ (r · Half) }

-- the second slot of a whole side: it has what the first has
abbrev pub repeats : Sides → Slot → Bool
repeats s j = j.second && is_none (node_so_far s j.leaf (middle_in s j.leaf j.side))

-- the edge of a slot
unfoldable pub edge_at : Sides → Slot → Edge
edge_at s j =
    half_edge j.second (node_so_far s j.leaf (middle_in s j.leaf j.side)) (corner_in s j.leaf (from_corner j.side)) (corner_in s j.leaf (to_corner j.side))
    (resistance (leaf_in s j.leaf) j.side)

-- a leaf's cell
abbrev pub cell_at : Sides → ℕ → NetCell
cell_at s v =
    record {
      corners = record { southwest = corner_in s v 0; southeast = corner_in s v 1; northeast = corner_in s v 2; northwest = corner_in s v 3 };
      sheet = (leaf_in s v).poly.sheet;
    }
