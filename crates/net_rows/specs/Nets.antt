-- The rules' "A net is bad (7) if ..", and what is read of a sound one. What a row's type says is never bad. Definitions only.
use Rattle.std.specs.Prelude.{ℕ, Bool, ◌&&◌, List, [], ◌∷◌, min, max, length, pos, ◌-ℤ◌, nat_abs, int_lt, nat_lt, slice_index_or, IsTrue}
use Rattle.std.specs.Ordering.{int_eq}
use Rattle.std.specs.List.{list_all}
use Rattle.std.specs.Float.{nan}
use Rattle.cell.specs.Ticks.{in_range}
use Rattle.net_rows.specs.declared.rows.Node.{Node}
use Rattle.net_rows.specs.declared.rows.Edge.{Edge}
use Rattle.net_rows.specs.declared.rows.Corners.{Corners}
use Rattle.net_rows.specs.declared.rows.NetCell.{NetCell}
use Rattle.net_rows.specs.declared.rows.NetRows.{NetRows}

-- what stands past the last node
abbrev pub no_node : Node
no_node = record { layer = 0; component = 0; x = pos 0; y = pos 0 }

abbrev pub nth_node : List Node → ℕ → Node
nth_node nodes n = slice_index_or nodes n no_node

-- what stands past the last cell
abbrev pub blank_cell : NetCell
blank_cell = record { corners = record { southwest = 0; southeast = 0; northeast = 0; northwest = 0 }; sheet = nan }

abbrev pub nth_cell : List NetCell → ℕ → NetCell
nth_cell cells c = slice_index_or cells c blank_cell

-- two nodes, the lesser first
abbrev pub pair_of : ℕ → ℕ → List ℕ
pair_of a b = min a b ∷ max a b ∷ []

-- its coordinates are in the rules' range
abbrev pub sound_node : Node → Bool
sound_node n = in_range n.x && in_range n.y

-- both ends are among the first nodes
abbrev pub sound_edge : ℕ → Edge → Bool
sound_edge count e = nat_lt e.from count && nat_lt e.to count

-- all four are among the first nodes
abbrev pub known : ℕ → Corners → Bool
known count q = nat_lt q.southwest count && nat_lt q.southeast count && nat_lt q.northeast count && nat_lt q.northwest count

-- four nodes are SW, SE, NE, NW of a rectangle with positive sides
abbrev pub is_rectangle : Node → Node → Node → Node → Bool
is_rectangle sw se ne nw =
    int_lt sw.x se.x && int_lt sw.y nw.y && int_eq se.y sw.y && int_eq ne.x se.x && int_eq ne.y nw.y && int_eq nw.x sw.x

abbrev pub rectangle : List Node → Corners → Bool
rectangle nodes q =
    is_rectangle (nth_node nodes q.southwest) (nth_node nodes q.southeast) (nth_node nodes q.northeast) (nth_node nodes q.northwest)

abbrev pub sound_cell : List Node → NetCell → Bool
sound_cell nodes c = known (length nodes) c.corners && rectangle nodes c.corners

-- each node, edge and cell is sound
unfoldable pub sound_net : List Node → List Edge → List NetCell → Bool
sound_net nodes edges cells =
    list_all sound_node nodes && list_all (sound_edge (length nodes)) edges && list_all (sound_cell nodes) cells

abbrev pub IsSound : NetRows → Type 0
IsSound rows = IsTrue (sound_net rows.nodes.now rows.edges.now rows.cells.now)

-- how many ticks a cell is wide and high
abbrev pub width_of : List Node → NetCell → ℕ
width_of nodes c = nat_abs ((nth_node nodes c.corners.southeast).x -ℤ (nth_node nodes c.corners.southwest).x)

abbrev pub height_of : List Node → NetCell → ℕ
height_of nodes c = nat_abs ((nth_node nodes c.corners.northwest).y -ℤ (nth_node nodes c.corners.southwest).y)
