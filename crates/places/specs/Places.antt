-- The places on the leaves, numbered as nodes. Definitions only.
use Rattle.std.specs.Prelude.{ℕ, ◌*◌, List, [], ◌∷◌, map, length, take, flat_map}
use Rattle.net.specs.Net.{MeshNode, position_of, weld, same_node, node_at, nth}
use Rattle.net.specs.First.{rank}
use Rattle.net.specs.Flat as Flat
use Rattle.net.specs.Flat.{flat_places, corners_in, place_x, place_y}
use Rattle.places.specs.Leaves.{leaves_of}
use Rattle.places.specs.declared.Leaves.{Leaves}

abbrev pub leaves_in : Leaves → List Flat.Leaf
leaves_in b = leaves_of b.polygons b.sheets.now b.entries.now

-- the corners of all leaves, and behind them the middles of all leaves' sides
abbrev pub places_in : Leaves → List MeshNode
places_in b = flat_places (leaves_in b)

abbrev pub corner_count : Leaves → ℕ
corner_count b = 4 * length b.entries.now

abbrev pub place_count : Leaves → ℕ
place_count b = 8 * length b.entries.now

-- one of the eight places of leaf v
abbrev pub place_at : List Flat.Leaf → ℕ → ℕ → MeshNode
place_at leaves v s = let l = Flat.leaf_at leaves v in node_at l.poly (place_x l.box s) (place_y l.box s)

-- a place's node and number
abbrev pub place_entry : List MeshNode → ℕ → List ℕ
place_entry places i = let n = nth places i in n.layer ∷ n.component ∷ n.x ∷ n.y ∷ i ∷ []

-- of each place the first one that is the same node
unfoldable pub firsts : List MeshNode → List ℕ
firsts places = map (position_of same_node places) places

-- of each of the first n places the number of its node: how many places before its first one are first places
abbrev pub node_numbers : List MeshNode → ℕ → List ℕ
node_numbers places n = let fs = firsts places in map (rank fs) (take n fs)

-- the nodes of the net: each corner that is not yet one
abbrev pub nodes_in : Leaves → List MeshNode
nodes_in b = weld same_node [] (flat_map corners_in (leaves_in b))
