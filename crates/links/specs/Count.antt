-- How many edges a net with links has room for, and the corners by which they are counted. Definitions only.
use Rattle.std.specs.Prelude.{ℕ, ◌+◌, ◌*◌, ◌-◌, ◌^◌, ◌≤◌, ◌≡◌, min, max, Bool, ◌&&◌, ◌||◌, not, ◌==◌}
use Rattle.std.specs.Prelude.{List, [], filter, flat_map, length, if◌then◌else◌, Float}
use Rattle.std.specs.List.{range_with_len, list_any, count_by, sum_by}
use Rattle.cell.specs.Boxes.{Box}
use Rattle.table.specs.Mesh.{Cell, at, is_none, is_leaf}
use Rattle.table.specs.Tables.{cells, leaves}
use Rattle.table.specs.declared.view.Table.{Table}
use Rattle.net_rows.specs.declared.rows.Polygons.{Polygons}
use Rattle.net_rows.specs.Nodes.{in_ticks}
use Rattle.net.specs.Net.{MeshNode, has, weld, same_node, corners_at, pieces}
use Rattle.places.specs.Leaves.{poly_at, polys_of}
use Rattle.links.specs.declared.rows.Contact.{Contact}
use Rattle.links.specs.declared.rows.Footprint.{Footprint}
use Rattle.links.specs.declared.rows.Via.{Via}
use Rattle.links.specs.declared.rows.Channel.{Channel}
use Rattle.links.specs.declared.rows.Links.{Links}
use Rattle.links.specs.declared.count.Counting.{Counting}
use Rattle.links.specs.declared.count.Counting.TheVariants.{EachNode}
use Rattle.links.specs.Made.{is_of, covers, has_area, links_on}

-- "8 a leaf, and one for each link"
unfoldable pub edge_room : Table → Polygons → List Float → Links → ℕ
edge_room t ps sheets l = 8 * length (leaves t) + length (links_on (pieces (cells t) (polys_of ps sheets) 0) l)

-- the largest number that a count can be
abbrev pub most : ℕ
most = 2 ^ 64 - 1

-- ---- the corners

-- a polygon has a leaf
unfoldable pub has_leaf : List Cell → ℕ → Bool
has_leaf cs k = list_any (λ c. is_none c.kids && (c.polygon == k)) cs

-- a layer and component has a leaf
abbrev pub is_class : Polygons → ℕ → ℕ → ℕ → Bool
is_class ps layer component k = ((poly_at ps [] k).layer == layer) && ((poly_at ps [] k).component == component)

unfoldable pub has_class : List Cell → Polygons → ℕ → ℕ → Bool
has_class cs ps layer component = list_any (λ c. is_none c.kids && is_class ps layer component c.polygon) cs

-- the corners of a cell, and of all leaves with ids below k
abbrev pub cell_corners : Polygons → Cell → List MeshNode
cell_corners ps c = corners_at (poly_at ps [] c.polygon) c.box

unfoldable pub corners_below : List Cell → Polygons → ℕ → List MeshNode
corners_below cs ps k = flat_map (λ i. cell_corners ps (at cs i)) (filter (is_leaf cs) (range_with_len 0 k))

-- how many different ones of a layer and component there are of those inside a footprint
unfoldable pub inside_below : List Cell → Polygons → Footprint → ℕ → ℕ → ℕ → ℕ
inside_below cs ps f layer component k =
    length
    (weld same_node []
    (filter (λ m. is_of layer component (in_ticks m) && covers f (in_ticks m)) (corners_below cs ps k)))

-- a corner is inside a footprint, and no leaf before leaf i has it
abbrev pub is_new_inside : List Cell → Polygons → Footprint → ℕ → MeshNode → Bool
is_new_inside cs ps f i m = covers f (in_ticks m) && not (has same_node (corners_below cs ps i) m)

-- the corners of leaf i inside a footprint that no leaf before it has
unfoldable pub new_inside : List Cell → Polygons → Footprint → ℕ → ℕ
new_inside cs ps f i = count_by (is_new_inside cs ps f i) (cell_corners ps (at cs i))

-- ---- a node and a leaf

abbrev pub node : ℕ → ℕ → ℕ → ℕ → MeshNode
node layer component x y = record { layer = layer; component = component; x = x; y = y }

abbrev pub is_leaf_of : List Cell → Polygons → ℕ → ℕ → ℕ → Bool
is_leaf_of cs ps layer component i = is_leaf cs i && is_class ps layer component (at cs i).polygon

abbrev pub has_corner : Box → MeshNode → Bool
has_corner b m = ((b.x0 == m.x) || (b.x1 == m.x)) && ((b.y0 == m.y) || (b.y1 == m.y))

abbrev pub meets : List Cell → Polygons → MeshNode → ℕ → Bool
meets cs ps m i = has_corner (at cs i).box m && is_leaf_of cs ps m.layer m.component i

-- what leaf i adds to the corners of a layer and component
abbrev pub leaf_adds : List Cell → Polygons → Footprint → ℕ → ℕ → ℕ → ℕ
leaf_adds cs ps f layer component i = if is_leaf_of cs ps layer component i then new_inside cs ps f i else 0

-- ---- the links of each kind

abbrev pub one_if : Bool → ℕ
one_if b = if b then 1 else 0

-- the nodes of a layer inside a via's footprint, where that has area
abbrev pub covered_count : List Cell → Polygons → Via → ℕ → ℕ
covered_count cs ps v layer =
    if has_area v.footprint then inside_below cs ps v.footprint layer v.component (length cs) else 0

-- those that the via joins: these, or else the nearest if there is one
abbrev pub side_count : List Cell → Polygons → Via → ℕ → ℕ
side_count cs ps v layer = max (covered_count cs ps v layer) (one_if (has_class cs ps layer v.component))

abbrev pub via_count : List Cell → Polygons → Via → ℕ
via_count cs ps v = side_count cs ps v v.bottom * side_count cs ps v v.top

abbrev pub contact_count : List Cell → Contact → ℕ
contact_count cs c = one_if (has_leaf cs c.from && has_leaf cs c.to)

abbrev pub channel_count : List Cell → Polygons → ℕ → Channel → ℕ
channel_count cs ps layer c =
    one_if (has_class cs ps layer c.drain.component && has_class cs ps layer c.source.component)

-- 8 a leaf, and the links by their kinds
unfoldable pub edge_count : Table → Polygons → Links → ℕ
edge_count t ps l =
    8 * length (leaves t)
    + sum_by (contact_count (cells t)) l.contacts.now
    + sum_by (via_count (cells t) ps) l.vias.now
    + sum_by (channel_count (cells t) ps l.channel_layer) l.channels.now

-- ---- what is counted

-- n is counted: exactly, or by a number that is no less
pub record IsCount (counting : Counting) (n result : ℕ) : Type 0 where
  pub bound : n ≤ result
  pub exact : counting ≡ EachNode → result ≡ n

-- the same of a number that may not fit
pub record IsTotal (counting : Counting) (n result : ℕ) : Type 0 where
  pub bound : min n most ≤ result
  pub exact : counting ≡ EachNode → result ≡ min n most
