-- The net of a table of leaves: nodes, cells, edges and weights, by the rules' "The net". Coordinates are whole ticks, from 0 up;
-- extents and faces are whole half ticks. Nothing is sorted and nothing is looked up: each rule goes through the whole list. Definitions only.
-- What goes on from piece to piece, or from cell to cell, is a recursion, as its lemmas go by induction on the list.
use Rattle.std.specs.Prelude.{Bool, ◌&&◌, ◌||◌, not, List, [], ◌∷◌, ◌++◌, map, ◌≡◌, ℕ, suc, ◌+◌, ◌-◌, ◌<◌, min, max, nat_lt, ◌==◌, length, slice_index_or, drop, pos, Float, Option, None, Some, unwrap_or, option_map, flat_map, filter, find, if◌then◌else◌}
use Rattle.std.specs.List.{position_or_len, list_any}
use Rattle.std.specs.Int.{abs_diff}
use Rattle.std.specs.Float.Ieee as Ieee
use Rattle.std.specs.Float.{binary64}
use Rattle.std.specs.Float.Ieee.{of_bits}
use Rattle.cell.specs.Boxes.{Box, mid}
use Rattle.table.specs.Mesh.{Cell, is_none}
pub use Rattle.net_rows.specs.declared.rows.MeshNode.{MeshNode}
pub use Rattle.net_rows.specs.declared.rows.Edge.{Edge}
pub use Rattle.net_rows.specs.declared.rows.NetCell.{NetCell}

-- ---- lists

module _ {A : Type 0} (same : A → A → Bool) where
  -- the number of the first that is the same as x; where there is none, the length
  unfoldable pub position_of : List A → A → ℕ
  position_of l x = position_or_len (λ a. same a x) l

  unfoldable pub has : List A → A → Bool
  has l x = list_any (λ a. same a x) l

  -- each of the second list in turn goes behind the first, unless the same is there already
  unfoldable pub weld : List A → List A → List A
  weld l [] = l
  weld l (x ∷ xs) = if has l x then weld l xs else weld (l ++ (x ∷ [])) xs

-- ---- what the net is made of

pub record Poly : Type 0 where
  pub layer : ℕ
  pub component : ℕ
  pub sheet : Float

pub record Net : Type 0 where
  pub nodes : List MeshNode
  pub cells : List NetCell
  pub edges : List Edge

abbrev pub same_node : MeshNode → MeshNode → Bool
same_node m n = (m.layer == n.layer) && ((m.component == n.component) && ((m.x == n.x) && (m.y == n.y)))

abbrev pub pair_is : ℕ → ℕ → ℕ → ℕ → Bool
pair_is a b c d = ((a == c) && (b == d)) || ((a == d) && (b == c))

abbrev pub same_pair : Edge → Edge → Bool
same_pair e f = pair_is e.from e.to f.from f.to

-- ---- polygons and their leaves, by id

pub record Piece : Type 0 where
  pub poly : Poly
  pub leaves : List Box

unfoldable pub leaves_of : List Cell → ℕ → List Box
leaves_of cs k = map (λ c. c.box) (filter (λ c. is_none c.kids && (c.polygon == k)) cs)

-- the polygons ps, the first of which has the index k
unfoldable pub pieces : List Cell → List Poly → ℕ → List Piece
pieces t [] k = []
pieces t (p ∷ ps) k = record { poly = p; leaves = leaves_of t k } ∷ pieces t ps (suc k)

-- ---- nodes

abbrev pub node_at : Poly → ℕ → ℕ → MeshNode
node_at p x y = record { layer = p.layer; component = p.component; x = x; y = y }

abbrev pub sw_of : Poly → Box → MeshNode
sw_of p r = node_at p r.x0 r.y0

abbrev pub se_of : Poly → Box → MeshNode
se_of p r = node_at p r.x1 r.y0

abbrev pub ne_of : Poly → Box → MeshNode
ne_of p r = node_at p r.x1 r.y1

abbrev pub nw_of : Poly → Box → MeshNode
nw_of p r = node_at p r.x0 r.y1

abbrev pub corners_at : Poly → Box → List MeshNode
corners_at p r = sw_of p r ∷ se_of p r ∷ ne_of p r ∷ nw_of p r ∷ []

unfoldable pub corners_of : Piece → List MeshNode
corners_of q = flat_map (corners_at q.poly) q.leaves

-- the nodes, once the pieces are added to the nodes n
unfoldable pub nodes_from : List MeshNode → List Piece → List MeshNode
nodes_from n [] = n
nodes_from n (q ∷ qs) = nodes_from (weld same_node n (corners_of q)) qs

-- ---- cells and edges, by the nodes so far

abbrev pub number : List MeshNode → MeshNode → ℕ
number n m = position_of same_node n m

abbrev pub patch_at : List MeshNode → Poly → Box → NetCell
patch_at n p r =
    record {
      corners = record { southwest = number n (sw_of p r); southeast = number n (se_of p r); northeast = number n (ne_of p r); northwest = number n (nw_of p r) };
      sheet = p.sheet;
    }

abbrev pub ◌·◌ : Float → Float → Float
x · y = Ieee.mul binary64 x y

abbrev pub ◌÷◌ : Float → Float → Float
x ÷ y = Ieee.div binary64 x y

infixl 7 ◌·◌
infixl 7 ◌÷◌
abbrev pub num : ℕ → Float
num n = Ieee.of_int binary64 (pos n)

-- n / 2, rounded: exact for an n below 2 ^ 53
abbrev pub halves : ℕ → Float
halves n = Ieee.round binary64 Bool.false n 2

abbrev pub Half : Float
Half = of_bits binary64 0x3fe0_0000_0000_0000

abbrev pub One : Float
One = of_bits binary64 0x3ff0_0000_0000_0000

abbrev pub width : Box → ℕ
width r = r.x1 - r.x0

abbrev pub height : Box → ℕ
height r = r.y1 - r.y0

abbrev pub across : Poly → Box → Float
across p r = p.sheet · num (width r) ÷ num (height r)

abbrev pub upright : Poly → Box → Float
upright p r = p.sheet · num (height r) ÷ num (width r)

abbrev pub join : List MeshNode → MeshNode → MeshNode → Float → Edge
join n a b g = record { from = number n a; to = number n b; conductance = g }

-- one side of a leaf, of the resistance r: whole, or in halves. (A leaf's sides are even, so the midpoint m is neither end.)
abbrev pub side_of : List MeshNode → MeshNode → MeshNode → MeshNode → Float → List Edge
side_of n a m b r = if has same_node n m then join n a m (One ÷ (r · Half)) ∷ join n m b (One ÷ (r · Half)) ∷ [] else join n a b (One ÷ r) ∷ []

unfoldable pub sides_at : List MeshNode → Poly → Box → List Edge
sides_at n p r =
    side_of n (sw_of p r) (node_at p (mid r.x0 r.x1) r.y0) (se_of p r) (across p r)
    ++ (side_of n (nw_of p r) (node_at p (mid r.x0 r.x1) r.y1) (ne_of p r) (across p r)
    ++ (side_of n (sw_of p r) (node_at p r.x0 (mid r.y0 r.y1)) (nw_of p r) (upright p r)
    ++ side_of n (se_of p r) (node_at p r.x1 (mid r.y0 r.y1)) (ne_of p r) (upright p r)))

-- within a polygon a pair is emitted once
unfoldable pub edges_of : List MeshNode → Piece → List Edge
edges_of n q = weld same_pair [] (flat_map (sides_at n q.poly) q.leaves)

unfoldable pub edges_from : List MeshNode → List Piece → List Edge
edges_from n [] = []
edges_from n (q ∷ qs) = let m = weld same_node n (corners_of q) in edges_of m q ++ edges_from m qs

unfoldable pub patches_from : List MeshNode → List Piece → List NetCell
patches_from n [] = []
patches_from n (q ∷ qs) = let m = weld same_node n (corners_of q) in map (patch_at m q.poly) q.leaves ++ patches_from m qs

-- ---- weights: the extents

-- the node past the end
abbrev pub nowhere : MeshNode
nowhere = record { layer = 0; component = 0; x = 0; y = 0 }

abbrev pub nth : List MeshNode → ℕ → MeshNode
nth n i = slice_index_or n i nowhere

-- the node b, numbered j, comes after the node a, numbered i, in a column of the layer
abbrev pub after : MeshNode → ℕ → MeshNode → ℕ → Bool
after a i b j = (a.layer == b.layer) && ((a.x == b.x) && (nat_lt a.y b.y || ((a.y == b.y) && nat_lt i j)))

abbrev pub lesser : ℕ → Option ℕ → Option ℕ
lesser d None = Some d
lesser d (Some e) = Some (min d e)

-- the least g of the nodes that pass the test p, which are numbered from j on
unfoldable pub least : (MeshNode → ℕ → Bool) → (MeshNode → ℕ) → List MeshNode → ℕ → Option ℕ
least p g [] j = None
least p g (b ∷ bs) j = if p b j then lesser (g b) (least p g bs (suc j)) else least p g bs (suc j)

-- the gap from the node i to the next in its column, and to the one before: 0 at the ends
unfoldable pub next_gap : List MeshNode → ℕ → ℕ
next_gap n i = unwrap_or (least (λ b j. after (nth n i) i b j) (λ b. b.y - (nth n i).y) n 0) 0

unfoldable pub prev_gap : List MeshNode → ℕ → ℕ
prev_gap n i = unwrap_or (least (λ b j. after b j (nth n i) i) (λ b. (nth n i).y - b.y) n 0) 0

-- x and y exchanged: rows for columns
abbrev pub turned : MeshNode → MeshNode
turned m = record { layer = m.layer; component = m.component; x = m.y; y = m.x }

pub data Way : Type 0 where
  up down right left : Way

-- half the gap in ticks, so the gap in half ticks
unfoldable pub gap : Way → List MeshNode → ℕ → ℕ
gap up n i = next_gap n i
gap down n i = prev_gap n i
gap right n i = next_gap (map turned n) i
gap left n i = prev_gap (map turned n) i

abbrev pub box_of : List MeshNode → NetCell → Box
box_of n c =
    let low = nth n c.corners.southwest in
    let high = nth n c.corners.northeast in
    record { x0 = low.x; y0 = low.y; x1 = high.x; y1 = high.y }

-- the midpoint of the edge from which the cell lies that way, and the cell's size that way
abbrev pub mid_x : Way → Box → ℕ
mid_x up r = mid r.x0 r.x1
mid_x down r = mid r.x0 r.x1
mid_x right r = r.x0
mid_x left r = r.x1

abbrev pub mid_y : Way → Box → ℕ
mid_y up r = r.y0
mid_y down r = r.y1
mid_y right r = mid r.y0 r.y1
mid_y left r = mid r.y0 r.y1

abbrev pub size_of : Way → Box → ℕ
size_of up r = height r
size_of down r = height r
size_of right r = width r
size_of left r = width r

abbrev pub same_place : MeshNode → MeshNode → Bool
same_place m n = (m.layer == n.layer) && ((m.x == n.x) && (m.y == n.y))

abbrev pub hangs_at : Way → List MeshNode → NetCell → MeshNode
hangs_at w n c = record { layer = (nth n c.corners.southwest).layer; component = 0; x = mid_x w (box_of n c); y = mid_y w (box_of n c) }

-- the node i is at the place m, whatever its component, and no later node is
abbrev pub is_last : List MeshNode → MeshNode → ℕ → Bool
is_last n m i = same_place (nth n i) m && not (has same_place (drop (suc i) n) m)

-- the most that a cell asks for the node i on its edge's midpoint: half the cell's size, so the size in half ticks
unfoldable pub hung : Way → List MeshNode → ℕ → List NetCell → ℕ
hung w n i [] = 0
hung w n i (c ∷ cs) = if is_last n (hangs_at w n c) i then max (size_of w (box_of n c)) (hung w n i cs) else hung w n i cs

unfoldable pub extent : Way → List MeshNode → List NetCell → ℕ → ℕ
extent w n cs i = max (gap w n i) (hung w n i cs)

-- ---- weights: the conductances

abbrev pub lesser_of : Way → List MeshNode → List NetCell → Edge → ℕ
lesser_of w n cs e = min (extent w n cs e.from) (extent w n cs e.to)

abbrev pub flat : List MeshNode → Edge → Bool
flat n e = (nth n e.from).y == (nth n e.to).y

unfoldable pub face : List MeshNode → List NetCell → Edge → ℕ
face n cs e = if flat n e then lesser_of up n cs e + lesser_of down n cs e else lesser_of right n cs e + lesser_of left n cs e

unfoldable pub distance : List MeshNode → Edge → ℕ
distance n e = if flat n e then abs_diff (nth n e.from).x (nth n e.to).x else abs_diff (nth n e.from).y (nth n e.to).y

abbrev pub is_side : NetCell → ℕ → ℕ → Bool
is_side c a b =
    let q = c.corners in
    pair_is q.southwest q.southeast a b
    || (pair_is q.southeast q.northeast a b || (pair_is q.northeast q.northwest a b || pair_is q.northwest q.southwest a b))

-- the sheet resistance of the first cell with that pair
unfoldable pub sheet_of : List NetCell → ℕ → ℕ → Option Float
sheet_of cs a b = option_map (λ c. c.sheet) (find (λ c. is_side c a b) cs)

-- of the conductance so far, the face, the distance and the sheet resistance
abbrev pub weight : Float → ℕ → ℕ → Option Float → Float
weight g f d None = g
weight g f d (Some s) = if f == 0 then g else halves f ÷ (s · num d)

unfoldable pub weighed : List MeshNode → List NetCell → Edge → Edge
weighed n cs e = record { from = e.from; to = e.to; conductance = weight e.conductance (face n cs e) (distance n e) (sheet_of cs e.from e.to) }

-- ---- the net

unfoldable pub bare : List Piece → Net
bare qs = record { nodes = nodes_from [] qs; cells = patches_from [] qs; edges = edges_from [] qs }

unfoldable pub weigh : Net → Net
weigh n = record { nodes = n.nodes; cells = n.cells; edges = map (weighed n.nodes n.cells) n.edges }

unfoldable pub network : List Cell → List Poly → Net
network t ps = weigh (bare (pieces t ps 0))

-- ---- what every net is

-- a cell's corners are nodes of one layer: SW, SE, NE, NW of a rectangle with positive sides
pub record Cornered (n : List MeshNode) (c : NetCell) : Type 0 where
  pub sw-in : c.corners.southwest < length n
  pub se-in : c.corners.southeast < length n
  pub ne-in : c.corners.northeast < length n
  pub nw-in : c.corners.northwest < length n
  pub south : (nth n c.corners.southwest).y ≡ (nth n c.corners.southeast).y
  pub north : (nth n c.corners.northwest).y ≡ (nth n c.corners.northeast).y
  pub west : (nth n c.corners.southwest).x ≡ (nth n c.corners.northwest).x
  pub east : (nth n c.corners.southeast).x ≡ (nth n c.corners.northeast).x
  pub wide : (nth n c.corners.southwest).x < (nth n c.corners.southeast).x
  pub high : (nth n c.corners.southwest).y < (nth n c.corners.northwest).y
  pub layer-se : (nth n c.corners.southeast).layer ≡ (nth n c.corners.southwest).layer
  pub layer-ne : (nth n c.corners.northeast).layer ≡ (nth n c.corners.southwest).layer
  pub layer-nw : (nth n c.corners.northwest).layer ≡ (nth n c.corners.southwest).layer

pub record Ends (k : ℕ) (e : Edge) : Type 0 where
  pub from : e.from < k
  pub to : e.to < k
