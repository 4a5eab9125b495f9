-- Nodes and edges as entries of rows in order.
use Rattle.std.specs.Prelude.{ℕ, ◌≡◌, ◌<◌, min, max, Bool, true, false, ◌==◌, ◌&&◌, nat_lt, List, [], ◌∷◌, map, length, slice_index_or, nat_eq, IsPermutation, IsSorted}
use Rattle.std.specs.List.{range_with_len, list_any, starts_with}
use Rattle.std.specs.Ordering.{nat_cmp}
use Rattle.std.specs.Float.{nan}
use Rattle.std.specs.Cmp.Lexicographic.{slice_cmp}
use Rattle.cell.specs.Ticks.{off}
use Rattle.net_rows.specs.declared.rows.Node.{Node}
use Rattle.net_rows.specs.declared.rows.MeshNode.{MeshNode}
use Rattle.net_rows.specs.declared.rows.Edge.{Edge}
use Rattle.net_rows.specs.Nodes.{in_mesh}
use Rattle.net_rows.specs.Nets.{nth_node, pair_of}
use Rattle.net_rows.specs.declared.axis.Axis.{Axis}
use Rattle.net_rows.specs.declared.axis.Axis.TheVariants.{Column, Row}
use Rattle.checks.specs.declared.asked.Place.{Place}
use Rattle.checks.specs.declared.asked.Class.{Class}
use Rattle.checks.specs.declared.asked.Class.TheVariants.{Any, Of}

-- what tells the nodes of one place apart, where nodes of such a class are looked for
abbrev pub names_of : Class → MeshNode → ℕ × ℕ
names_of Any node = (0, 0)
names_of (Of layer component) node = (node.layer, node.component)

-- a place as it stands on the lines of an axis: x is the line, y how far along it
abbrev pub facing : Axis → Place → Place
facing Column p = p
facing Row p = record { x = p.y; y = p.x }

-- a place lies strictly between two of one line of the axis
abbrev pub is_between : Axis → Place → Place → Place → Bool
is_between axis place from to =
    let p = facing axis place in
    let a = facing axis from in
    let b = facing axis to in
    p.x == a.x && nat_lt (min a.y b.y) p.y && nat_lt p.y (max a.y b.y)

-- where a node stands
abbrev pub place_of : Node → Place
place_of n = record { x = off n.x; y = off n.y }

-- what the entries of the nodes at a place that faces an axis begin with
abbrev pub key_of : Class → Place → List ℕ
key_of Any p = 0 ∷ 0 ∷ p.x ∷ p.y ∷ []
key_of (Of layer component) p = layer ∷ component ∷ p.x ∷ p.y ∷ []

-- node n, by what tells it apart, its place as it faces the axis, and its number
abbrev pub place_entry : Axis → Class → List Node → ℕ → List ℕ
place_entry axis class nodes n =
    let node = in_mesh (nth_node nodes n) in
    let at = facing axis (record { x = node.x; y = node.y }) in
    (names_of class node).0 ∷ (names_of class node).1 ∷ at.x ∷ at.y ∷ n ∷ []

abbrev pub place_entries : Axis → Class → List Node → List (List ℕ)
place_entries axis class nodes = map (place_entry axis class nodes) (range_with_len 0 (length nodes))

-- what stands past the last edge
abbrev pub no_edge : Edge
no_edge = record { from = 0; to = 0; conductance = nan }

-- edge e, by its ends
abbrev pub pair_entry : List Edge → ℕ → List ℕ
pair_entry edges e = let edge = slice_index_or edges e no_edge in pair_of edge.from edge.to

abbrev pub pair_entries : List Edge → List (List ℕ)
pair_entries edges = map (pair_entry edges) (range_with_len 0 (length edges))

-- a row holds the entries in order
pub record IsInOrder (entries row : List (List ℕ)) : Type 0 where
  pub same : IsPermutation entries row
  pub sorted : IsSorted (slice_cmp nat_cmp) row

abbrev pub IsPlaced : Axis → Class → List Node → List (List ℕ) → Type 0
IsPlaced axis class nodes row = IsInOrder (place_entries axis class nodes) row

abbrev pub IsPaired : List Edge → List (List ℕ) → Type 0
IsPaired edges row = IsInOrder (pair_entries edges) row

-- ---- along a line of the axis, in places that face it

-- an entry begins with the key of a place
abbrev pub has_entry : List (List ℕ) → Class → Place → Bool
has_entry row class p = list_any (λ e. starts_with nat_eq e (key_of class p)) row

-- y lies strictly between a and b
abbrev pub IsInside : ℕ → ℕ → ℕ → Type 0
IsInside a b y = (min a b < y) × (y < max a b)

-- no entry stands strictly between a place and another one, `to`, of its line
abbrev pub NoneInside : List (List ℕ) → Class → Place → ℕ → Type 0
NoneInside row class from to =
    (z : ℕ) → IsInside from.y to z → has_entry row class (record { x = from.x; y = z }) ≡ false

-- of the entries strictly between the two the nearest to the place stands at y
pub record IsNearest (row : List (List ℕ)) (class : Class) (from : Place) (to y : ℕ) : Type 0 where
  pub inside : IsInside from.y to y
  pub stands : has_entry row class (record { x = from.x; y = y }) ≡ true
  pub none_nearer : NoneInside row class from y
