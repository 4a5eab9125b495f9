-- The laws that src/laws.rt promises: the contracts of the two checks permit one outcome, and what the check by layer
-- comes to. Definitions only.
use Rattle.std.specs.Prelude.{ℕ, ◌+◌, ◌<◌, ◌≡◌, ◌↔◌, Bool, List, [], ◌∷◌, ◌++◌, All, length, slice_index, slice_get, ℤ, IsTrue, Option, None, Some, Result}
use Rattle.std.specs.List.{filter_map, cons_option}
use Rattle.refusals.specs.declared.Refusal.{Refusal}
use Rattle.refusals.specs.Said.{Said}
use Rattle.cell.specs.declared.Cell.{Cell}
use Rattle.table.specs.declared.Head.{Head}
use Rattle.table.specs.Slots.{cell_at}
use Rattle.table.specs.Rows.{leaves_in}
use Rattle.net_rows.specs.declared.rows.Node.{Node}
use Rattle.net_rows.specs.declared.rows.Edge.{Edge}
use Rattle.checks.specs.declared.asked.Class.{Class}
use Rattle.checks.specs.declared.asked.Class.TheVariants.{Of}
use Rattle.checks.specs.declared.asked.Side.{Side}
use Rattle.checks.specs.declared.asked.Hanging.{Hanging}
use Rattle.checks.specs.Sides.{sides_of}
use Rattle.checks.specs.Nodes.{node_at, nodes_between, joined}
use Rattle.checks.specs.Checks.{checked_said, middle_fault, side_fault, own_class, layer_fault}
use Rattle.checks.specs.Rooms.{work_row}

-- ---- one outcome

-- whatever is to be said, two answers that say it are one
abbrev pub OneAnswer : Type 0
OneAnswer =
    (what : Said) (answer other : Result (Option Hanging) Refusal)
    → checked_said answer ≡ what → checked_said other ≡ what → answer ≡ other

-- whatever the row was, two contents that are permitted are one
abbrev pub OneContent : Type 0
OneContent =
    (nodes edges : ℕ) (accepted : Bool) (lent left other : List ℕ)
    → left ≡ work_row nodes edges accepted lent → other ≡ work_row nodes edges accepted lent → left ≡ other

-- ---- the sides of a table's leaves, by layer

-- P holds of each side of each leaf, with the class of the leaf's polygon
abbrev pub EachSide : (Class → Side → Type 0) → List ℤ → Head → List ℕ → List ℕ → Type 0
EachSide P t head layers components =
    All (λ id. All (P (own_class layers components (cell_at t id).poly)) (sides_of (cell_at t id))) (leaves_in t head)

-- nothing but the middle of a side has a node between its ends
abbrev pub OnlyMiddleStands : List Node → Class → Side → Type 0
OnlyMiddleStands nodes class s = nodes_between nodes class s.start s.end ≡ cons_option (node_at nodes class s.middle) []

-- the check that looks at middles alone
unfoldable pub middle_leaf_fault : List Node → List Edge → Class → Cell → Option Hanging
middle_leaf_fault nodes edges class c = slice_get (filter_map (middle_fault nodes edges class) (sides_of c)) 0

unfoldable pub middle_layer_fault : List ℤ → Head → List Node → List Edge → List ℕ → List ℕ → Option Hanging
middle_layer_fault t head nodes edges layers components =
    slice_get
    (filter_map (λ id. middle_leaf_fault nodes edges (own_class layers components (cell_at t id).poly) (cell_at t id))
    (leaves_in t head)) 0

-- then it is enough to look at the middle: of a side
abbrev pub MiddleIsEnough : Type 0
MiddleIsEnough =
    (nodes : List Node) (edges : List Edge) (layer component : ℕ) (s : Side)
    → OnlyMiddleStands nodes (Of layer component) s
    → side_fault nodes edges (Of layer component) s ≡ middle_fault nodes edges (Of layer component) s

-- and of all sides of a table
abbrev pub MiddlesAreEnough : Type 0
MiddlesAreEnough =
    (t : List ℤ) (head : Head) (nodes : List Node) (edges : List Edge) (layers components : List ℕ)
    → EachSide (OnlyMiddleStands nodes) t head layers components
    → layer_fault t head nodes edges layers components ≡ middle_layer_fault t head nodes edges layers components

-- the points of a side: the node at its start, those between, and the node at its end
abbrev pub points : List Node → Class → Side → ℕ → ℕ → List ℕ
points nodes class s a b = a ∷ (nodes_between nodes class s.start s.end ++ b ∷ [])

-- of the points i, i + 1 and i + 2 the one between is joined to the one before it and to the one after it
pub record IsJoinedBetween (edges : List Edge) (points : List ℕ) (i : ℕ) : Type 0 where
  pub before : IsTrue (joined edges (slice_index points i) (slice_index points (i + 1)))
  pub after : IsTrue (joined edges (slice_index points (i + 1)) (slice_index points (i + 2)))

-- where nodes stand at both ends, each of the points between them is joined so
abbrev pub IsJoinedAlong : List Node → List Edge → Class → Side → Type 0
IsJoinedAlong nodes edges class s =
    (a b : ℕ) → node_at nodes class s.start ≡ Some a → node_at nodes class s.end ≡ Some b
    → (i : ℕ) → i + 2 < length (points nodes class s a b) → IsJoinedBetween edges (points nodes class s a b) i

-- the check by layer finds nothing exactly if each side of each leaf is joined along
abbrev pub NoneMeansJoined : Type 0
NoneMeansJoined =
    (t : List ℤ) (head : Head) (nodes : List Node) (edges : List Edge) (layers components : List ℕ)
    → (layer_fault t head nodes edges layers components ≡ None) ↔ EachSide (IsJoinedAlong nodes edges) t head layers components
