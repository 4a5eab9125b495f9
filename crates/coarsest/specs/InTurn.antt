-- A list of cells, by name, split in turn: each is split where it is a leaf, and passed over where it is split already.
use Rattle.std.specs.Prelude.{ℕ, ◌<◌, ◌≡◌, ◌⊎◌, true, List, [], ◌∷◌, fold, Option, None, Some, option_and_then}
use Rattle.std.specs.Bool.{then_some}
use Rattle.std.specs.Option.{option_map_or}
use Rattle.cell.specs.Boxes.{Box}
use Rattle.table.specs.Mesh.{Cell, at, is_leaf}
use Rattle.coarsest.specs.Passes.{split_if}
use Rattle.coarsest.specs.Names.{Route, find, splitting}

pub record Name : Type 0 where
  pub root : ℕ
  pub route : Route

-- the table with the cell of this name split. It stays as it is where that is no leaf, or where there is no such cell
unfoldable pub split_named : List Cell → Name → List Cell
split_named t name = option_map_or (λ i. split_if (is_leaf t i) t i) (find t name.root name.route) t

unfoldable pub split_in_turn : List Cell → List Name → List Cell
split_in_turn t names = fold split_named t names

-- the split is possible: the cell is a leaf, and not at the deepest level
pub record Possible (M : ℕ) (t : List Cell) (name : Name) : Type 0 where
  pub id : ℕ
  pub named : find t name.root name.route ≡ Some id
  pub whole : (at t id).kids ≡ None
  pub finer : (at t id).level < M

-- the split is passed over: the cell is split already
abbrev pub PassedOver : List Cell → Name → Type 0
PassedOver t name = splitting t name.root name.route ≡ true

-- every listed split is possible in its turn, or passed over
abbrev pub EachInTurn : ℕ → List Cell → List Name → Type 0
EachInTurn M t [] = Unit {0}
EachInTurn M t (n ∷ ns) = (Possible M t n ⊎ PassedOver t n) × EachInTurn M (split_named t n) ns

-- a leaf, whatever its id
pub record Placed : Type 0 where
  pub box : Box
  pub level : ℕ
  pub polygon : ℕ

abbrev pub placed : List Cell → ℕ → Option Placed
placed t i =
    then_some (is_leaf t i) (record { box = (at t i).box; level = (at t i).level; polygon = (at t i).polygon })

-- the leaf of a name, and none where no leaf has it
abbrev pub leaf_named : List Cell → ℕ → Route → Option Placed
leaf_named t r p = option_and_then (placed t) (find t r p)

-- the two tables have the same leaves, by name
abbrev pub SameLeaves : List Cell → List Cell → Type 0
SameLeaves t u = (r : ℕ) (p : Route) → leaf_named t r p ≡ leaf_named u r p
