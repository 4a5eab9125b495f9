-- Several calls, one after the other: more splits before an evening, and splits between two of them.
use Rattle.std.specs.Prelude.{ℕ, ◌≡◌, ◌⊎◌, List, [], ◌∷◌, ℤ, Some}
use Rattle.refusals.specs.Said.{accepted, refusal}
use Rattle.refusals.specs.declared.Refusal.TheVariants.{AlreadySplit}
use Rattle.table.specs.declared.Head.{Head}
use Rattle.table.specs.Mesh.{Cell}
use Rattle.table.specs.Rows.{cells_in, head_values}
use Rattle.table.specs.Refine.{refine_says, refined_row}
use Rattle.coarsest.specs.declared.Engine.{Engine}
use Rattle.coarsest.specs.Names.{◌⊆◌, find, splitting}
use Rattle.coarsest.specs.InTurn.{Name, SameLeaves}
use Rattle.coarsest.specs.Laws.{SameRoots}
use Rattle.even.specs.Even.{even_says, even_row, even_head}

-- a row and its head, as a caller lends them
pub record Lent : Type 0 where
  pub row : List ℤ
  pub head : Head

abbrev pub cells_of : Lent → List Cell
cells_of t = cells_in t.row t.head

-- balance (conform) was called with the one table, had room enough, and left the other: what its contract says of an
-- accepted call
pub record Evened (e : Engine) (before after : Lent) : Type 0 where
  pub splits : ℕ
  pub room_enough : even_says e before.row before.head ≡ accepted (splits ∷ head_values after.head)
  pub row_after : after.row ≡ even_row e before.row before.head

-- what such a call leaves
abbrev pub evened_of : Engine → Lent → Lent
evened_of e t = record { row = even_row e t.row t.head; head = even_head e t.row t.head }

-- refine was called for the cell of a name, and split it: what its contract says of an accepted call
pub record Refined (name : Name) (before after : Lent) : Type 0 where
  pub id : ℕ
  pub named : find (cells_of before) name.root name.route ≡ Some id
  pub possible : refine_says before.row before.head id ≡ accepted (head_values after.head)
  pub row_after : after.row ≡ refined_row before.row before.head id

-- or was refused, because the cell is split already, and so changed nothing
pub record PassedOver (name : Name) (before after : Lent) : Type 0 where
  pub id : ℕ
  pub named : find (cells_of before) name.root name.route ≡ Some id
  pub passed_over : refine_says before.row before.head id ≡ refusal (AlreadySplit id)
  pub unchanged : after ≡ before

-- refine was called for each name of the list in turn: its split was possible, or passed over
abbrev pub RefinedInTurn : List Name → Lent → Lent → Type 0
RefinedInTurn [] before after = after ≡ before
RefinedInTurn (n ∷ ns) before after =
    (next : Lent) × (Refined n before next ⊎ PassedOver n before next) × RefinedInTurn ns next after

-- the same leaves, by name, with box, level and polygon; and as many cells and leaves
pub record SameMesh (t u : Lent) : Type 0 where
  pub leaves : SameLeaves (cells_of t) (cells_of u)
  pub head : t.head ≡ u.head

-- more marks, finer mesh: if a table splits what another one splits, it does so once both are evened out
abbrev pub MoreSplitsFinerMesh : Type 0
MoreSplitsFinerMesh =
    (e : Engine) (few more few_evened more_evened : Lent) → SameRoots (cells_of few) (cells_of more)
    → few.head.max_level ≡ more.head.max_level → splitting (cells_of few) ⊆ splitting (cells_of more)
    → Evened e few few_evened → Evened e more more_evened
    → splitting (cells_of few_evened) ⊆ splitting (cells_of more_evened)

-- marks may come later: a table that is evened out, split further and evened out again has the mesh of the one that is
-- split first and evened out once
abbrev pub LaterSplitsSameMesh : Type 0
LaterSplitsSameMesh =
    (e : Engine) (names : List Name) (start evened split_later in_parts split_first at_once : Lent)
    → Evened e start evened → RefinedInTurn names evened split_later → Evened e split_later in_parts
    → RefinedInTurn names start split_first → Evened e split_first at_once
    → SameMesh in_parts at_once

-- who has room enough for the splits at first and one evening has room enough for the parts, in a row as long; and each
-- split that was possible at first, or passed over, is so after the evening
abbrev pub RoomForParts : Type 0
RoomForParts =
    (e : Engine) (names : List Name) (start split_first at_once : Lent)
    → RefinedInTurn names start split_first → Evened e split_first at_once
    → (evened : Lent) × (split_later : Lent) × (in_parts : Lent)
    × Evened e start evened × RefinedInTurn names evened split_later × Evened e split_later in_parts
