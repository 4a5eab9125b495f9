-- The cells that a table holds, as the rules speak of them: no parent and no child are `none`, and there is no limit on
-- room.
use Rattle.std.specs.Prelude.{ℕ, suc, Bool, List, [], ◌∷◌, ◌++◌, map, ℤ, pos, length, Option, None, Some, unwrap_or}
use Rattle.std.specs.Prelude.{◌==◌, slice_index_or, slice_set, if◌then◌else◌, count_by}
use Rattle.std.specs.List.{range_with_len}
pub use Rattle.std.specs.Prelude.{is_none}
use Rattle.cell.specs.Boxes.{Box, Quad, sw, se, nw, ne, quadrant}
use Rattle.cell.specs.declared.Cell as Held
use Rattle.cell.specs.Cells.{no_cell, box_of}
use Rattle.cell.specs.Ticks.{on}
use Rattle.table.specs.Slots.{cell_at}

-- `parent` is none at a root, and `kids`, the first child's id, none at a leaf
pub record Cell : Type 0 where
  pub box : Box
  pub level : ℕ
  pub parent : Option ℕ
  pub kids : Option ℕ
  pub polygon : ℕ

-- what stands past the table's end: no root, and no split cell
abbrev pub past : Cell
past = record { box = record { x0 = 0; y0 = 0; x1 = 0; y1 = 0 }; level = 0; parent = Some 0; kids = None; polygon = 0 }

abbrev pub at : List Cell → ℕ → Cell
at t i = slice_index_or t i past

-- the child in a quadrant of the cell c, whose id is i
abbrev pub child : ℕ → Cell → Quad → Cell
child i c q = record { box = quadrant c.box q; level = suc c.level; parent = Some i; kids = None; polygon = c.polygon }

abbrev pub with_kids : Cell → ℕ → Cell
with_kids c f = record { box = c.box; level = c.level; parent = c.parent; kids = Some f; polygon = c.polygon }

-- the four children, in the order of their ids
abbrev pub brood : ℕ → Cell → List Cell
brood i c = child i c sw ∷ child i c se ∷ child i c nw ∷ child i c ne ∷ []

-- cell i split: its four children are appended, and it names the first
unfoldable pub split : List Cell → ℕ → List Cell
split t i = slice_set t i (with_kids (at t i) (length t)) ++ brood i (at t i)

abbrev pub is_leaf : List Cell → ℕ → Bool
is_leaf t i = is_none (at t i).kids

-- how many cells have no child, and how many no parent
unfoldable pub leaf_count : List Cell → ℕ
leaf_count t = count_by (λ c. is_none c.kids) t

unfoldable pub root_count : List Cell → ℕ
root_count t = count_by (λ c. is_none c.parent) t

-- the row's NO_CELL is `none`; and the way back
abbrev pub opt : ℕ → Option ℕ
opt v = if v == no_cell then None else Some v

abbrev pub marked : Option ℕ → ℤ
marked o = pos (unwrap_or o no_cell)

abbrev pub mesh_cell : Held.Cell → Cell
mesh_cell c = record { box = box_of c; level = c.level; parent = opt c.parent; kids = opt c.first; polygon = c.poly }

-- the eight numbers of a cell's slot: x0 y0 x1 y1 level parent first-child polygon
abbrev pub slot_numbers : Cell → List ℤ
slot_numbers c =
    on c.box.x0 ∷ on c.box.y0 ∷ on c.box.x1 ∷ on c.box.y1
    ∷ pos c.level ∷ marked c.parent ∷ marked c.kids ∷ pos c.polygon ∷ []

-- the cells of the row's first n slots
unfoldable pub table : List ℤ → ℕ → List Cell
table t n = map (λ i. mesh_cell (cell_at t i)) (range_with_len 0 n)
