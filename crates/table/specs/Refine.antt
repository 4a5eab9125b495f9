-- Splitting one leaf: what the call says, and what the row then holds.
use Rattle.std.specs.Prelude.{ℕ, ◌+◌, ◌/◌, if◌then◌else◌, nat_lt, nat_le, List, ℤ, length, Result}
use Rattle.refusals.specs.Said.{Said, accepted, refusal, said, is_accepted}
use Rattle.refusals.specs.declared.Refusal.{Refusal}
use Rattle.refusals.specs.declared.Refusal.TheVariants.{BadTable, NoSuchCell, AlreadySplit, FinestLevel, NoRoom}
use Rattle.cell.specs.declared.Cell as Held
use Rattle.cell.specs.Boxes.{quad_at}
use Rattle.cell.specs.Cells.{child_of}
use Rattle.table.specs.declared.Head.{Head}
use Rattle.table.specs.Slots.{cell_at, put_cell, put_first}
use Rattle.table.specs.Formed.{well_formed}
use Rattle.table.specs.Mesh.{at, is_leaf}
use Rattle.table.specs.Rows.{cells_in, head_values, after_split}

-- child k of cell i in slot n + k
unfoldable pub put_kid : List ℤ → ℕ → ℕ → Held.Cell → ℕ → List ℤ
put_kid t n i c k = put_cell t (n + k) (child_of i (quad_at k) c)

-- cell i of a row of n cells split: its four children are appended in the order SW, SE, NW, NE, and it names the first
unfoldable pub split_row : List ℤ → ℕ → ℕ → List ℤ
split_row t n i =
    let c = cell_at t i in
    put_first (put_kid (put_kid (put_kid (put_kid t n i c 0) n i c 1) n i c 2) n i c 3) i n

-- an answer's values: the new head
abbrev pub refined_said : Result Head Refusal → Said
refined_said = said head_values

-- 7, 8, 9, 10, 6, in that order
abbrev pub refine_says : List ℤ → Head → ℕ → Said
refine_says row head id =
    if well_formed row head then
    (if nat_lt id head.count then
    (if is_leaf (cells_in row head) id then
    (if nat_lt (at (cells_in row head) id).level head.max_level then
    (if nat_le (head.count + 4) (length row / 8) then accepted (head_values (after_split head))
    else refusal NoRoom)
    else refusal (FinestLevel id))
    else refusal (AlreadySplit id))
    else refusal (NoSuchCell id))
    else refusal BadTable

-- a refused call changes nothing
abbrev pub refined_row : List ℤ → Head → ℕ → List ℤ
refined_row row head id = if is_accepted (refine_says row head id) then split_row row head.count id else row
