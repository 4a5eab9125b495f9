-- Cells in the slots of a lent row, eight numbers to a slot: x0 y0 x1 y1 level parent first-child polygon.
use Rattle.std.specs.Prelude.{ℕ, ◌+◌, ◌*◌, ◌-◌, ◌^◌, min, Bool, ◌&&◌, List, ℤ, pos, negsuc, slice_index_or}
use Rattle.std.specs.Prelude.{slice_set}
use Rattle.std.specs.Int.Signed.{non_neg}
use Rattle.std.specs.Ordering.{int_eq}
use Rattle.cell.specs.declared.Cell.{Cell}
use Rattle.cell.specs.Ticks.{off, on, in_range}

-- a number of the row that is not negative, and 0 for one that is; and the way back
unfoldable pub counted : ℤ → ℕ
counted (pos n) = n
counted (negsuc n) = 0

unfoldable pub kept : ℕ → ℤ
kept n = pos (min n (2 ^ 63 - 1))

-- two numbers of the row are the same
unfoldable pub same_z : ℤ → ℤ → Bool
same_z = int_eq

-- the number at an index of slot i
abbrev pub number : List ℤ → ℕ → ℕ → ℤ
number t i k = slice_index_or t (i * 8 + k) (pos 0)

-- the first number of slot i
abbrev pub start : List ℤ → ℕ → ℤ
start t i = slice_index_or t (i * 8) (pos 0)

-- the cell in slot i, with its coordinates moved up by 2^36
unfoldable pub cell_at : List ℤ → ℕ → Cell
cell_at t i = record {
  x0 = off (start t i);
  y0 = off (number t i 1);
  x1 = off (number t i 2);
  y1 = off (number t i 3);
  level = counted (number t i 4);
  parent = counted (number t i 5);
  first = counted (number t i 6);
  poly = counted (number t i 7);
}

unfoldable pub stored : List ℤ → ℕ → ℤ → List ℤ
stored = slice_set

-- the row with the cell c in slot i
unfoldable pub put_cell : List ℤ → ℕ → Cell → List ℤ
put_cell t i c =
    let corner = stored (stored t (i * 8) (on c.x0)) (i * 8 + 1) (on c.y0) in
    let box = stored (stored corner (i * 8 + 2) (on c.x1)) (i * 8 + 3) (on c.y1) in
    let place = stored (stored box (i * 8 + 4) (kept c.level)) (i * 8 + 5) (kept c.parent) in
    stored (stored place (i * 8 + 6) (kept c.first)) (i * 8 + 7) (kept c.poly)

-- the row with another first child for the cell in slot i
unfoldable pub put_first : List ℤ → ℕ → ℕ → List ℤ
put_first t i first = stored t (i * 8 + 6) (kept first)

-- slot i holds the numbers of a cell: coordinates in range, and the others not negative
unfoldable pub in_slot : List ℤ → ℕ → Bool
in_slot t i =
    in_range (start t i) && in_range (number t i 1) && in_range (number t i 2) && in_range (number t i 3)
    && non_neg (number t i 4) && non_neg (number t i 5) && non_neg (number t i 6) && non_neg (number t i 7)
