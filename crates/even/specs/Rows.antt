-- The row that holds a list of cells: eight numbers a cell, and zeros behind them.
use Rattle.std.specs.Prelude.{ℕ, ◌-◌, List, ◌++◌, ℤ, pos, length, replicate}
use Rattle.std.specs.List.{flat_map}
use Rattle.table.specs.Mesh.{Cell, slot_numbers}

unfoldable pub flat : List Cell → List ℤ
flat cells = flat_map slot_numbers cells

-- the cells in a row of this length
unfoldable pub row_of : List Cell → ℕ → List ℤ
row_of cells size = flat cells ++ replicate (size - length (flat cells)) (pos 0)
