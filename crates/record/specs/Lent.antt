-- The rows that a caller lends, as lists.
use Rattle.std.specs.Prelude.{ℕ, List, ℤ, Float}
use Rattle.std.specs.Borrow.{MutBor}
use Rattle.record.specs.declared.rows.BoardRows.{BoardRows}
use Rattle.record.specs.declared.rows.BoardRowsMut.{BoardRowsMut}
use Rattle.record.specs.Rows.{Rows, rows_of}

abbrev pub lent_rows : BoardRows → Rows
lent_rows r = rows_of r.layers.now r.polygons.now r.sheets.now r.points.now r.splits.now

-- the rows to fill, as they are lent
abbrev pub rows_to_fill : BoardRowsMut → Rows
rows_to_fill r = rows_of r.layers.now r.polygons.now r.sheets.now r.points.now r.splits.now

-- what the call gives back of them: each row, in the order of the fields
abbrev pub RowsBack : Type 0
RowsBack =
    MutBor (List (List ℕ))
    × (MutBor (List (List ℕ)) × (MutBor (List Float) × (MutBor (List (List ℤ)) × (MutBor (List ℕ) × Unit {0}))))

-- and as the call leaves them
abbrev pub rows_left : RowsBack → Rows
rows_left r = rows_of r.0.now r.1.0.now r.1.1.0.now r.1.1.1.0.now r.1.1.1.1.0.now
