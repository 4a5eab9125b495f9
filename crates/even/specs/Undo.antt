-- Taking splits back: a row as it was when it had n cells. A split changes nothing below the count but the first child
-- of a leaf, and what stands past the count was zero.
use Rattle.std.specs.Prelude.{ℕ, ◌*◌, ◌%◌, ◌&&◌, List, map, ℤ, pos, ◌==◌, if◌then◌else◌, nat_le}
use Rattle.std.specs.List.{enumerate_from}
use Rattle.std.specs.Int.Signed.{le_z}
use Rattle.cell.specs.Cells.{no_cell}

-- number j of the row: past the cells it is 0, and a first child at or past the count is none
unfoldable pub undone_at : ℕ → ℕ → ℤ → ℤ
undone_at n j z = if nat_le (n * 8) j then pos 0 else if j % 8 == 6 && le_z (pos n) z then pos no_cell else z

unfoldable pub undone : ℕ → List ℤ → List ℤ
undone n t = map (λ z. undone_at n z.0 z.1) (enumerate_from 0 t)
