-- What the code's walk over the cells tests, step by step. Internal: the contract of the walk is `list_all cell_ok`,
-- and proofs/Walk.antt shows that the steps say the same. In a well-formed table the cells are roots and fours of
-- children; the walk goes from each to the next.
use Rattle.std.specs.Prelude.{ℕ, ◌+◌, ◌^◌, ◌≡◌, Bool, ◌&&◌, ◌||◌, List, ℤ, pos, ◌==◌, if◌then◌else◌, nat_lt}
use Rattle.std.specs.Prelude.{nat_le}
use Rattle.refusals.specs.Limits.{max_polygons}
use Rattle.cell.specs.Boxes.{Quad, sw, se, nw, ne}
use Rattle.cell.specs.declared.Cell as Held
use Rattle.cell.specs.Cells.{no_cell, child_of}
use Rattle.cell.specs.Ticks.{on}
use Rattle.table.specs.Slots.{same_z, number, start, cell_at, in_slot}
use Rattle.table.specs.Formed.{root_ok}

-- a power of two
abbrev pub Power : ℕ → Type 0
Power step = (k : ℕ) × (step ≡ 2 ^ k)

-- slot j holds the child in a quadrant of the cell c in slot i, whatever children it has itself
unfoldable pub kid_at : List ℤ → ℕ → Held.Cell → ℕ → Quad → Bool
kid_at t i c j q =
    let kid = child_of i q c in
    same_z (start t j) (on kid.x0) && same_z (number t j 1) (on kid.y0) && same_z (number t j 2) (on kid.x1)
    && same_z (number t j 3) (on kid.y1) && same_z (number t j 4) (pos kid.level) && same_z (number t j 5) (pos i)
    && same_z (number t j 7) (number t i 7)

-- the four slots from f on hold the children of cell i
unfoldable pub kids_at : List ℤ → ℕ → ℕ → ℕ → Bool
kids_at t M i f =
    let c = cell_at t i in
    nat_lt c.level M
    && (kid_at t i c f sw && kid_at t i c (f + 1) se && kid_at t i c (f + 2) nw && kid_at t i c (f + 3) ne)

-- f where it is a slot below n, and otherwise i
abbrev pub slot_or : ℕ → ℕ → ℕ → ℕ
slot_or f n i = if nat_lt f n then f else i

-- cell i names no child, or one past it that names it as its parent
unfoldable pub led_at : List ℤ → ℕ → ℕ → Bool
led_at t n i =
    let g = slot_or (cell_at t i).first n i in
    (cell_at t i).first == no_cell || (nat_lt i g && same_z (number t g 5) (pos i))

-- a root stands in slot i
unfoldable pub root_at : List ℤ → ℕ → ℕ → ℕ → Bool
root_at t n step i =
    in_slot t i && (nat_lt (cell_at t i).poly max_polygons && root_ok step (cell_at t i)) && led_at t n i

-- the four children of cell p stand in the slots from i on
unfoldable pub four_at : List ℤ → ℕ → ℕ → ℕ → ℕ → Bool
four_at t n M i p =
    nat_le (i + 4) n && nat_lt p i && (same_z (number t p 6) (pos i) && kids_at t M p i)
    && (led_at t n i && led_at t n (i + 1) && led_at t n (i + 2) && led_at t n (i + 3))
