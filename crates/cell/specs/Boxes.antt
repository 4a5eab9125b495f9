-- Boxes, their quadrants, and the borders that two of them share, in whole ticks.
use Rattle.std.specs.Prelude.{ℕ, zero, suc, ◌+◌, ◌-◌, ◌/◌, ◌<◌, min, max, Bool, ◌==◌, nat_lt, if◌then◌else◌}
use Rattle.std.specs.Prelude.{List, [], ◌∷◌, Option, None, Some, is_some}
use Rattle.cell.specs.declared.border.Border.{Border}
use Rattle.cell.specs.declared.border.Side.{Side}
use Rattle.cell.specs.declared.border.Side.TheVariants.{South, East, North, West}
use Rattle.cell.specs.declared.Quadrant.{Quadrant}
use Rattle.cell.specs.declared.Quadrant.TheVariants.{SouthWest, SouthEast, NorthWest, NorthEast}

pub record Box : Type 0 where
  pub x0 : ℕ
  pub y0 : ℕ
  pub x1 : ℕ
  pub y1 : ℕ

-- both sides are positive
abbrev pub HasArea : Box → Type 0
HasArea b = (b.x0 < b.x1) × (b.y0 < b.y1)

-- the four quadrants, in the order of the children's ids
abbrev pub Quad : Type 0
Quad = Quadrant

pattern abbrev pub sw : Quadrant
sw = SouthWest

pattern abbrev pub se : Quadrant
se = SouthEast

pattern abbrev pub nw : Quadrant
nw = NorthWest

pattern abbrev pub ne : Quadrant
ne = NorthEast

abbrev pub num : Quad → ℕ
num sw = 0
num se = 1
num nw = 2
num ne = 3

abbrev pub quad_at : ℕ → Quad
quad_at zero = sw
quad_at (suc zero) = se
quad_at (suc (suc zero)) = nw
quad_at (suc (suc (suc k))) = ne

-- where a side is cut: at its middle where that is a whole tick, and at the tick below it otherwise
abbrev pub mid : ℕ → ℕ → ℕ
mid a b = (a + b) / 2

abbrev pub quadrant : Box → Quad → Box
quadrant b sw = record { x0 = b.x0; y0 = b.y0; x1 = mid b.x0 b.x1; y1 = mid b.y0 b.y1 }
quadrant b se = record { x0 = mid b.x0 b.x1; y0 = b.y0; x1 = b.x1; y1 = mid b.y0 b.y1 }
quadrant b nw = record { x0 = b.x0; y0 = mid b.y0 b.y1; x1 = mid b.x0 b.x1; y1 = b.y1 }
quadrant b ne = record { x0 = mid b.x0 b.x1; y0 = mid b.y0 b.y1; x1 = b.x1; y1 = b.y1 }

-- ---- borders

abbrev pub side_number : Side → ℕ
side_number South = 0
side_number East = 1
side_number North = 2
side_number West = 3

-- how long is what the ranges a to b and c to d have in common: it begins where the later of them begins, and ends
-- where the earlier ends
abbrev pub common : ℕ → ℕ → ℕ → ℕ → ℕ
common a b c d = min b d - max a c

-- how long the border of a and b is on a side of a: "East: a.x1 = b.x0; west: b.x1 = a.x0; length: the overlap of the y
-- ranges. North: a.y1 = b.y0; south: b.y1 = a.y0; length: the overlap of the x ranges"
abbrev pub length_on : Side → Box → Box → ℕ
length_on South a b = if b.y1 == a.y0 then common a.x0 a.x1 b.x0 b.x1 else 0
length_on East a b = if a.x1 == b.x0 then common a.y0 a.y1 b.y0 b.y1 else 0
length_on North a b = if a.y1 == b.y0 then common a.x0 a.x1 b.x0 b.x1 else 0
length_on West a b = if b.x1 == a.x0 then common a.y0 a.y1 b.y0 b.y1 else 0

-- the first of some sides of a that counts: "a side counts where its length is positive"
abbrev pub first_border : List Side → Box → Box → Option Border
first_border [] a b = None
first_border (s ∷ ss) a b =
    if nat_lt 0 (length_on s a b) then Some (record { side = s; length = length_on s a b })
    else first_border ss a b

-- the border that a shares with b. Only boxes without an area can have more than one side that counts
unfoldable pub border : Box → Box → Option Border
border a b = first_border (East ∷ West ∷ North ∷ South ∷ []) a b

-- "shares an edge" is: any border
unfoldable pub shares_edge : Box → Box → Bool
shares_edge a b = is_some (border a b)
