-- The sides of a leaf, and the places along one.
use Rattle.std.specs.Prelude.{ℕ, ◌+◌, ◌-◌, ◌≤◌, ◌≡◌, min, max, List, [], ◌∷◌, map, if◌then◌else◌, nat_le}
use Rattle.std.specs.List.{range_with_len}
use Rattle.std.specs.Int.{abs_diff}
use Rattle.refusals.specs.Limits.{coordinate}
use Rattle.cell.specs.declared.Cell.{Cell}
use Rattle.cell.specs.Boxes.{mid}
use Rattle.net_rows.specs.declared.axis.Axis.{Axis}
use Rattle.net_rows.specs.declared.axis.Axis.TheVariants.{Column, Row}
use Rattle.checks.specs.declared.asked.Place.{Place}
use Rattle.checks.specs.declared.asked.Side.{Side}

-- from one place to another, on a line of that axis
abbrev pub between : Axis → Place → Place → Side
between axis a b = record { axis = axis; start = a; middle = record { x = mid a.x b.x; y = mid a.y b.y }; end = b }

-- each walked anticlockwise round the leaf
abbrev pub south : Cell → Side
south c = between Row (record { x = c.x0; y = c.y0 }) (record { x = c.x1; y = c.y0 })

abbrev pub east : Cell → Side
east c = between Column (record { x = c.x1; y = c.y0 }) (record { x = c.x1; y = c.y1 })

abbrev pub north : Cell → Side
north c = between Row (record { x = c.x1; y = c.y1 }) (record { x = c.x0; y = c.y1 })

abbrev pub west : Cell → Side
west c = between Column (record { x = c.x0; y = c.y1 }) (record { x = c.x0; y = c.y0 })

-- in the order in which they are looked at
abbrev pub sides_of : Cell → List Side
sides_of c = south c ∷ east c ∷ north c ∷ west c ∷ []

-- ---- the places along a side

-- d ticks on from a towards b, and no further than b
abbrev pub toward : ℕ → ℕ → ℕ → ℕ
toward a b d = if nat_le a b then min (a + d) b else max (a - d) b

abbrev pub place_toward : Place → Place → ℕ → Place
place_toward a b d = record { x = toward a.x b.x d; y = toward a.y b.y d }

-- how far it is between two places of one line
abbrev pub ticks_between : Place → Place → ℕ
ticks_between a b = abs_diff a.x b.x + abs_diff a.y b.y

-- every place strictly between two of one line, in the order of the walk from a to b
unfoldable pub places_between : Place → Place → List Place
places_between a b = map (place_toward a b) (range_with_len 1 (ticks_between a b - 1))

-- the two are on one line of that axis: a column's places have one x, a row's one y
abbrev pub OnLine : Axis → Place → Place → Type 0
OnLine Column a b = a.x ≡ b.x
OnLine Row a b = a.y ≡ b.y

-- a place in range
pub record Near (p : Place) : Type 0 where
  pub x : p.x ≤ coordinate + coordinate
  pub y : p.y ≤ coordinate + coordinate

pub record NearSide (s : Side) : Type 0 where
  pub line : OnLine s.axis s.start s.end
  pub start : Near s.start
  pub middle : Near s.middle
  pub end : Near s.end

-- the coordinates of a cell in a table
pub record NearCell (c : Cell) : Type 0 where
  pub west : c.x0 ≤ coordinate + coordinate
  pub south : c.y0 ≤ coordinate + coordinate
  pub east : c.x1 ≤ coordinate + coordinate
  pub north : c.y1 ≤ coordinate + coordinate
