-- A board as build is given it, and its polygons' rings and roots.
use Rattle.std.specs.Prelude.{ℕ, ◌+◌, ◌^◌, List, ℤ, length, sum, take, drop, slice_index}
use Rattle.std.specs.List.{flat_map, range_with_len}
use Rattle.strips.specs.Strips.{strips_of}
use Rattle.strips.specs.declared.walk.Strip.{Strip}
use Rattle.build.specs.declared.Settings.{Settings}
use Rattle.build.specs.declared.outlines.Outlines.{Outlines}
use Rattle.build.specs.Grid.{Root, roots_in, size_of}

-- what the roots come from. A polygon's component and sheet resistance play no part
pub record Board : Type 0 where
  pub settings : Settings
  -- the layer list: layer and cell in each row
  pub list : List (List ℕ)
  -- of each polygon its layer and how many points it has; and all points
  pub layers : List ℕ
  pub counts : List ℕ
  pub points : List (List ℤ)

abbrev pub board : Settings → List (List ℕ) → List ℕ → List ℕ → List (List ℤ) → Board
board s list layers counts points =
    record { settings = s; list = list; layers = layers; counts = counts; points = points }

-- the same of the lent rows
abbrev pub board_of : Settings → List (List ℕ) → Outlines → Board
board_of s list o = board s list o.layers.now o.counts.now o.points.now

-- the points of polygon p: the rings stand one behind the other
unfoldable pub ring_at : List ℕ → List (List ℤ) → ℕ → List (List ℤ)
ring_at cs ps p = take (slice_index cs p) (drop (sum (take p cs)) ps)

abbrev pub polygons : Board → ℕ
polygons b = length b.counts

-- base sides are to be multiples of this
abbrev pub unit : Board → ℕ
unit b = 2 ^ (b.settings.max_level + 1)

abbrev pub size_at : Board → ℕ → ℕ
size_at b p = size_of b.list (slice_index b.layers p) b.settings.target

abbrev pub strips_at : Board → ℕ → List Strip
strips_at b p = strips_of (ring_at b.counts b.points p)

abbrev pub roots_at : Board → ℕ → List Root
roots_at b p = roots_in p b.settings.cap (size_at b p) (strips_at b p)

-- the roots of the first n polygons: "polygons in order"
unfoldable pub roots_to : Board → ℕ → List Root
roots_to b n = flat_map (roots_at b) (range_with_len 0 n)

abbrev pub roots_of : Board → List Root
roots_of b = roots_to b (polygons b)
