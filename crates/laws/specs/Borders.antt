-- The borders along a leaf's side add up to the side: the laws that src/borders.rt promises. Definitions only.
use Rattle.std.specs.Prelude.{ℕ, ◌+◌, ◌*◌, ◌-◌, ◌<◌, ◌≡◌, ◌==◌, ◌&&◌, if◌then◌else◌, is_none}
use Rattle.std.specs.Prelude.{List, length, Option, None, Some}
use Rattle.std.specs.List.{sum_by}
use Rattle.cell.specs.declared.border.Border.{Border}
use Rattle.cell.specs.declared.border.Side.{Side}
use Rattle.cell.specs.declared.border.Side.TheVariants.{South, East, North, West}
use Rattle.cell.specs.Boxes.{Box, HasArea, side_number, length_on, border}
use Rattle.cell.specs.Laws.{turned}
use Rattle.table.specs.Mesh.{Cell, at}
use Rattle.table.specs.Formed.{Formed}
use Rattle.coarsest.specs.Passes.{balance}
use Rattle.laws.specs.Grids.{RootOf, LeafOf, OneGrid, Splits}
use Rattle.laws.specs.Built.{BuiltBoard, IsStrip, built}

-- how long a side of a box is
abbrev pub side_length : Side → Box → ℕ
side_length South b = b.x1 - b.x0
side_length East b = b.y1 - b.y0
side_length North b = b.x1 - b.x0
side_length West b = b.y1 - b.y0

-- on one side of cell i, the lengths of its borders with all leaves of the polygon k, added up
unfoldable pub borders_length : List Cell → ℕ → Side → ℕ → ℕ
borders_length t k s i =
    sum_by (λ c. if is_none c.kids && c.polygon == k then length_on s (at t i).box c.box else 0) t

-- the roots of the polygon k are a whole grid: it has so many columns and rows, and a root in each place, and none
-- elsewhere. A polygon of one strip is such a polygon
pub record FullGrid (t : List Cell) (k : ℕ) : Type 0 where
  pub one : OneGrid t k
  pub columns : ℕ
  pub rows : ℕ
  pub inside : (r : ℕ) → RootOf t k r → (one.column r < columns) × (one.row r < rows)
  pub full : (i j : ℕ) → i < columns → j < rows → (r : ℕ) × RootOf t k r × (one.column r ≡ i) × (one.row r ≡ j)

-- the rectangle that the grid fills
abbrev pub outline : {t : List Cell} {k : ℕ} → FullGrid t k → Box
outline f =
    let g = f.one.grid in
    record { x0 = g.west; y0 = g.south; x1 = g.west + g.wide * f.columns; y1 = g.south + g.high * f.rows }

-- that side of the box lies on the outline o
abbrev pub OnOutline : Box → Side → Box → Type 0
OnOutline o South b = b.y0 ≡ o.y0
OnOutline o East b = b.x1 ≡ o.x1
OnOutline o North b = b.y1 ≡ o.y1
OnOutline o West b = b.x0 ≡ o.x0

-- the borders on that side of cell i add up to the side, or it lies on the outline o and has none
pub record BordersFill (t : List Cell) (k : ℕ) (o : Box) (i : ℕ) (s : Side) : Type 0 where
  pub inside : ¬ OnOutline o s (at t i).box → borders_length t k s i ≡ side_length s (at t i).box
  pub outside : OnOutline o s (at t i).box → borders_length t k s i ≡ 0

-- so it is on each side of each leaf of the polygon
abbrev pub AllBordersFill : (t : List Cell) (k : ℕ) → FullGrid t k → Type 0
AllBordersFill t k f = (i : ℕ) → LeafOf t k i → (s : Side) → BordersFill t k (outline f) i s

-- in any table, balanced or not, if the polygon's roots are a whole grid, whatever the other polygons are
abbrev pub BordersFillSides : Type 0
BordersFillSides =
    (max_level : ℕ) (t : List Cell) (k : ℕ) → Formed max_level t → (f : FullGrid t k) → AllBordersFill t k f

-- ---- contact

-- how long the border is that contact answers, if it is on this side, and otherwise 0
abbrev pub answered_on : Side → Option Border → ℕ
answered_on s None = 0
answered_on s (Some b) = if side_number b.side == side_number s then b.length else 0

-- that is the length which is added up
abbrev pub BordersAreAnswered : Type 0
BordersAreAnswered =
    (a b : Box) → HasArea a → HasArea b → (s : Side) → answered_on s (border a b) ≡ length_on s a b

-- of two cells of a table at most one side has a border
abbrev pub CellsHaveOneSide : Type 0
CellsHaveOneSide =
    (max_level : ℕ) (t : List Cell) (i j : ℕ) → Formed max_level t → i < length t → j < length t
    → (s u : Side) → 0 < length_on s (at t i).box (at t j).box → 0 < length_on u (at t i).box (at t j).box → s ≡ u

-- and the other one has it on the opposite side, as long
abbrev pub CellsTurned : Type 0
CellsTurned =
    (max_level : ℕ) (t : List Cell) (i j : ℕ) → Formed max_level t → i < length t → j < length t
    → border (at t j).box (at t i).box ≡ turned (border (at t i).box (at t j).box)

-- ---- a polygon of one strip

-- the roots that build leaves of one are a whole grid
abbrev pub BuiltIsFullGrid : Type 0
BuiltIsFullGrid = (b : BuiltBoard) (k : ℕ) → IsStrip b k → FullGrid (built b) k

-- they stay one, refined in any way, and then balanced, and so borders fill the sides of the polygon's leaves
abbrev pub BuiltBordersFill : Type 0
BuiltBordersFill =
    (b : BuiltBoard) (k : ℕ) → IsStrip b k → (t : List Cell) → Splits b.board.settings.max_level (built b) t
    → let u = balance b.board.settings.max_level t in
    ((f : FullGrid t k) × AllBordersFill t k f) × ((f : FullGrid u k) × AllBordersFill u k f)
