-- What build leaves of a polygon of one strip, or of a ring in pitch, and how it stays: the laws that src/built.rt
-- promises. Definitions only.
use Rattle.std.specs.Prelude.{ℕ, ◌*◌, ◌%◌, ◌≡◌, ◌<◌, ◌==◌, ◌&&◌, Bool, List, [], ◌∷◌, ℤ, Float, length, nat_le}
use Rattle.std.specs.Prelude.{slice_get, All, IsTrue, Some}
use Rattle.std.specs.List.{list_all, range_with_len}
use Rattle.table.specs.Mesh.{Cell, table}
use Rattle.strips.specs.declared.walk.Strip.{Strip}
use Rattle.strips.specs.Rings.{x_at, y_at}
use Rattle.build.specs.Board.{Board, polygons, ring_at, size_at, strips_at}
use Rattle.build.specs.Grid.{width, height}
use Rattle.build.specs.Says.{build_leaves}
use Rattle.build.specs.Laws.{Accepts}
use Rattle.coarsest.specs.Passes.{balance}
use Rattle.net.specs.Net.{Poly, leaves_of, network}
use Rattle.laws.specs.Grids.{OneGrid, Splits}
use Rattle.laws.specs.Fit.{RootsFit, NoneTouches}
use Rattle.laws.specs.Joined.{SidesJoined}
use Rattle.laws.specs.Hanging.{NoneHangs}

-- an accepted call of build: its board, the polygons' other rows, the row lent for the table, and the number of roots
pub record BuiltBoard : Type 0 where
  pub board : Board
  pub components : List ℕ
  pub sheets : List Float
  pub lent : List ℤ
  pub count : ℕ
  pub accepting : Accepts board components sheets (length lent) count

-- the cells that it leaves
abbrev pub built : BuiltBoard → List Cell
built b = table (build_leaves b.board b.components b.sheets b.lent) b.count

-- the outline of the polygon k is one strip
pub record IsStrip (b : BuiltBoard) (k : ℕ) : Type 0 where
  pub there : k < polygons b.board
  pub strip : Strip
  pub only : strips_at b.board k ≡ strip ∷ []

-- its roots are one grid
abbrev pub BuiltIsOneStrip : Type 0
BuiltIsOneStrip = (b : BuiltBoard) (k : ℕ) → IsStrip b k → OneGrid (built b) k

-- ---- rings in pitch

-- the points' x are congruent modulo c, the size of a base cell, and so are their y
unfoldable pub in_pitch : ℕ → List (List ℤ) → Bool
in_pitch c ps =
    list_all (λ i. x_at ps i % c == x_at ps 0 % c && y_at ps i % c == y_at ps 0 % c)
    (range_with_len 0 (length ps))

-- no strip is wider or higher than so many base cells
unfoldable pub within_cap : ℕ → ℕ → List Strip → Bool
within_cap cap c ss = list_all (λ s. nat_le (width s) (cap * c) && nat_le (height s) (cap * c)) ss

-- the ring of the polygon k is in pitch, and no strip of it is wider or higher than the cap allows
pub record IsInPitch (b : BuiltBoard) (k : ℕ) : Type 0 where
  pub there : k < polygons b.board
  pub congruent : IsTrue (in_pitch (size_at b.board k) (ring_at b.board.counts b.board.points k))
  pub within : IsTrue (within_cap b.board.settings.cap (size_at b.board k) (strips_at b.board k))

-- then its roots, of however many strips, are one grid
abbrev pub BuiltIsOneGrid : Type 0
BuiltIsOneGrid = (b : BuiltBoard) (k : ℕ) → IsInPitch b k → OneGrid (built b) k

-- and so they fit
abbrev pub BuiltFits : Type 0
BuiltFits = (b : BuiltBoard) (k : ℕ) → IsInPitch b k → RootsFit (built b) k

-- ---- refined in any way, and balanced

-- none of a polygon's nodes hangs if its roots fit, whatever the other polygons are
abbrev pub BuiltHangsNot : Type 0
BuiltHangsNot =
    (b : BuiltBoard) (t : List Cell) (ps : List Poly) (k : ℕ) (p : Poly)
    → RootsFit (built b) k → Splits b.board.settings.max_level (built b) t
    → slice_get ps k ≡ Some p
    → let u = balance b.board.settings.max_level t in NoneHangs (network u ps) p (leaves_of u k)

-- and the sides of its leaves are joined if no other polygon of its layer and component touches it
abbrev pub BuiltJoinsSides : Type 0
BuiltJoinsSides =
    (b : BuiltBoard) (t : List Cell) (ps : List Poly) (k : ℕ) (p : Poly)
    → RootsFit (built b) k → NoneTouches (built b) ps k → Splits b.board.settings.max_level (built b) t
    → slice_get ps k ≡ Some p
    → let u = balance b.board.settings.max_level t in All (SidesJoined (network u ps) p) (leaves_of u k)
