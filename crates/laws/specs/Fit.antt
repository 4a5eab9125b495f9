-- Roots that fit, and polygons that don't touch. Definitions only.
use Rattle.std.specs.Prelude.{ℕ, ◌-◌, ◌/◌, ◌%◌, ◌<◌, ◌≤◌, ◌≡◌, min, max, List, length}
use Rattle.cell.specs.Boxes.{Box}
use Rattle.table.specs.Mesh.{Cell, at}
use Rattle.net.specs.Net.{Poly}
use Rattle.laws.specs.Grids.{RootOf}
use Rattle.laws.specs.Made.{poly_at}

-- the ranges from a to b and from c to d have an inner point in common
abbrev pub Meet : ℕ → ℕ → ℕ → ℕ → Type 0
Meet a b c d = max a c < min b d

-- the boxes have one; a common side or corner is none
abbrev pub Overlap : Box → Box → Type 0
Overlap a b = Meet a.x0 a.x1 b.x0 b.x1 × Meet a.y0 a.y1 b.y0 b.y1

-- the ranges are equally long, and begin a multiple of half that length apart
pub record InStep (a b c d : ℕ) : Type 0 where
  pub long : b - a ≡ d - c
  pub apart : a % ((b - a) / 2) ≡ c % ((b - a) / 2)

-- the roots do not overlap, and where one stands on the other, or beside it, and their ranges meet there, they are in
-- step
pub record Fit (a b : Box) : Type 0 where
  pub apart : Overlap a b → ⊥
  pub on_top : a.y1 ≡ b.y0 → Meet a.x0 a.x1 b.x0 b.x1 → InStep a.x0 a.x1 b.x0 b.x1
  pub beside : a.x1 ≡ b.x0 → Meet a.y0 a.y1 b.y0 b.y1 → InStep a.y0 a.y1 b.y0 b.y1

-- of the polygon k any two roots fit
abbrev pub RootsFit : List Cell → ℕ → Type 0
RootsFit t k = (r s : ℕ) → RootOf t k r → RootOf t k s → (r ≡ s → ⊥) → Fit (at t r).box (at t s).box

-- the boxes have a point in common, if only a corner
pub record Touch (a b : Box) : Type 0 where
  pub across : max a.x0 b.x0 ≤ min a.x1 b.x1
  pub upright : max a.y0 b.y0 ≤ min a.y1 b.y1

-- no root of the polygon j touches one of the polygon k
abbrev pub DontTouch : List Cell → ℕ → ℕ → Type 0
DontTouch t j k = (r s : ℕ) → RootOf t j r → RootOf t k s → Touch (at t r).box (at t s).box → ⊥

-- no other polygon of its layer and component touches the polygon k
abbrev pub NoneTouches : List Cell → List Poly → ℕ → Type 0
NoneTouches t ps k =
    (j : ℕ) → j < length ps → (j ≡ k → ⊥) → (poly_at ps j).layer ≡ (poly_at ps k).layer
    → (poly_at ps j).component ≡ (poly_at ps k).component → DontTouch t j k

-- a board whose polygons fit, and do not touch where they are of one layer and component
pub record BoardFits (t : List Cell) (ps : List Poly) : Type 0 where
  pub fit : (k : ℕ) → k < length ps → RootsFit t k
  pub apart : (k : ℕ) → k < length ps → NoneTouches t ps k
