-- No node hangs: the laws that src/hanging.rt promises. Definitions only.
use Rattle.std.specs.Prelude.{ℕ, ◌≡◌, List, [], ◌∷◌, All, slice_get, Some}
use Rattle.cell.specs.Boxes.{Box}
use Rattle.table.specs.Mesh.{Cell, at}
use Rattle.table.specs.Formed.{Formed}
use Rattle.coarsest.specs.Passes.{balance, conform}
use Rattle.net.specs.Net.{Poly, Net, leaves_of, corners_of, network}
use Rattle.laws.specs.Grids.{LeafOf, OneGrid, Balanced}
use Rattle.laws.specs.Fit.{RootsFit}
use Rattle.laws.specs.Nodes.{End, Corner, OnSides, HangsNot}

-- no node of the polygon p, a corner of one of its leaves, hangs on a side of one of its leaves
abbrev pub NoneHangs : Net → Poly → List Box → Type 0
NoneHangs n p leaves = All (λ r. All (HangsNot n p r) (corners_of (record { poly = p; leaves = leaves }))) leaves

-- in a balanced table none hangs of a polygon whose roots fit, whatever the other polygons are
abbrev pub NoNodeHangs : Type 0
NoNodeHangs =
    (max_level : ℕ) (t : List Cell) (ps : List Poly) (k : ℕ) (p : Poly) → Formed max_level t → Balanced t
    → slice_get ps k ≡ Some p → RootsFit t k → NoneHangs (network t ps) p (leaves_of t k)

-- so balance leaves none hanging
abbrev pub BalanceHangsNot : Type 0
BalanceHangsNot =
    (max_level : ℕ) (t : List Cell) (ps : List Poly) (k : ℕ) (p : Poly) → Formed max_level t
    → slice_get ps k ≡ Some p → RootsFit t k
    → NoneHangs (network (balance max_level t) ps) p (leaves_of (balance max_level t) k)

-- and after conform a corner of a polygon whose roots are one grid that lies on a side of one of its leaves is an end
-- of that side
abbrev pub ConformMeetsAtEnds : Type 0
ConformMeetsAtEnds =
    (max_level : ℕ) (t : List Cell) (k i j x y : ℕ) → Formed max_level t → OneGrid t k
    → LeafOf (conform max_level t) k i → LeafOf (conform max_level t) k j → Corner (at (conform max_level t) j).box x y
    → OnSides End (at (conform max_level t) i).box x y

-- on a board of one polygon no node of the net hangs
abbrev pub OnePolygonHangsNot : Type 0
OnePolygonHangsNot =
    (max_level : ℕ) (t : List Cell) (p : Poly) → Formed max_level t → Balanced t → RootsFit t 0
    → All (λ r. All (HangsNot (network t (p ∷ [])) p r) (network t (p ∷ [])).nodes) (leaves_of t 0)
