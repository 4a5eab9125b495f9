-- The laws of every net, which src/laws.rt promises: what holds whatever the table and its polygons are. Definitions only.
use Rattle.std.specs.Prelude.{ℕ, ◌+◌, ◌*◌, ◌^◌, ◌<◌, ◌≤◌, ◌≡◌, ◌≢◌, List, ◌∷◌, ◌++◌, length, All, AllPairs, IsTrue, None, Float}
use Rattle.std.specs.Float.{◌<ᶠ◌, float_zero, float_is_finite}
use Rattle.refusals.specs.Limits.{coordinate}
use Rattle.cell.specs.Boxes.{Box, HasArea}
use Rattle.table.specs.Mesh.{Cell, leaf_count}
use Rattle.floats.specs.Fractions.{in_sheet, nonneg}
use Rattle.net.specs.Net.{Poly, Piece, pieces, network, Cornered, Ends}
use Rattle.net.specs.Hang.{so_far, HalvedSides}

-- ---- what a law asks of a table and its polygons

-- of the rectangles of a table's leaves
abbrev pub AllLeaves : (Box → Type 0) → List Cell → Type 0
AllLeaves P t = All (λ c. c.kids ≡ None → P c.box) t

-- positive sides, and coordinates of at most the given number
pub record IsWithin (most : ℕ) (r : Box) : Type 0 where
  pub area : HasArea r
  pub east : r.x1 ≤ most
  pub north : r.y1 ≤ most

-- the rules' range of coordinates, from 0 up
abbrev pub widest : ℕ
widest = coordinate + coordinate

-- ---- room

abbrev pub AtMostFourNodesALeaf : Type 0
AtMostFourNodesALeaf = (t : List Cell) (ps : List Poly) → length (network t ps).nodes ≤ 4 * leaf_count t

abbrev pub AtMostEightEdgesALeaf : Type 0
AtMostEightEdgesALeaf = (t : List Cell) (ps : List Poly) → length (network t ps).edges ≤ 8 * leaf_count t

abbrev pub AtMostOneCellALeaf : Type 0
AtMostOneCellALeaf = (t : List Cell) (ps : List Poly) → length (network t ps).cells ≤ leaf_count t

-- ---- nodes, edges and cells

-- no two nodes have the same layer, component, x and y
abbrev pub NodesAreDistinct : Type 0
NodesAreDistinct = (t : List Cell) (ps : List Poly) → AllPairs (λ m n. m ≢ n) (network t ps).nodes

-- both ends of every edge are nodes
abbrev pub EdgesJoinNodes : Type 0
EdgesJoinNodes = (t : List Cell) (ps : List Poly) → All (Ends (length (network t ps).nodes)) (network t ps).edges

-- where leaves have area, the corners of every cell are those of a rectangle, in their order
abbrev pub CellsAreRectangles : Type 0
CellsAreRectangles = (t : List Cell) (ps : List Poly) → AllLeaves HasArea t → All (Cornered (network t ps).nodes) (network t ps).cells

-- where a node made so far stands at the middle of a leaf's side, both halves are edges
abbrev pub NoHalfHangs : Type 0
NoHalfHangs =
    (t : List Cell) (ps : List Poly) (before : List Piece) (piece : Piece) (behind : List Piece) → pieces t ps 0 ≡ before ++ (piece ∷ behind)
    → All (HalvedSides (so_far before piece) (network t ps).edges piece.poly) piece.leaves

-- ---- conductances

-- finite and above 0
pub record IsPositive (x : Float) : Type 0 where
  pub finite : IsTrue (float_is_finite x)
  pub above_zero : float_zero <ᶠ x

-- in the rules' ranges every conductance is finite and above 0
abbrev pub EdgesConduct : Type 0
EdgesConduct =
    (t : List Cell) (ps : List Poly) → AllLeaves (IsWithin widest) t → All (λ p. IsTrue (in_sheet p.sheet)) ps
    → All (λ e. IsPositive e.conductance) (network t ps).edges

-- far past them none is a NaN and none is negative
abbrev pub NoConductanceIsNegative : Type 0
NoConductanceIsNegative =
    (most : ℕ) (t : List Cell) (ps : List Poly) → most < 2 ^ 52 → AllLeaves (IsWithin most) t → All (λ p. IsPositive p.sheet) ps
    → All (λ e. IsTrue (nonneg e.conductance)) (network t ps).edges
