-- A polygon whose roots are one grid, and a balanced table. Definitions only.
use Rattle.std.specs.Prelude.{ℕ, ◌+◌, ◌*◌, ◌<◌, ◌≤◌, ◌≡◌, true, List, length, None}
use Rattle.cell.specs.Boxes.{Box, shares_edge}
use Rattle.table.specs.Mesh.{Cell, at, split}

-- a root and a leaf of the polygon k, by id
pub record RootOf (t : List Cell) (k r : ℕ) : Type 0 where
  pub top : (at t r).parent ≡ None
  pub polygon : (at t r).polygon ≡ k

pub record LeafOf (t : List Cell) (k i : ℕ) : Type 0 where
  pub inside : i < length t
  pub whole : (at t i).kids ≡ None
  pub polygon : (at t i).polygon ≡ k

-- a grid: its south-west corner, and the sides of its cells
pub record Grid : Type 0 where
  pub west : ℕ
  pub south : ℕ
  pub wide : ℕ
  pub high : ℕ

-- the cell in column i and row j
abbrev pub grid_box : Grid → ℕ → ℕ → Box
grid_box g i j =
    record {
      x0 = g.west + g.wide * i;
      y0 = g.south + g.high * j;
      x1 = g.west + g.wide * (i + 1);
      y1 = g.south + g.high * (j + 1);
    }

-- its roots are one grid: each root is a cell of the grid, and no two are the same one. A polygon of one strip is
-- such a polygon
pub record OneGrid (t : List Cell) (k : ℕ) : Type 0 where
  pub grid : Grid
  pub column : ℕ → ℕ
  pub row : ℕ → ℕ
  pub placed : (r : ℕ) → RootOf t k r → (at t r).box ≡ grid_box grid (column r) (row r)
  pub once : (r s : ℕ) → RootOf t k r → RootOf t k s → column r ≡ column s → row r ≡ row s → r ≡ s

-- no leaf is finer by more than d levels than one that it shares an edge with
abbrev pub Even : ℕ → List Cell → Type 0
Even d t =
    (i j : ℕ) → i < length t → j < length t → (at t i).kids ≡ None → (at t j).kids ≡ None
    → shares_edge (at t i).box (at t j).box ≡ true → (at t i).level ≤ (at t j).level + d

-- "a balanced table", and a conformed one
abbrev pub Balanced : List Cell → Type 0
Balanced t = Even 1 t

abbrev pub Conformed : List Cell → Type 0
Conformed t = Even 0 t

-- the tables that refinement makes of t: leaves above the level M are split, one after another
pub data Splits (M : ℕ) (t : List Cell) : List Cell → Type 0 where
  start : Splits M t t
  next : {u : List Cell} → Splits M t u → (c : ℕ) → c < length u → (at u c).kids ≡ None → (at u c).level < M
      → Splits M t (split u c)
