-- A board as the rows that a caller lends.
use Rattle.std.specs.Prelude.{ℕ, List, [], ◌∷◌, map, ℤ, length, Float}
use Rattle.std.specs.List.{flat_map}
use Rattle.std.proofs.lemmas.List.Edits.{sets}
use Rattle.std.specs.Float.{binary64}
use Rattle.std.specs.Float.Ieee.{of_bits}
use Rattle.record.specs.Board.{Entry, Point, Polygon, Board}

pub record Rows : Type 0 where
  pub layers : List (List ℕ)
  pub polygons : List (List ℕ)
  pub sheets : List Float
  pub points : List (List ℤ)
  pub splits : List ℕ

abbrev pub rows_of : List (List ℕ) → List (List ℕ) → List Float → List (List ℤ) → List ℕ → Rows
rows_of layers polygons sheets points splits =
    record { layers = layers; polygons = polygons; sheets = sheets; points = points; splits = splits }

-- an entry of the layer list: layer, cell
abbrev pub entry_row : Entry → List ℕ
entry_row e = e.layer ∷ e.cell ∷ []

-- a polygon: layer, component, point count
abbrev pub polygon_row : Polygon → List ℕ
polygon_row p = p.layer ∷ p.component ∷ length p.points ∷ []

abbrev pub sheet_of : Polygon → Float
sheet_of p = of_bits binary64 p.sheet

abbrev pub point_row : Point → List ℤ
point_row p = p.x ∷ p.y ∷ []

-- the points of all polygons, in order
abbrev pub rings : List Polygon → List Point
rings = flat_map (λ p. p.points)

-- the rows with a board in them, each list from its row's start. What lies behind keeps what it held
abbrev pub filled : Rows → Board → Rows
filled rows b =
    record {
      layers = sets rows.layers 0 (map entry_row b.layers);
      polygons = sets rows.polygons 0 (map polygon_row b.polygons);
      sheets = sets rows.sheets 0 (map sheet_of b.polygons);
      points = sets rows.points 0 (map point_row (rings b.polygons));
      splits = sets rows.splits 0 b.splits;
    }

-- the rows of a board
abbrev pub rows_for : Board → Rows
rows_for b =
    rows_of (map entry_row b.layers) (map polygon_row b.polygons) (map sheet_of b.polygons)
    (map point_row (rings b.polygons)) b.splits
