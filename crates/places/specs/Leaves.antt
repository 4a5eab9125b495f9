-- The leaves of a net's polygons as entries of a row. Ghost fields cite this file, so it names no struct that has one. Definitions only.
use Rattle.std.specs.Prelude.{ℕ, ◌<◌, List, [], ◌∷◌, map, length, slice_index, slice_index_or, All, ℤ, Float}
use Rattle.std.specs.List.{range_with_len}
use Rattle.std.specs.Float.{nan}
use Rattle.cell.specs.Boxes.{Box}
use Rattle.table.specs.declared.Head.{Head}
use Rattle.table.specs.Mesh.{Cell, at}
use Rattle.table.specs.Rows.{cells_in, order_in}
use Rattle.net_rows.specs.declared.rows.Polygons.{Polygons}
use Rattle.net.specs.Net.{Poly}
use Rattle.net.specs.Flat as Flat
use Rattle.net.specs.Laws.{IsWithin, widest}
use Rattle.places.specs.declared.Leaf.{Leaf}

-- ---- the polygons

abbrev pub poly_at : Polygons → List Float → ℕ → Poly
poly_at ps sheets k = record { layer = slice_index ps.layers.now k; component = slice_index ps.components.now k; sheet = slice_index_or sheets k nan }

abbrev pub polys_of : Polygons → List Float → List Poly
polys_of ps sheets = map (poly_at ps sheets) (range_with_len 0 (length ps.layers.now))

-- each cell's polygon is one of them
abbrev pub AreKnown : Polygons → List Cell → Type 0
AreKnown ps cells = All (λ c. c.polygon < length ps.layers.now) cells

-- ---- the leaves

-- polygon, x0, y0, x1, y1
abbrev pub leaf_entry : Cell → List ℕ
leaf_entry c = c.polygon ∷ c.box.x0 ∷ c.box.y0 ∷ c.box.x1 ∷ c.box.y1 ∷ []

-- the leaves of a table, by polygon, then id
abbrev pub entries_in : List ℤ → Head → List (List ℕ)
entries_in row head = map (λ id. leaf_entry (at (cells_in row head) id)) (order_in row head)

abbrev pub leaf_from : List ℕ → Leaf
leaf_from e = record { polygon = slice_index e 0; x0 = slice_index e 1; y0 = slice_index e 2; x1 = slice_index e 3; y1 = slice_index e 4 }

abbrev pub leaf_at : List (List ℕ) → ℕ → Leaf
leaf_at entries v = leaf_from (slice_index_or entries v [])

abbrev pub box_of : Leaf → Box
box_of l = record { x0 = l.x0; y0 = l.y0; x1 = l.x1; y1 = l.y1 }

-- the leaf with its polygon, as the net's definitions have it
abbrev pub leaf_of : Polygons → List Float → Leaf → Flat.Leaf
leaf_of ps sheets l = record { piece = l.polygon; poly = poly_at ps sheets l.polygon; box = box_of l }

abbrev pub leaves_of : Polygons → List Float → List (List ℕ) → List Flat.Leaf
leaves_of ps sheets entries = map (λ e. leaf_of ps sheets (leaf_from e)) entries

-- of one of n polygons, with positive sides, and in range
pub record IsSound (n : ℕ) (l : Leaf) : Type 0 where
  pub polygon : l.polygon < n
  pub within : IsWithin widest (box_of l)

abbrev pub AreSound : ℕ → List (List ℕ) → Type 0
AreSound n entries = (v : ℕ) → v < length entries → IsSound n (leaf_at entries v)
