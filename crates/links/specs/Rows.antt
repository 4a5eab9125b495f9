-- The lists of nodes as a net's rows have them. Definitions only.
use Rattle.std.specs.Prelude.{ℕ, ◌+◌, List, [], ◌∷◌, map, length, slice_index, slice_index_or, slice_range, flat_map, take, drop, ℤ}
use Rattle.std.specs.List.{range_with_len}
use Rattle.refusals.specs.Limits.{max_polygons}
use Rattle.table.specs.Leaves.{polygon_ids, order_to}
use Rattle.net_rows.specs.declared.rows.NetCell.{NetCell}

-- a cell's corners: SW, SE, NE, NW
abbrev pub corner_numbers : NetCell → List ℕ
corner_numbers c = c.corners.southwest ∷ c.corners.southeast ∷ c.corners.northeast ∷ c.corners.northwest ∷ []

-- where a polygon's cells end: where the next polygon's begin, or behind the last cell
abbrev pub end_of : List NetCell → List ℕ → ℕ → ℕ
end_of cells starts p = slice_index_or starts (p + 1) (length cells)

-- the cells of polygon p
abbrev pub cells_of : List NetCell → List ℕ → ℕ → List NetCell
cells_of cells starts p = slice_range cells (slice_index starts p) (end_of cells starts p)

-- of each polygon the corners of its cells, repeats kept
unfoldable pub row_lists : List NetCell → List ℕ → List (List ℕ)
row_lists cells starts = map (λ p. flat_map corner_numbers (cells_of cells starts p)) (range_with_len 0 (length starts))

-- the same where a polygon's cells stand as its leaves do, by polygon, then id
unfoldable pub lists_by : List ℤ → ℕ → List NetCell → List (List ℕ)
lists_by row count cells =
    map (λ p. flat_map corner_numbers (take (length (polygon_ids row count p)) (drop (length (order_to row count p)) cells)))
    (range_with_len 0 max_polygons)
