-- The bytes of the parts of a record, as they are put in place. All of this is internal: proofs/Records.antt has that
-- they are what the fields' descriptions spell.
use Rattle.std.specs.Prelude.{ℕ, ◌+◌, ◌*◌, List, ◌++◌, length, slice_index_or}
use Rattle.std.specs.List.{flat_map}
use Rattle.std.specs.Int.{w64, cast_unsigned, bytes_high_first}
use Rattle.record.specs.declared.board.Settings.{Settings}
use Rattle.record.specs.Board.{Entry, Point, Polygon}
use Rattle.record.specs.Rows.{Rows}
use Rattle.record.specs.Writing.{entries_of, polygons_of}

abbrev pub entry_bytes : Entry → List ℕ
entry_bytes e = bytes_high_first 2 e.layer ++ bytes_high_first 8 e.cell

abbrev pub point_bytes : Point → List ℕ
point_bytes p = bytes_high_first 8 (cast_unsigned w64 p.x) ++ bytes_high_first 8 (cast_unsigned w64 p.y)

abbrev pub polygon_bytes : Polygon → List ℕ
polygon_bytes p =
    bytes_high_first 2 p.layer
    ++ (bytes_high_first 4 p.component
    ++ (bytes_high_first 8 p.sheet ++ (bytes_high_first 2 (length p.points) ++ flat_map point_bytes p.points)))

-- a polygon but for its points
abbrev pub head_bytes : List ℕ → ℕ → List ℕ
head_bytes row sheet =
    bytes_high_first 2 (slice_index_or row 0 0)
    ++ (bytes_high_first 4 (slice_index_or row 1 0)
    ++ (bytes_high_first 8 sheet ++ bytes_high_first 2 (slice_index_or row 2 0)))

abbrev pub settings_bytes : Settings → List ℕ
settings_bytes g = bytes_high_first 1 g.level ++ (bytes_high_first 2 g.cap ++ bytes_high_first 8 g.target)

-- the lists, each behind its number
abbrev pub layers_bytes : List (List ℕ) → List ℕ
layers_bytes row = bytes_high_first 2 (length row) ++ flat_map entry_bytes (entries_of row)

abbrev pub polygons_bytes : Rows → List ℕ
polygons_bytes rows =
    bytes_high_first 2 (length rows.polygons)
    ++ flat_map polygon_bytes (polygons_of rows.polygons rows.sheets rows.points)

abbrev pub splits_bytes : List ℕ → List ℕ
splits_bytes row = bytes_high_first 2 (length row) ++ flat_map (bytes_high_first 4) row

abbrev pub lists_bytes : Rows → List ℕ
lists_bytes rows = layers_bytes rows.layers ++ (polygons_bytes rows ++ splits_bytes rows.splits)

-- how many bytes the polygons take, and all lists together
abbrev pub polygons_size : Rows → ℕ
polygons_size rows = 2 + 16 * length rows.polygons + 16 * length rows.points

abbrev pub lists_size : Rows → ℕ
lists_size rows =
    6 + 10 * length rows.layers + 16 * length rows.polygons + 16 * length rows.points + 4 * length rows.splits
