-- What `write` says and does.
use Rattle.std.specs.Prelude.{ℕ, ◌+◌, ◌*◌, ◌-◌, ◌^◌, Bool, ◌&&◌, ◌==◌, nat_le, List, [], ◌∷◌, map, length, take, drop}
use Rattle.std.specs.Prelude.{scan, zip, sum_by, slice_index_or, ℤ, pos, Float, Result, if◌then◌else◌}
use Rattle.std.specs.Float.Ieee as Ieee
use Rattle.std.specs.Float.{binary64}
use Rattle.std.specs.Float.Ieee.{to_bits}
use Rattle.std.proofs.lemmas.List.Edits.{sets}
use Rattle.refusals.specs.declared.Refusal.{Refusal}
use Rattle.refusals.specs.declared.Refusal.TheVariants.{OutOfRange, NoRoom, BadTable}
use Rattle.refusals.specs.Said.{Said, accepted, refusal, said, if_accepted}
use Rattle.refusals.specs.Limits.{max_layers, max_polygons, max_points}
use Rattle.record.specs.declared.board.Settings.{Settings}
use Rattle.record.specs.declared.board.Version.TheVariants.{One}
use Rattle.record.specs.Board.{Entry, Point, Polygon, Board, record_of}
use Rattle.record.specs.Rows.{Rows}

-- ---- the board of lent rows

abbrev pub entry_of : List ℕ → Entry
entry_of row = record { layer = slice_index_or row 0 0; cell = slice_index_or row 1 0 }

abbrev pub entries_of : List (List ℕ) → List Entry
entries_of = map entry_of

abbrev pub point_of : List ℤ → Point
point_of row = record { x = slice_index_or row 0 (pos 0); y = slice_index_or row 1 (pos 0) }

abbrev pub ring_of : List (List ℤ) → List Point
ring_of = map point_of

-- r_sheet as bits. No NaN has any: 0 stands for it, which no reader takes
abbrev pub sheet_bits : Float → ℕ
sheet_bits r = if Ieee.eq r r then to_bits binary64 r else 0

-- a polygon's point count
abbrev pub count_of : List ℕ → ℕ
count_of row = slice_index_or row 2 0

-- a polygon's row and its r_sheet, with its points from the front of those that are left
abbrev pub polygon_from : List (List ℤ) → List ℕ × Float → Polygon
polygon_from left p =
    record {
      layer = slice_index_or p.0 0 0;
      component = slice_index_or p.0 1 0;
      sheet = sheet_bits p.1;
      points = ring_of (take (count_of p.0) left);
    }

-- each leaves the others what is behind its own
unfoldable pub polygons_of : List (List ℕ) → List Float → List (List ℤ) → List Polygon
polygons_of ps rs qs = scan (λ left p. drop (count_of p.0) left) polygon_from qs (zip ps rs)

-- whether the point counts add up to the points
unfoldable pub add_up : List (List ℕ) → ℕ → Bool
add_up ps n = sum_by count_of ps == n

abbrev pub board_of : Settings → Rows → Board
board_of g rows =
    record {
      settings = g;
      layers = entries_of rows.layers;
      polygons = polygons_of rows.polygons rows.sheets rows.points;
      splits = rows.splits;
    }

-- ---- what `write` says and leaves

abbrev pub write_said : Result ℕ Refusal → Said
write_said = said (λ n. n ∷ [])

-- rows of polygons that belong together: 7 if not
abbrev pub is_shaped : Rows → Bool
is_shaped rows = length rows.polygons == length rows.sheets && add_up rows.polygons (length rows.points)

-- counts that a record has fields and the rules have room for: 3 if not
abbrev pub is_countable : Rows → Bool
is_countable rows =
    nat_le (length rows.layers) max_layers
    && (nat_le (length rows.polygons) max_polygons
    && (nat_le (length rows.points) (max_polygons * max_points) && nat_le (length rows.splits) (2 ^ 16 - 1)))

-- the bytes that a record takes
abbrev pub size_of : Rows → ℕ
size_of rows =
    22 + 10 * length rows.layers + 16 * length rows.polygons + 16 * length rows.points + 4 * length rows.splits

-- 7, then 3, then 6: "no room" where the output is too short
abbrev pub write_says : Rows → ℕ → Said
write_says rows room =
    if is_shaped rows then
    (if is_countable rows then (if nat_le (size_of rows) room then accepted (size_of rows ∷ []) else refusal NoRoom)
    else refusal (OutOfRange 0))
    else refusal BadTable

-- the record of the rows' board, from the start of the output. A refused write has written nothing
abbrev pub write_leaves : Settings → Rows → List ℕ → List ℕ
write_leaves g rows out =
    if_accepted (write_says rows (length out)) (sets out 0 (record_of One (board_of g rows))) out
