-- What the walk over a record answers, and what is copied of a sound one: what reading comes to. All of this is
-- internal.
use Rattle.std.specs.Prelude.{◌≡◌, ◌≤◌, ℕ, List, map, length, Result, Ok, Err, ℤ, Float}
use Rattle.std.proofs.lemmas.List.Edits.{sets}
use Rattle.refusals.specs.declared.Refusal.{Refusal}
use Rattle.fields.specs.Cursor.{Cursor}
use Rattle.record.specs.declared.board.Read.{Read}
use Rattle.record.specs.declared.walk.Walked.{Walked}
use Rattle.record.specs.Board.{Polygon, Board}
use Rattle.record.specs.Rows.{polygon_row, sheet_of, point_row, rings}
use Rattle.record.specs.Reading.{summary_of}

-- a list was read
abbrev pub ReadsAll : {A X : Type 0} → Result X Refusal → Cursor → Result (List A × Cursor) Refusal → Type 0
ReadsAll {A} (Ok done) after reading = (xs : List A) × (reading ≡ Ok (xs, after))
ReadsAll (Err e) after reading = reading ≡ Err e

-- a list was read, and the number of its items answered
abbrev pub ReadsSome : {A : Type 0} → Result ℕ Refusal → Cursor → Result (List A × Cursor) Refusal → Type 0
ReadsSome {A} (Ok n) after reading = (xs : List A) × (reading ≡ Ok (xs, after)) × (n ≡ length xs)
ReadsSome (Err e) after reading = reading ≡ Err e

-- a polygon was read, and the number of its points answered
abbrev pub ReadsPolygon : Result ℕ Refusal → Cursor → Result (Polygon × Cursor) Refusal → Type 0
ReadsPolygon (Ok n) after reading = (p : Polygon) × (reading ≡ Ok (p, after)) × (n ≡ length p.points)
ReadsPolygon (Err e) after reading = reading ≡ Err e

-- polygons were read, and their number and that of their points answered
abbrev pub ReadsPolygons : Result Walked Refusal → Cursor → Result (List Polygon × Cursor) Refusal → Type 0
ReadsPolygons (Ok n) after reading =
    (ps : List Polygon) × (reading ≡ Ok (ps, after)) × (n.polygons ≡ length ps) × (n.points ≡ length (rings ps))
ReadsPolygons (Err e) after reading = reading ≡ Err e

-- a board was read, and what it takes answered
abbrev pub ReadsBoard : Result Read Refusal → Cursor → Result (Board × Cursor) Refusal → Type 0
ReadsBoard (Ok r) after reading = (b : Board) × (reading ≡ Ok (b, after)) × (r ≡ summary_of b)
ReadsBoard (Err e) after reading = reading ≡ Err e

abbrev pub Answers : Result Read Refusal → Result Board Refusal → Type 0
Answers (Ok r) reading = (b : Board) × (reading ≡ Ok b) × (r ≡ summary_of b)
Answers (Err e) reading = reading ≡ Err e

-- ---- the lists of a sound record, copied

-- a list was read, and its items stored from this place on
abbrev pub Copies : {A B : Type 0} → (A → B) → List B → ℕ → List B → Cursor → Result (List A × Cursor) Refusal → Type 0
Copies {A} view row first left after reading =
    (xs : List A) × (reading ≡ Ok (xs, after)) × (left ≡ sets row first (map view xs))

-- a list that is read to a row has room there
abbrev pub HasRoom : {A B : Type 0} → List B → List A × Cursor → Type 0
HasRoom row x = length x.0 ≤ length row

-- and polygons, in three rows
pub record PolygonsStored (heads heads' : List (List ℕ)) (sheets sheets' : List Float)
    (points points' : List (List ℤ)) (ps : List Polygon) : Type 0 where
  pub each_head : heads' ≡ sets heads 0 (map polygon_row ps)
  pub each_sheet : sheets' ≡ sets sheets 0 (map sheet_of ps)
  pub each_point : points' ≡ sets points 0 (map point_row (rings ps))

pub record HasPolygonRoom (heads : List (List ℕ)) (sheets : List Float) (points : List (List ℤ))
    (x : List Polygon × Cursor) : Type 0 where
  pub each_head : length x.0 ≤ length heads
  pub each_sheet : length x.0 ≤ length sheets
  pub each_point : length (rings x.0) ≤ length points

abbrev pub CopiesPolygons : (List Polygon → Type 0) → Cursor → Result (List Polygon × Cursor) Refusal → Type 0
CopiesPolygons stored after reading = (ps : List Polygon) × (reading ≡ Ok (ps, after)) × stored ps
