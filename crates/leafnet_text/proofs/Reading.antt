-- The rows that a record was read to give its board. Assumes nothing.
use Rattle.std.proofs.Common.{ℕ, ◌≤◌, ◌<◌, ◌≡◌, refl, sym, ap, ap₂, subst, ◌∙◌, true, List, [], ◌∷◌, map, leb, length, get_or, take, leb-true, Result, Ok, Err}
use Rattle.std.specs.Prelude.{IsOkAnd}
use mathlib.Core.List.{map-map}
use lib.ListN.{length-map, length-replicate}
use Rattle.refusals.specs.Said.{accepted}
use Rattle.refusals.specs.declared.Refusal.{Refusal}
use Rattle.refusals.specs.declared.Refusal.TheVariants.{NoRoom}
use Rattle.refusals.proofs.Settled.{as-refused}
use Rattle.cell.proofs.Contact.{and_left, and_right}
use Rattle.build.proofs.Fitting.{refused-accepted}
use Rattle.fields.specs.Cursor.{require}
use Rattle.fields.proofs.Laws.{bind_ok, require_ok, ok_is}
use Rattle.record.specs.declared.board.Settings.{Settings}
use Rattle.record.specs.declared.board.Counts.{Counts}
use Rattle.record.specs.declared.board.Read.{Read}
use Rattle.record.specs.Board.{Board, Polygon, board, points_in}
use Rattle.record.specs.Rows.{Rows, entry_row, polygon_row, sheet_of, point_row, rings, filled}
use Rattle.record.specs.Reading.{counts_of, numbers, has_room, reading, says, leaves}
use Rattle.leafnet_text.specs.Rooms.{layer_room, polygon_room, point_room, split_room, record_rows}
use Rattle.leafnet_text.specs.Boards.{Given, given, given_by, settings_of, board_in, column, AreNarrow}
use Rattle.leafnet_text.specs.Output.{board_says, record_says}
use Rattle.leafnet_text.proofs.Fronts.{front}
use Rattle.leafnet_text.proofs.Narrowing.{record-narrow}

-- ---- an accepted record

settings-same : (g h : Settings) → g.level ≡ h.level → g.cap ≡ h.cap → g.target ≡ h.target → g ≡ h
settings-same g h p q r = λ i. record { level = p i; cap = q i; target = r i }

counts_same : (m n : Counts) → m.layers ≡ n.layers → m.polygons ≡ n.polygons → m.points ≡ n.points → m.splits ≡ n.splits → m ≡ n
counts_same m n p q r s = λ i. record { layers = p i; polygons = q i; points = r i; splits = s i }

-- the board that was read, and the rows that were
record IsRead (s : List ℕ) (r : Read) (rows : Rows) : Type 0 where
  board : Board
  read : board_in s ≡ Ok board
  settings : r.settings ≡ board.settings
  counts : r.counts ≡ counts_of board
  rows_are : rows ≡ filled record_rows board

is_read : (s : List ℕ) (r : Read) (rows : Rows) (o : Result Board Refusal) → board_in s ≡ o → accepted (numbers r.settings r.counts) ≡ says o
    → rows ≡ leaves record_rows o → IsRead s r rows
is_read s r rows (Ok b) p q left =
    let v : accepted (numbers r.settings r.counts) ≡ accepted (numbers b.settings (counts_of b)) = q in
    record {
      board = b;
      read = p;
      settings = settings-same r.settings b.settings (cc) (cc) (cc);
      counts = counts_same r.counts (counts_of b) (cc) (cc) (cc) (cc);
      rows_are = left;
    }
is_read s r rows (Err x) p q left = let w = as-refused x in absurd (refused-accepted w.0 w.1 (numbers r.settings r.counts) (sym w.2 ∙ sym q))

-- what there is room for
record Roomed (b : Board) : Type 0 where
  layers : length b.layers ≤ layer_room
  polygons : length b.polygons ≤ polygon_room
  points : length (rings b.polygons) ≤ point_room
  splits : length b.splits ≤ split_room

module _ (s : List ℕ) (b : Board) (p : board_in s ≡ Ok b) where
  found : (board s ≡ Ok b) × (has_room record_rows (counts_of b) ≡ true)
  unfolding reading
  found =
      let t = bind_ok (board s) (λ (b : Board). require (has_room record_rows (counts_of b)) NoRoom (Ok b)) p in
      let r = require_ok (has_room record_rows (counts_of t.0)) NoRoom (Ok t.0) t.2 in
      let is : t.0 ≡ b = ok_is r.1 in
      (t.1 ∙ r.1, ap (λ (c : Board). has_room record_rows (counts_of c)) (sym is) ∙ r.0)

  roomed : Roomed b
  roomed =
      let n = counts_of b in
      let behind_layers = and_right (leb n.layers (length record_rows.layers)) _ found.1 in
      let behind_polygons = and_right (leb n.polygons (length record_rows.polygons)) _ behind_layers in
      let ends = and_right (leb n.polygons (length record_rows.sheets)) _ behind_polygons in
      let layers = leb-true _ _ (and_left (leb n.layers (length record_rows.layers)) _ found.1) in
      let polygons = leb-true _ _ (and_left (leb n.polygons (length record_rows.polygons)) _ behind_layers) in
      let points = leb-true _ _ (and_left (leb n.points (length record_rows.points)) _ ends) in
      let splits = leb-true _ _ (and_right (leb n.points (length record_rows.points)) _ ends) in
      record { layers = simp length-replicate at layers; polygons = simp length-replicate at polygons; points = simp length-replicate at points; splits = simp length-replicate at splits }

-- what rows give, each up to its count
abbrev pub given_from : Read → Rows → Given
given_from r rows =
    given (settings_of r.settings) (take r.counts.layers rows.layers) (column 0 (take r.counts.polygons rows.polygons)) (column 1 (take r.counts.polygons rows.polygons))
    (take r.counts.polygons rows.sheets) (column 2 (take r.counts.polygons rows.polygons)) (take r.counts.points rows.points) (take r.counts.splits rows.splits)

-- what holds of an accepted record, and the rows that it was read to
pub record Held (s : List ℕ) (r : Read) (rows : Rows) : Type 0 where
  pub few_layers : r.counts.layers ≤ layer_room
  pub few_polygons : r.counts.polygons ≤ polygon_room
  pub few_points : r.counts.points ≤ point_room
  pub few_splits : r.counts.splits ≤ split_room
  pub narrow : AreNarrow (take r.counts.polygons rows.polygons)
  pub says : record_says (board_in s) ≡ board_says (given_from r rows)
  pub board : IsOkAnd (board_in s) (λ b. given_from r rows ≡ given_by b)

module _ (s : List ℕ) (r : Read) (rows : Rows) (x : IsRead s r rows) where
  abbrev b : Board
  b = x.board

  room : Roomed b
  room = roomed s b x.read

  list-front : take r.counts.layers rows.layers ≡ map entry_row b.layers
  list-front =
      (λ i. take (x.counts i).layers (x.rows_are i).layers)
      ∙ front record_rows.layers (map entry_row b.layers) (length b.layers) (sym (length-map b.layers entry_row)) (simp length-replicate room.layers)

  polygons-front : take r.counts.polygons rows.polygons ≡ map polygon_row b.polygons
  polygons-front =
      (λ i. take (x.counts i).polygons (x.rows_are i).polygons)
      ∙ front record_rows.polygons (map polygon_row b.polygons) (length b.polygons) (sym (length-map b.polygons polygon_row)) (simp length-replicate room.polygons)

  sheets-front : take r.counts.polygons rows.sheets ≡ map sheet_of b.polygons
  sheets-front =
      (λ i. take (x.counts i).polygons (x.rows_are i).sheets)
      ∙ front record_rows.sheets (map sheet_of b.polygons) (length b.polygons) (sym (length-map b.polygons sheet_of)) (simp length-replicate room.polygons)

  points-front : take r.counts.points rows.points ≡ map point_row (rings b.polygons)
  points-front =
      (λ i. take (x.counts i).points (x.rows_are i).points)
      ∙ front record_rows.points (map point_row (rings b.polygons)) (length (rings b.polygons)) (sym (length-map (rings b.polygons) point_row)) (simp length-replicate room.points)

  splits-front : take r.counts.splits rows.splits ≡ b.splits
  splits-front =
      (λ i. take (x.counts i).splits (x.rows_are i).splits)
      ∙ front record_rows.splits b.splits (length b.splits) refl (simp length-replicate room.splits)

  column-is : (k : ℕ) (f : Polygon → ℕ) → ((p : Polygon) → get_or (polygon_row p) k 0 ≡ f p) → column k (take r.counts.polygons rows.polygons) ≡ map f b.polygons
  column-is k f h = ap (column k) polygons-front ∙ map-map (λ (x : List ℕ). get_or x k 0) polygon_row b.polygons ∙ map-ext b.polygons
    where
      map-ext : (ps : List Polygon) → map (λ p. get_or (polygon_row p) k 0) ps ≡ map f ps
      map-ext [] = refl
      map-ext (p ∷ ps) = ap₂ (λ (y : ℕ) (ys : List ℕ). y ∷ ys) (h p) (map-ext ps)

  given-is : given_from r rows ≡ given_by b
  given-is =
      let layer = column-is 0 (λ p. p.layer) (λ p. refl) in
      let component = column-is 1 (λ p. p.component) (λ p. refl) in
      let count = column-is 2 points_in (λ p. refl) in
      λ i. given (settings_of (x.settings i)) (list-front i) (layer i) (component i) (sheets-front i) (count i) (points-front i) (splits-front i)

  held-of : ((i : ℕ) → get_or s i 0 < 256) → Held s r rows
  held-of bytes =
      record {
        few_layers = rw x.counts room.layers;
        few_polygons = rw x.counts room.polygons;
        few_points = rw x.counts room.points;
        few_splits = rw x.counts room.splits;
        narrow = subst AreNarrow (sym polygons-front) (record-narrow s bytes b (found s b x.read).0);
        says = ap record_says x.read ∙ ap board_says (sym given-is);
        board = subst (λ o. IsOkAnd o (λ b. given_from r rows ≡ given_by b)) (sym x.read) given-is;
      }

pub held : (s : List ℕ) → ((i : ℕ) → get_or s i 0 < 256) → (r : Read) (rows : Rows) → accepted (numbers r.settings r.counts) ≡ says (board_in s)
    → rows ≡ leaves record_rows (board_in s) → Held s r rows
held s bytes r rows p left = held-of s r rows (is_read s r rows (board_in s) refl p left) bytes
