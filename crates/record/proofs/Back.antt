-- For every board in range: its rows are its board again, so what `write` puts is the record of the board, which reads as the board.
use Rattle.std.proofs.Common.{◌≡◌, ℕ, ◌+◌, ◌*◌, ◌-◌, ◌^◌, ◌≤◌, true, not, List, [], ◌∷◌, map, length, take, drop, take_at, drop_at, Ok, refl, sym, ap, subst, ◌∙◌, arith, T, eq-eqb, le-leb, mul-suc, length-append}
use Rattle.std.proofs.lemmas.List.{length-map, map-append}
use Rattle.std.proofs.lemmas.List.Edits.{sets, sets-eq}
use lib.Ieee.{binary64, is_nan, of_bits}
use lib.Ieee.Bits.{to_bits-of_bits, nan_bits_is}
use Rattle.refusals.specs.Limits.{max_layers, max_polygons, max_points, sheet_high_bits}
use Rattle.fields.specs.Codec.{all_fit}
use Rattle.fields.proofs.Laws.{each}
use Rattle.record.specs.declared.board.Version.TheVariants.{One}
use Rattle.record.specs.Board.{Entry, Point, Polygon, Board, limits_of, polygon, board, record_of, is_in_range}
use Rattle.record.specs.Rows.{Rows, entry_row, polygon_row, sheet_of, point_row, rings, filled, rows_for}
use Rattle.record.specs.Reading.{counts_of, has_room, reading, read_leaves}
use Rattle.record.specs.Writing.{entries_of, ring_of, sheet_bits, polygons_of, add_up, board_of, is_shaped, is_countable, size_of, write_leaves}
use Rattle.record.specs.Laws.{written, ReadsBack}
use Rattle.record.proofs.Sheets.{no_nan}
use Rattle.record.proofs.Stores.{eq_self}
use Rattle.record.proofs.Records.{record-long}
use Rattle.record.proofs.Turns.{add_cons, add_none}
use Rattle.record.proofs.Rounds.{polygon_fits, board_fits, record_again}

-- every polygon is one that the description takes
abbrev Fitting : List Polygon → Type 0
Fitting ps = all_fit (λ (_ : Unit {0}). polygon (limits_of One)) (λ _. tt) tt ps ≡ true

entries-back : (es : List Entry) → entries_of (map entry_row es) ≡ es
entries-back [] = refl
entries-back (e ∷ es) = ap (λ (l : List Entry). e ∷ l) (entries-back es)

ring-back : (ps : List Point) → ring_of (map point_row ps) ≡ ps
ring-back [] = refl
ring-back (p ∷ ps) = ap (λ (l : List Point). p ∷ l) (ring-back ps)

sheet-back : (n : ℕ) → n ≤ sheet_high_bits → sheet_bits (of_bits binary64 n) ≡ n
sheet-back n h =
    let k : T (not (is_nan (of_bits binary64 n))) = subst (λ t. T (not t)) (nan_bits_is binary64 n) (no_nan n h) in
    rw (eq_self (of_bits binary64 n) k) (to_bits-of_bits binary64 n (omega arith) k)

polygons-back : (ps : List Polygon) → Fitting ps → polygons_of (map polygon_row ps) (map sheet_of ps) (map point_row (rings ps)) ≡ ps
unfolding polygons_of all_fit
polygons-back [] fits = refl
polygons-back (p ∷ ps) fits =
    let f = each ((polygon (limits_of One)).fits p) _ fits in
    let l : length (map point_row p.points) ≡ length p.points = length-map p.points point_row in
    let t = take_at (map point_row p.points) (map point_row (rings ps)) (length p.points) l in
    let d = drop_at (map point_row p.points) (map point_row (rings ps)) (length p.points) l in
    rw (map-append point_row p.points (rings ps), t, d, ring-back p.points, sheet-back p.sheet (polygon_fits (limits_of One) p f.0).sheet, polygons-back ps f.1) refl

board-back : (b : Board) → is_in_range b ≡ true → board_of b.settings (rows_for b) ≡ b
board-back b fits = rw (entries-back b.layers, polygons-back b.polygons (board_fits b fits).polygons) refl

-- ---- the rows of a board in range are accepted

rings-long : (ps : List Polygon) → Fitting ps → length (rings ps) ≤ max_points * length ps
unfolding all_fit
rings-long [] fits = omega arith
rings-long (p ∷ ps) fits =
    let f = each ((polygon (limits_of One)).fits p) _ fits in
    rw (length-append p.points (rings ps), mul-suc max_points (length ps)) (omega (arith, (polygon_fits (limits_of One) p f.0).points, rings-long ps f.1))

adds-up : (ps : List Polygon) (n : ℕ) → n ≡ length (rings ps) → add_up (map polygon_row ps) n ≡ true
adds-up [] n e = add_none n ∙ eq-eqb n 0 e
adds-up (p ∷ ps) n e =
    let m : n ≡ length p.points + length (rings ps) = e ∙ length-append p.points (rings ps) in
    add_cons (polygon_row p) (map polygon_row ps) n ∙ rw (le-leb (length p.points) n (omega arith)) (adds-up ps (n - length p.points) (omega arith))

module _ (b : Board) (fits : is_in_range b ≡ true) where
  same_len : length (rows_for b).polygons ≡ length (rows_for b).sheets
  same_len = length-map b.polygons polygon_row ∙ sym (length-map b.polygons sheet_of)

  counted : add_up (rows_for b).polygons (length (rows_for b).points) ≡ true
  counted = adds-up b.polygons (length (map point_row (rings b.polygons))) (length-map (rings b.polygons) point_row)

  shaped : is_shaped (rows_for b) ≡ true
  shaped = rw (eq-eqb (length (map polygon_row b.polygons)) (length (map sheet_of b.polygons)) same_len) counted

  countable : is_countable (rows_for b) ≡ true
  countable =
      let f = board_fits b fits in
      let l = length-map b.layers entry_row in
      let p = length-map b.polygons polygon_row in
      let q = length-map (rings b.polygons) point_row in
      rw (
        le-leb (length (map entry_row b.layers)) max_layers (omega (arith, l, f.layers)),
        le-leb (length (map polygon_row b.polygons)) max_polygons (omega (arith, p, f.few_polygons)),
        le-leb (length (map point_row (rings b.polygons))) (max_polygons * max_points) (omega (arith, q, rings-long b.polygons f.polygons, f.few_polygons)),
        le-leb (length b.splits) (2 ^ 16 - 1) f.splits,
      ) refl

  long : length (record_of One b) ≡ size_of (rows_for b)
  long = ap (λ x. length (record_of One x)) (sym (board-back b fits)) ∙ record-long b.settings (rows_for b) same_len counted

  module _ (out : List ℕ) (room : size_of (rows_for b) ≤ length out) where
    stored : write_leaves b.settings (rows_for b) out ≡ sets out 0 (record_of One b)
    stored = rw (shaped, countable, le-leb (size_of (rows_for b)) (length out) room, board-back b fits) refl

    judged : board (written b out) ≡ Ok b
    judged =
        let s = record_of One b in
        let n = size_of (rows_for b) in
        let m : 0 + length s ≤ length out = omega (arith, long) in
        let t : take n (sets out 0 s) ≡ s = ap (take n) (sets-eq s out 0 m) ∙ take_at s (drop (0 + length s) out) n long in
        ap (λ (l : List ℕ). board (take n l)) stored ∙ ap board t ∙ record_again b fits

    read_again : (rows : Rows) → has_room rows (counts_of b) ≡ true → read_leaves (written b out) rows ≡ filled rows b
    unfolding reading
    read_again rows enough = rw (judged, enough) refl

    pub reads_back : ReadsBack b out
    reads_back = record { said = rw (shaped, countable, le-leb (size_of (rows_for b)) (length out) room) refl; judged = judged; read = read_again }
