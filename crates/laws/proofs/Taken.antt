-- Of a board that was read, build finds the rows, the settings, the sheets and the points in order. Assumes nothing.
use lib.Dec.{eqb-suc-zero}
use lib.Ieee.{Float, nan}
use lib.Ieee.Bits.{is_true}
use Rattle.std.proofs.Common.{◌≡◌, refl, sym, ap, subst, ◌∙◌, ℕ, zero, suc, ◌+◌, ◌-◌, ◌/◌, ◌^◌, ltb, ◌<◌, ◌≤◌, arith, Bool, true, false, cond, eqb, leb, eq-eqb, leb-true, le-leb, ◌&&◌, List, [], ◌∷◌, ◌++◌, map, length, length-append, get_or, sum, take, drop, take_at, Option, Some, None, ℤ, pos}
use Rattle.std.proofs.lemmas.List.{length-map, get_or-map, map-append}
use Rattle.std.proofs.Math.Seq.{drop-append-add}
use Rattle.std.proofs.lemmas.List.Sums.{sum_by-cons}
use Rattle.std.specs.Int.{w16, w32, w64}
use Rattle.refusals.specs.Limits.{widest_level, max_cap, max_cell, max_layers, max_points, max_polygons}
use Rattle.refusals.specs.Said.{Said, refused}
use Rattle.fields.specs.Codec.{Codec, any, all_fit}
use Rattle.fields.proofs.Laws.{both, each}
use Rattle.record.specs.declared.board.Entry.{Entry}
use Rattle.record.specs.declared.board.Point.{Point}
use Rattle.record.specs.declared.board.Version.TheVariants.{One}
use Rattle.record.specs.Board.{Board as RecordBoard, Polygon, limits_of, is_above, settings, entry, layer_list, point, polygon, body, is_in_range, points_in}
use Rattle.record.specs.Rows.{entry_row, sheet_of, point_row, rings}
use Rattle.record.proofs.Rounds.{board_fits, record_found}
use Rattle.floats.specs.Fractions.{in_sheet}
use Rattle.strips.specs.Rings.{point_in_range, ring_in_range, ring_slants}
use Rattle.strips.proofs.Picking.{all_below, all-suc}
use Rattle.build.specs.Board.{Board, ring_at, polygons, unit, size_at, strips_at, roots_of}
use Rattle.build.specs.Grid.{all_even}
use Rattle.table.specs.Formed.{holds_whole_slots}
use Rattle.build.specs.Says.{rows_shaped, entry_ok, list_ok, settings_ok, judge_from, even_from, build_says}
use Rattle.laws.proofs.Sheets.{bits-in_sheet}
use Rattle.laws.specs.Records.{given, build_says_of, is_taken, BuildTakesRecords}

-- what stands past a list's last item
abbrev no_entry : Entry
no_entry = record { layer = 0; cell = 0 }

abbrev no_point : Point
no_point = record { x = pos 0; y = pos 0 }

abbrev no_polygon : Polygon
no_polygon = record { layer = 0; component = 0; sheet = 0; points = [] }

-- ---- each item of a list that fits does, behind the one before it
module _ {A S : Type 0} (item : S → Codec A) (leaves : A → S) (d : A) where
  abbrev before : S → List A → ℕ → S
  before seen xs zero = seen
  before seen xs (suc i) = leaves (get_or xs i d)

  before-shift : (seen : S) (x : A) (xs : List A) (i : ℕ) → before (leaves x) xs i ≡ before seen (x ∷ xs) (suc i)
  before-shift seen x xs zero = refl
  before-shift seen x xs (suc i) = refl

  fits-at : (seen : S) (xs : List A) (i : ℕ) → all_fit item leaves seen xs ≡ true → i < length xs → (item (before seen xs i)).fits (get_or xs i d) ≡ true
  unfolding all_fit
  fits-at seen [] i e h = absurd (omega arith)
  fits-at seen (x ∷ xs) zero e h = (each ((item seen).fits x) (all_fit item leaves (leaves x) xs) e).0
  fits-at seen (x ∷ xs) (suc i) e h =
      subst (λ (s : S). (item s).fits (get_or xs i d) ≡ true) (before-shift seen x xs i)
      (fits-at (leaves x) xs i (each ((item seen).fits x) (all_fit item leaves (leaves x) xs) e).1 (omega arith))

-- ---- the layer list
record EntryFits (last : Option ℕ) (x : Entry) : Type 0 where
  layer : ltb x.layer (2 ^ 16) ≡ true
  above : is_above last x.layer ≡ true
  cell : leb x.cell max_cell ≡ true

entry-fits : (last : Option ℕ) (x : Entry) → (entry (limits_of One) last).fits x ≡ true → EntryFits last x
entry-fits last x fits =
    let p = each _ _ fits in
    let layer = each _ _ p.0 in
    let cell = each _ _ (each _ _ p.1).1 in
    record { layer = layer.0; above = layer.1; cell = cell.1 }

module _ (es : List Entry) (e : all_fit (entry (limits_of One)) (λ x. Some x.layer) None es ≡ true) where
  row_is : (i : ℕ) → i < length es → get_or (map entry_row es) i [] ≡ entry_row (get_or es i no_entry)
  row_is i h = get_or-map entry_row es i no_entry [] h

  fits_at : (i : ℕ) → i < length es → EntryFits (before (entry (limits_of One)) (λ x. Some x.layer) no_entry None es i) (get_or es i no_entry)
  fits_at i h = entry-fits _ _ (fits-at (entry (limits_of One)) (λ x. Some x.layer) no_entry None es i e h)

  entry-ok : (i : ℕ) → i < length es → entry_ok (map entry_row es) i ≡ true
  entry-ok zero h = let f = fits_at 0 h in rw (row_is 0 h, f.layer, f.cell) refl
  entry-ok (suc i) h =
      let f = fits_at (suc i) h in
      let last : suc i - 1 ≡ i = omega arith in
      rw (row_is (suc i) h, eqb-suc-zero i, last, row_is i (omega arith), f.layer, f.cell) f.above

  entries-ok : (n : ℕ) → n ≤ length es → all_below (entry_ok (map entry_row es)) n ≡ true
  entries-ok zero h = refl
  entries-ok (suc n) h = all-suc (entry_ok (map entry_row es)) n ∙ both (entries-ok n (omega arith)) (entry-ok n (omega arith))

-- ---- a polygon's points and sheet
module _ (ps : List Point) (e : all_fit (λ (_ : Unit {0}). point) (λ _. tt) tt ps ≡ true) where
  points-in : (n : ℕ) → n ≤ length ps → all_below (point_in_range (map point_row ps)) n ≡ true
  points-in zero h = refl
  points-in (suc n) h =
      let here : point_in_range (map point_row ps) n ≡ true = rw (get_or-map point_row ps n no_point [] (omega arith)) (fits-at (λ (_ : Unit {0}). point) (λ _. tt) no_point tt ps n e (omega arith)) in
      all-suc (point_in_range (map point_row ps)) n ∙ both (points-in n (omega arith)) here

  ring-in : leb (length ps) max_points ≡ true → ring_in_range (map point_row ps) ≡ true
  unfolding ring_in_range
  ring-in few = rw (length-map ps point_row) (both few (points-in (length ps) (omega arith)))

record IsSound (r : Float) (ps : List (List ℤ)) : Type 0 where
  sheet : in_sheet r ≡ true
  ring : ring_in_range ps ≡ true

polygon-sound : (p : Polygon) → (polygon (limits_of One)).fits p ≡ true → IsSound (sheet_of p) (map point_row p.points)
unfolding polygon
polygon-sound p fits =
    let rest = each _ _ (each ((any w32).fits p.component) _ (each ((any w16).fits p.layer) _ fits).1).1 in
    let bits = each _ _ (each ((any w64).fits p.sheet) _ rest.0).1 in
    let points = each _ _ rest.1 in
    record { sheet = is_true _ (bits-in_sheet p.sheet (leb-true _ _ bits.0) (leb-true _ _ bits.1)); ring = ring-in p.points points.1 points.0 }

-- ---- the rings in one row, one behind the other
abbrev counts_in : List Polygon → List ℕ
counts_in = map points_in

abbrev points_row : List Polygon → List (List ℤ)
points_row ps = map point_row (rings ps)

counts-add : (ps : List Polygon) → sum (counts_in ps) ≡ length (points_row ps)
counts-add [] = refl
counts-add (x ∷ ps) =
    omega (arith, sum_by-cons (λ (c : ℕ). c) (points_in x) (counts_in ps), counts-add ps, length-map (rings ps) point_row, length-map (x.points ++ rings ps) point_row, length-append x.points (rings ps))

ring_is : (ps : List Polygon) (p : ℕ) → p < length ps → ring_at (counts_in ps) (points_row ps) p ≡ map point_row (get_or ps p no_polygon).points
unfolding ring_at
ring_is [] p h = absurd (omega arith)
ring_is (x ∷ ps) zero h = rw (map-append point_row x.points (rings ps)) (take_at (map point_row x.points) (points_row ps) (points_in x) (length-map x.points point_row))
ring_is (x ∷ ps) (suc p) h =
    let own = map point_row x.points in
    let start : sum (take (suc p) (counts_in (x ∷ ps))) ≡ length own + sum (take p (counts_in ps)) = omega (arith, sum_by-cons (λ (c : ℕ). c) (points_in x) (take p (counts_in ps)), length-map x.points point_row) in
    let rest : drop (sum (take (suc p) (counts_in (x ∷ ps)))) (points_row (x ∷ ps)) ≡ drop (sum (take p (counts_in ps))) (points_row ps) = rw (map-append point_row x.points (rings ps), start) (drop-append-add own (points_row ps) (sum (take p (counts_in ps)))) in
    ap (take (get_or (counts_in ps) p 0)) rest ∙ ring_is ps p (omega arith)

-- ---- what build says, polygon by polygon
either : (b : Bool) (x y : Said) → is_taken x ≡ true → is_taken y ≡ true → is_taken (cond b x y) ≡ true
either true x y p q = p
either false x y p q = q

module _ (o : Said) (taken : is_taken o ≡ true) where
  judged-taken : (rs : List Float) (cs : List ℕ) (ps : List (List ℤ)) (q n : ℕ) → ((p : ℕ) → p < q + n → IsSound (get_or rs p nan) (ring_at cs ps p)) → is_taken (judge_from rs cs ps q n o) ≡ true
  unfolding judge_from
  judged-taken rs cs ps q zero sound = taken
  judged-taken rs cs ps q (suc n) sound =
      let s = sound q (omega arith) in
      rw (s.sheet, s.ring) (either (ring_slants (ring_at cs ps q)) (refused 4 q) _ refl (judged-taken rs cs ps (suc q) n (λ p h. sound p (omega arith))))

  even-taken : (b : Board) (q n : ℕ) → is_taken (even_from b q n o) ≡ true
  unfolding even_from
  even-taken b q zero = taken
  even-taken b q (suc n) = either (all_even (unit b) b.settings.cap (size_at b q) (strips_at b q)) _ (refused 5 q) (even-taken b (suc q) n) refl

-- ---- a board in range
module _ (b : RecordBoard) (e : is_in_range b ≡ true) where
  sound-at : (p : ℕ) → p < length (counts_in b.polygons) → IsSound (get_or (map sheet_of b.polygons) p nan) (ring_at (counts_in b.polygons) (points_row b.polygons) p)
  sound-at p h =
      let below : p < length b.polygons = omega (arith, length-map b.polygons points_in) in
      rw (get_or-map sheet_of b.polygons p no_polygon nan below, ring_is b.polygons p below)
      (polygon-sound (get_or b.polygons p no_polygon) (fits-at (λ (_ : Unit {0}). polygon (limits_of One)) (λ _. tt) no_polygon tt b.polygons p (board_fits b e).polygons below))

  settings-taken : settings_ok (given b) ≡ true
  unfolding body list_ok
  settings-taken =
      let l = limits_of One in
      let g = b.settings in
      let parts = each ((settings l).fits g) _ e in
      let level = each (leb g.level widest_level) _ parts.0 in
      let cells = each _ _ level.1 in
      let cap = each ((any w16).fits g.cap) (leb 1 g.cap && leb g.cap max_cap) cells.0 in
      let target = each ((any w64).fits g.target) (leb 1 g.target && leb g.target max_cell) cells.1 in
      let list = each (leb (length b.layers) max_layers) _ (each ((layer_list l).fits b.layers) _ parts.1).0 in
      let few = le-leb (length b.polygons) max_polygons (board_fits b e).few_polygons in
      rw (length-map b.polygons points_in, length-map b.layers entry_row)
      (both (both (both (both level.0 few) cap.1) target.1) (both list.0 (entries-ok b.layers list.1 (length b.layers) (omega arith))))

  one_each : {X : Type 0} (f : Polygon → X) → eqb (length (map f b.polygons)) (length (counts_in b.polygons)) ≡ true
  one_each f = eq-eqb _ _ (length-map b.polygons f ∙ sym (length-map b.polygons points_in))

  says-taken : (size : ℕ) → holds_whole_slots size ≡ true → is_taken (build_says_of b size) ≡ true
  unfolding build_says rows_shaped
  says-taken size room =
      let shape = both (both room (both (one_each (λ p. p.layer)) (both (one_each (λ p. p.component)) (one_each sheet_of)))) (eq-eqb _ _ (counts-add b.polygons)) in
      let last = either (ltb (size / 8) (length (roots_of (given b)))) (refused 6 0) _ refl refl in
      rw (shape, settings-taken) (judged-taken _ (even-taken _ last (given b) 0 (polygons (given b))) _ _ _ 0 (polygons (given b)) (λ p h. sound-at p (omega arith)))

pub build-takes : BuildTakesRecords
build-takes bytes b size fits read room = says-taken b (record_found bytes b fits read) size room
