-- Each field of a board record reads what it spells, and what it reads fits; so does a whole record.
use Rattle.std.proofs.Common.{◌≡◌, ℕ, ◌+◌, ◌*◌, ◌-◌, ◌^◌, ◌<◌, ◌≤◌, Bool, true, false, cond, eqb, leb, ◌&&◌, List, [], ◌∷◌, ◌++◌, length, Option, Some, None, Ok, ℤ, pos, negsuc, refl, sym, ap, subst, ◌∙◌, append-nil, arith, SFits, eq-eqb, ne_eqb, leb-true, le-leb, mul-suc, length-append}
use Rattle.std.specs.List.{flat_map}
use Rattle.std.specs.Int.{w8, w16, w32, w64, to_be_bytes, bytes_high_first}
use Rattle.std.proofs.lemmas.Bool.{ltb-true}
use Rattle.refusals.specs.Limits.{max_layers, max_polygons, max_points, coordinate as farthest, sheet_low_bits, sheet_high_bits, default_level}
use Rattle.refusals.specs.declared.Refusal.TheVariants.{WrongLength, OutOfRange}
use Rattle.cell.specs.Ticks.{in_range}
use Rattle.fields.specs.Cursor.{Cursor, start, require, number}
use Rattle.fields.specs.Codec.{Codec, any, ranged, pair, all_fit, counted}
use Rattle.fields.proofs.Laws.{bind_ok, require_ok, ok_is, each, IsBytes, IsLawful, wide8, wide16, wide32, wide64, number_again, number_found, any_lawful, tested_lawful, ranged_lawful, signed_lawful, pair_lawful, named_lawful, chained_lawful, counted_lawful}
use Rattle.record.specs.declared.board.Version.{Version}
use Rattle.record.specs.declared.board.Version.TheVariants.{One}
use Rattle.record.specs.declared.board.Limits.{Limits}
use Rattle.record.specs.Board.{Polygon, Board, version_of, limits_of, means_default, level, settings, is_above, layer, entry, layer_list, coordinate, point, polygon, polygon_list, split_list, body, board, record_of, is_in_range}
use Rattle.record.specs.Puts.{entry_bytes, polygon_bytes, settings_bytes}
use Rattle.fields.proofs.Stores.{bytes-length}
use Rattle.record.proofs.Turns.{each-length, entry-long, polygon-long, splits-long}
use Rattle.record.proofs.Records.{board_lists, spelled, settings-long}

-- what a version allows fits its fields
record IsRoomy (l : Limits) : Type 0 where
  least : default_level ≤ l.max_level
  level : l.max_level < means_default
  layers : l.layers < 2 ^ 16
  polygons : l.polygons < 2 ^ 16
  points : l.ring_points < 2 ^ 16

roomy : (v : Version) → IsRoomy (limits_of v)
roomy One = record { least = omega arith; level = omega arith; layers = omega arith; polygons = omega arith; points = omega arith }

-- ---- each field

module _ (most : ℕ) (least : default_level ≤ most) (small : most < means_default) where
  chosen : (at : ℕ) (n : ℕ × Cursor) (b : Bool) {x : ℕ × Cursor} → cond b (Ok (default_level, n.1)) (require (leb n.0 most) (OutOfRange at) (Ok n)) ≡ Ok x → IsBytes n.1.rest
      → (leb x.0 most ≡ true) × IsBytes x.1.rest
  chosen at n true h fits =
      let made : ℕ × Cursor = (default_level, n.1) in
      subst (λ (x : ℕ × Cursor). (leb x.0 most ≡ true) × IsBytes x.1.rest) (ok_is {x = made} h) (le-leb default_level most least, fits)
  chosen at n false h fits =
      let t = require_ok (leb n.0 most) (OutOfRange at) (Ok n) h in
      subst (λ (x : ℕ × Cursor). (leb x.0 most ≡ true) × IsBytes x.1.rest) (ok_is t.1) (t.0, fits)

  level_lawful : IsLawful (level most)
  level_lawful = record {
    again = λ n at rest fits.
        let le : n ≤ most = leb-true n most fits in
        let other : eqb n means_default ≡ false = ne_eqb n means_default (λ e. omega arith) in
        rw (number_again w8 wide8 n at rest (omega arith), other, fits) refl;
    found = λ old {x} {new} fits e.
        let b = bind_ok (number w8 old) (λ n. cond (eqb n.0 means_default) (Ok (default_level, n.1)) (require (leb n.0 most) (OutOfRange old.at) (Ok n))) e in
        let t = number_found w8 wide8 old {n = b.0.0} {new = b.0.1} fits b.1 in
        chosen old.at b.0 (eqb b.0.0 means_default) b.2 t.1;
  }

in_range_fits : (z : ℤ) → in_range z ≡ true → SFits w64 z
unfolding in_range
in_range_fits (pos n) h = let q : leb n farthest ≡ true = h in record { sfits = omega (arith, leb-true n farthest q) }
in_range_fits (negsuc n) h =
    let q : (leb n (farthest - 1) && true) ≡ true = h in
    record { sfits = omega (arith, leb-true n (farthest - 1) (each (leb n (farthest - 1)) true q).0) }

coordinate_lawful : IsLawful coordinate
coordinate_lawful = signed_lawful in_range in_range_fits

point_lawful : IsLawful point
point_lawful = named_lawful _ _ (pair coordinate coordinate) (λ x. refl) (λ y. refl) (pair_lawful coordinate coordinate coordinate_lawful coordinate_lawful)

layer_lawful : (last : Option ℕ) → IsLawful (layer last)
layer_lawful last = tested_lawful (is_above last) (any w16) (any_lawful w16 wide16)

split_list_lawful : IsLawful split_list
split_list_lawful = counted_lawful w16 wide16 (2 ^ 16 - 1) (omega arith) (any w32) (any_lawful w32 wide32)

module _ (l : Limits) (r : IsRoomy l) where
  settings_lawful : IsLawful (settings l)
  settings_lawful =
      let rest = pair (ranged w16 1 l.cap) (ranged w64 1 l.cell) in
      named_lawful _ _ (pair (level l.max_level) rest) (λ x. refl) (λ y. refl)
      (pair_lawful (level l.max_level) rest (level_lawful l.max_level r.least r.level)
      (pair_lawful (ranged w16 1 l.cap) (ranged w64 1 l.cell) (ranged_lawful w16 wide16 1 l.cap) (ranged_lawful w64 wide64 1 l.cell)))

  entry_lawful : (last : Option ℕ) → IsLawful (entry l last)
  entry_lawful last =
      named_lawful _ _ (pair (layer last) (ranged w64 0 l.cell)) (λ x. refl) (λ y. refl)
      (pair_lawful (layer last) (ranged w64 0 l.cell) (layer_lawful last) (ranged_lawful w64 wide64 0 l.cell))

  layer_list_lawful : IsLawful (layer_list l)
  layer_list_lawful = chained_lawful (entry l) (λ e. Some e.layer) entry_lawful w16 wide16 l.layers (omega (arith, r.layers)) None (λ s x. refl)

  polygon_lawful : IsLawful (polygon l)
  unfolding polygon
  polygon_lawful =
      let points = counted w16 l.ring_points point in
      let sheet = pair (ranged w64 sheet_low_bits sheet_high_bits) points in
      let component = pair (any w32) sheet in
      named_lawful _ _ (pair (any w16) component) (λ x. refl) (λ y. refl)
      (pair_lawful (any w16) component (any_lawful w16 wide16)
      (pair_lawful (any w32) sheet (any_lawful w32 wide32)
      (pair_lawful (ranged w64 sheet_low_bits sheet_high_bits) points (ranged_lawful w64 wide64 sheet_low_bits sheet_high_bits)
      (counted_lawful w16 wide16 l.ring_points (omega (arith, r.points)) point point_lawful))))

  polygon_list_lawful : IsLawful (polygon_list l)
  polygon_list_lawful = counted_lawful w16 wide16 l.polygons (omega (arith, r.polygons)) (polygon l) polygon_lawful

  body_lawful : IsLawful (body l)
  unfolding body
  body_lawful =
      let shapes = pair (polygon_list l) split_list in
      let lists = pair (layer_list l) shapes in
      named_lawful _ _ (pair (settings l) lists) (λ x. refl) (λ y. refl)
      (pair_lawful (settings l) lists settings_lawful
      (pair_lawful (layer_list l) shapes layer_list_lawful
      (pair_lawful (polygon_list l) split_list polygon_list_lawful split_list_lawful)))

-- ---- how long a record in range is

module _ {A S : Type 0} (item : S → Codec A) (leaves : A → S) (f : A → List ℕ) (k : ℕ) (short : (s : S) (x : A) → (item s).fits x ≡ true → length (f x) ≤ k) where
  all_short : (seen : S) (xs : List A) → all_fit item leaves seen xs ≡ true → length (flat_map f xs) ≤ k * length xs
  unfolding all_fit
  all_short seen [] fits = omega arith
  all_short seen (x ∷ xs) fits =
      let t = each ((item seen).fits x) (all_fit item leaves (leaves x) xs) fits in
      rw (mul-suc k (length xs)) (omega (arith, length-append (f x) (flat_map f xs), short seen x t.0, all_short (leaves x) xs t.1))

-- what the description of a polygon takes
pub record PolygonFits (l : Limits) (p : Polygon) : Type 0 where
  pub layer : p.layer < 2 ^ 16
  pub component : p.component < 2 ^ 32
  pub sheet : p.sheet ≤ sheet_high_bits
  pub points : length p.points ≤ l.ring_points

pub polygon_fits : (l : Limits) (p : Polygon) → (polygon l).fits p ≡ true → PolygonFits l p
unfolding polygon
polygon_fits l p fits =
    let a = each _ _ fits in
    let b = each _ _ a.1 in
    let c = each _ _ b.1 in
    let d = each _ _ c.1 in
    let bits = each _ _ (each _ _ c.0).1 in
    record {
      layer = ltb-true p.layer (256 ^ 2) a.0;
      component = ltb-true p.component (256 ^ 4) b.0;
      sheet = leb-true p.sheet sheet_high_bits bits.1;
      points = leb-true (length p.points) l.ring_points d.0;
    }

-- what the description of a board takes
pub record BoardFits (b : Board) : Type 0 where
  pub layers : length b.layers ≤ max_layers
  pub few_polygons : length b.polygons ≤ max_polygons
  pub polygons : all_fit (λ (_ : Unit {0}). polygon (limits_of One)) (λ _. tt) tt b.polygons ≡ true
  pub splits : length b.splits ≤ 2 ^ 16 - 1

pub board_fits : (b : Board) → is_in_range b ≡ true → BoardFits b
unfolding body
board_fits b fits =
    let s = each _ _ fits in
    let l = each _ _ s.1 in
    let p = each _ _ l.1 in
    let polygons = each _ _ p.0 in
    record {
      layers = leb-true (length b.layers) max_layers (each _ _ l.0).0;
      few_polygons = leb-true (length b.polygons) max_polygons polygons.0;
      polygons = polygons.1;
      splits = leb-true (length b.splits) (2 ^ 16 - 1) (each _ _ p.1).0;
    }

polygon-short : (p : Polygon) → (polygon (limits_of One)).fits p ≡ true → length (polygon_bytes p) ≤ 16 + 16 * max_points
polygon-short p fits = let f = polygon_fits (limits_of One) p fits in omega (arith, polygon-long p, f.points)

text-long : (b : Board) → is_in_range b ≡ true → length ((body (limits_of One)).spelling b) < 2 ^ 32
text-long b fits =
    let f = board_fits b fits in
    let l1 = bytes_high_first 2 (length b.layers) in
    let l2 = flat_map entry_bytes b.layers in
    let p1 = bytes_high_first 2 (length b.polygons) in
    let p2 = flat_map polygon_bytes b.polygons in
    let k1 = bytes_high_first 2 (length b.splits) in
    let k2 = flat_map (bytes_high_first 4) b.splits in
    omega (
      arith,
      ap length (spelled b),
      length-append (settings_bytes b.settings) (board_lists b),
      settings-long b.settings,
      length-append (l1 ++ l2) ((p1 ++ p2) ++ (k1 ++ k2)),
      length-append (p1 ++ p2) (k1 ++ k2),
      length-append l1 l2,
      length-append p1 p2,
      length-append k1 k2,
      bytes-length 2 (length b.layers),
      bytes-length 2 (length b.polygons),
      bytes-length 2 (length b.splits),
      each-length entry_bytes 10 entry-long b.layers,
      all_short (λ (_ : Unit {0}). polygon (limits_of One)) (λ _. tt) polygon_bytes (16 + 16 * max_points) (λ _ p. polygon-short p) tt b.polygons f.polygons,
      splits-long b.splits,
      f.layers,
      f.few_polygons,
      f.splits,
    )

-- ---- whole records

pub record_again : (b : Board) → is_in_range b ≡ true → board (record_of One b) ≡ Ok b
unfolding board record_of
record_again b fits =
    let text = (body (limits_of One)).spelling b in
    let rest = to_be_bytes w32 (length text) ++ text in
    let first : number w8 (start (1 ∷ rest)) ≡ Ok (1, record { at = 1; rest = rest }) = number_again w8 wide8 1 0 rest (omega arith) in
    let second : number w32 (record { at = 1; rest = rest }) ≡ Ok (length text, record { at = 5; rest = text }) = number_again w32 wide32 (length text) 1 text (text-long b fits) in
    let whole : eqb (length text) (length text) ≡ true = eq-eqb _ _ refl in
    let third : (body (limits_of One)).reading (record { at = 5; rest = text }) ≡ Ok (b, record { at = 5 + length text; rest = [] }) =
    ap (λ (r : List ℕ). (body (limits_of One)).reading (record { at = 5; rest = r })) (sym (append-nil text)) ∙ (body_lawful (limits_of One) (roomy One)).again b 5 [] fits in
    rw (first, second, whole, third) refl

pub known : (byte : ℕ) (v : Version) → version_of byte ≡ Ok v → v ≡ One
known byte One e = refl

pub record_found : (bytes : List ℕ) (b : Board) → IsBytes bytes → board bytes ≡ Ok b → is_in_range b ≡ true
unfolding board
record_found bytes b fits e =
    let first = bind_ok (number w8 (start bytes)) _ e in
    let version = bind_ok (version_of first.0.0) _ first.2 in
    let v = version.0 in
    let n = bind_ok (number w32 first.0.1) _ version.2 in
    let whole = require_ok (eqb n.0.0 (length n.0.1.rest)) (WrongLength first.0.1.at) _ n.2 in
    let read = bind_ok ((body (limits_of v)).reading n.0.1) (λ b. require (eqb (length b.1.rest) 0) (WrongLength b.1.at) (Ok b.0)) whole.1 in
    let ended = require_ok (eqb (length read.0.1.rest) 0) (WrongLength read.0.1.at) (Ok read.0.0) read.2 in
    let t1 = number_found w8 wide8 (start bytes) {n = first.0.0} {new = first.0.1} fits first.1 in
    let t2 = number_found w32 wide32 first.0.1 {n = n.0.0} {new = n.0.1} t1.1 n.1 in
    let t3 = (body_lawful (limits_of v) (roomy v)).found n.0.1 {x = read.0.0} {new = read.0.1} t2.1 read.1 in
    let x = read.0.0 in
    let f : (body (limits_of v)).fits b ≡ true = ap (body (limits_of v)).fits (sym (ok_is {x = x} {y = b} ended.1)) ∙ t3.0 in
    ap (λ (w : Version). (body (limits_of w)).fits b) (sym (known first.0.0 v version.1)) ∙ f
