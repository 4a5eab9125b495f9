-- One polygon more: what its stores leave to be put.
use Rattle.std.proofs.Common.{ℕ, ◌+◌, ◌*◌, ◌-◌, ◌≤◌, ◌<◌, ◌≡◌, refl, sym, ap, ◌∙◌, Bool, true, false, ◌&&◌, List, [], ◌∷◌, ◌++◌, append_assoc, mul-suc, mul-zero, add-one, arith, leb, eqb, ℤ, Float, length, get_or, take, drop, length-append, length-drop, drop-cons, length-take-le, leb-true, le-leb, eqb-true, w64}
use mathlib.Core.Bool.{false≢true}
use lib.ListN.{length-map}
use lib.Seq.{sets}
use borrow.Author.Tests.{lt-leb}
use Rattle.record.specs.Board.{Entry, Polygon, Point}
use Rattle.std.specs.List.{flat_map, sum_by}
use Rattle.std.proofs.lemmas.List.Sums.{sum_by-cons}
use Rattle.std.proofs.lemmas.Bool.Decides.{nat_tests}
use Rattle.std.specs.Int.{bytes_high_first, cast_unsigned}
use Rattle.record.specs.Puts.{entry_bytes, point_bytes, polygon_bytes, head_bytes}
use Rattle.record.specs.Writing.{entry_of, entries_of, point_of, ring_of, sheet_bits, count_of, polygons_of, add_up}
use Rattle.fields.proofs.Stores.{bytes-length, sets_then, bytes_then}
use Rattle.record.proofs.Stores.{mapped-turn, mapped-end}

pub and_both : (a b : Bool) → (a && b) ≡ true → (a ≡ true) × (b ≡ true)
and_both true b p = (refl, p)
and_both false b p = absurd (false≢true p)

pub none : {A : Type 0} (l : List A) → length l ≡ 0 → l ≡ []
none [] e = refl
none (x ∷ l) e = absurd (omega arith)

counted : (c s m : ℕ) → eqb (c + s) m ≡ (leb c m && eqb s (m - c))
counted c s m = grind (arith, nat_tests)

-- the first count is taken off
pub add_cons : (p : List ℕ) (ps : List (List ℕ)) (m : ℕ) → add_up (p ∷ ps) m ≡ (leb (count_of p) m && add_up ps (m - count_of p))
unfolding add_up
add_cons p ps m = ap (λ k. eqb k m) (sum_by-cons count_of p ps) ∙ counted (count_of p) (sum_by count_of ps) m

pub add_none : (m : ℕ) → add_up [] m ≡ eqb m 0
unfolding add_up
add_none m = grind (arith, nat_tests)

pub count_fits : (p : List ℕ) (ps : List (List ℕ)) (m : ℕ) → add_up (p ∷ ps) m ≡ true → (count_of p ≤ m) × (add_up ps (m - count_of p) ≡ true)
count_fits p ps m e =
    let b = and_both (leb (count_of p) m) (add_up ps (m - count_of p)) (sym (add_cons p ps m) ∙ e) in
    (leb-true (count_of p) m b.0, b.1)

pub none_left : (ps : List (List ℕ)) (m : ℕ) → ps ≡ [] → add_up ps m ≡ true → m ≡ 0
none_left ps m e h = eqb-true m 0 (sym (ap (λ x. add_up x m) e ∙ add_none m) ∙ h)

pub each-length : {A : Type 0} (f : A → List ℕ) (k : ℕ) → ((x : A) → length (f x) ≡ k) → (xs : List A) → length (flat_map f xs) ≡ k * length xs
each-length f k h [] = sym (mul-zero k)
each-length f k h (x ∷ xs) = length-append (f x) (flat_map f xs) ∙ rw (mul-suc k (length xs)) (omega (arith, h x, each-length f k h xs))

point-long : (p : Point) → length (point_bytes p) ≡ 16
point-long p = length-append (bytes_high_first 8 (cast_unsigned w64 p.x)) (bytes_high_first 8 (cast_unsigned w64 p.y)) ∙ omega (arith, bytes-length 8 (cast_unsigned w64 p.x), bytes-length 8 (cast_unsigned w64 p.y))

regroup : (a b c d e : List ℕ) → (a ++ (b ++ (c ++ d))) ++ e ≡ a ++ (b ++ (c ++ (d ++ e)))
regroup a b c d e = simp append_assoc

head-long : (a b c d : ℕ) → length (bytes_high_first 2 a ++ (bytes_high_first 4 b ++ (bytes_high_first 8 c ++ bytes_high_first 2 d))) ≡ 16
head-long a b c d =
    omega (
      arith,
      length-append (bytes_high_first 2 a) (bytes_high_first 4 b ++ (bytes_high_first 8 c ++ bytes_high_first 2 d)),
      length-append (bytes_high_first 4 b) (bytes_high_first 8 c ++ bytes_high_first 2 d),
      length-append (bytes_high_first 8 c) (bytes_high_first 2 d),
      bytes-length 2 a,
      bytes-length 4 b,
      bytes-length 8 c,
      bytes-length 2 d,
    )

-- the polygon of a turn: its head and then its ring, and what is left is put behind them
module _ (p : List ℕ) (r : Float) (qs : List (List ℤ)) (room : count_of p ≤ length qs) where
  here : Polygon
  here = record { layer = get_or p 0 0; component = get_or p 1 0; sheet = sheet_bits r; points = ring_of (take (count_of p) qs) }

  points-long : length here.points ≡ count_of p
  unfolding here
  points-long = length-map (take (count_of p) qs) _ ∙ length-take-le (count_of p) qs room

  parts : head_bytes p (sheet_bits r) ++ flat_map point_bytes here.points ≡ polygon_bytes here
  unfolding here
  parts =
      let u = flat_map point_bytes here.points in
      regroup (bytes_high_first 2 (get_or p 0 0)) (bytes_high_first 4 (get_or p 1 0)) (bytes_high_first 8 (sheet_bits r)) (bytes_high_first 2 (count_of p)) u
      ∙ ap (λ k. bytes_high_first 2 (get_or p 0 0) ++ (bytes_high_first 4 (get_or p 1 0) ++ (bytes_high_first 8 (sheet_bits r) ++ (bytes_high_first 2 k ++ u)))) (sym points-long)

  pub polygon-turn : (ps : List (List ℕ)) (rs : List Float) (at : ℕ) (out head ring : List ℕ)
      → head ≡ sets out at (head_bytes p (sheet_bits r))
      → ring ≡ sets head (at + 16) (flat_map point_bytes (ring_of (take (count_of p) qs)))
      → sets ring (at + (16 + 16 * count_of p)) (flat_map polygon_bytes (polygons_of ps rs (drop (count_of p) qs)))
      ≡ sets out at (flat_map polygon_bytes (polygons_of (p ∷ ps) (r ∷ rs) qs))
  unfolding here polygons_of
  polygon-turn ps rs at out head ring first second =
      let t = head_bytes p (sheet_bits r) in
      let u = flat_map point_bytes here.points in
      let long = head-long (get_or p 0 0) (get_or p 1 0) (sheet_bits r) (count_of p) in
      let v : ring ≡ sets out at (polygon_bytes here) = sets_then out at (at + 16) t u (omega (arith, long)) first second ∙ ap (sets out at) parts in
      let z : 16 + 16 * count_of p ≡ length (polygon_bytes here) =
      omega (arith, ap length parts, length-append t u, long, each-length point_bytes 16 point-long here.points, points-long) in
      sets_then out at (at + (16 + 16 * count_of p)) (polygon_bytes here) (flat_map polygon_bytes (polygons_of ps rs (drop (count_of p) qs)))
      (ap (λ k. at + k) z) v refl

pub none_to_put : (out : List ℕ) (at : ℕ) (ps : List (List ℕ)) (rs : List Float) (qs : List (List ℤ)) → ps ≡ []
    → sets out at (flat_map polygon_bytes (polygons_of ps rs qs)) ≡ out
unfolding polygons_of
none_to_put out at [] rs qs e = refl
none_to_put out at (p ∷ ps) rs qs e = absurd cc

-- ---- counts that add up

module _ (ps : List (List ℕ)) (i m : ℕ) where
  pub add_short : i < length ps → m < count_of (get_or ps i []) → add_up (drop i ps) m ≡ false
  add_short h l = ap (λ x. add_up x m) (drop-cons ps i [] h) ∙ add_cons _ _ m ∙ rw (lt-leb (count_of (get_or ps i [])) m l) refl

  pub add_next : i < length ps → count_of (get_or ps i []) ≤ m → add_up (drop i ps) m ≡ add_up (drop (i + 1) ps) (m - count_of (get_or ps i []))
  add_next h l = ap (λ x. add_up x m) (drop-cons ps i [] h) ∙ add_cons _ _ m ∙ rw (le-leb (count_of (get_or ps i [])) m l, add-one i) refl

  pub add_end : length ps ≤ i → add_up (drop i ps) m ≡ eqb m 0
  add_end h = ap (λ x. add_up x m) (none (drop i ps) (length-drop i ps ∙ omega arith)) ∙ add_none m

-- ---- lengths

pub entry-long : (e : Entry) → length (entry_bytes e) ≡ 10
entry-long e = length-append (bytes_high_first 2 e.layer) (bytes_high_first 8 e.cell) ∙ omega (arith, bytes-length 2 e.layer, bytes-length 8 e.cell)

pub entries-long : (rows : List (List ℕ)) → length (flat_map entry_bytes (entries_of rows)) ≡ 10 * length rows
entries-long rows = each-length entry_bytes 10 entry-long (entries_of rows) ∙ ap (λ n. 10 * n) (length-map rows _)

pub splits-long : (xs : List ℕ) → length (flat_map (bytes_high_first 4) xs) ≡ 4 * length xs
splits-long = each-length (bytes_high_first 4) 4 (bytes-length 4)

pub polygon-long : (p : Polygon) → length (polygon_bytes p) ≡ 16 + 16 * length p.points
polygon-long p =
    let u = flat_map point_bytes p.points in
    omega (
      arith,
      ap length (regroup (bytes_high_first 2 p.layer) (bytes_high_first 4 p.component) (bytes_high_first 8 p.sheet) (bytes_high_first 2 (length p.points)) u),
      length-append (bytes_high_first 2 p.layer ++ (bytes_high_first 4 p.component ++ (bytes_high_first 8 p.sheet ++ bytes_high_first 2 (length p.points)))) u,
      head-long p.layer p.component p.sheet (length p.points),
      each-length point_bytes 16 point-long p.points,
    )

pub polygons-long : (ps : List (List ℕ)) (rs : List Float) (qs : List (List ℤ)) → length ps ≡ length rs → add_up ps (length qs) ≡ true
    → length (flat_map polygon_bytes (polygons_of ps rs qs)) ≡ 16 * length ps + 16 * length qs
unfolding polygons_of
polygons-long [] rs qs h e = let z = none_left [] (length qs) refl e in omega arith
polygons-long (p ∷ ps) [] qs h e = absurd (omega arith)
polygons-long (p ∷ ps) (r ∷ rs) qs h e =
    let f = count_fits p ps (length qs) e in
    let d = length-drop (count_of p) qs in
    let x : Polygon = record { layer = get_or p 0 0; component = get_or p 1 0; sheet = sheet_bits r; points = ring_of (take (count_of p) qs) } in
    let n : length x.points ≡ count_of p = length-map (take (count_of p) qs) _ ∙ length-take-le (count_of p) qs f.0 in
    let i = polygons-long ps rs (drop (count_of p) qs) (omega arith) (ap (add_up ps) d ∙ f.1) in
    length-append (polygon_bytes x) (flat_map polygon_bytes (polygons_of ps rs (drop (count_of p) qs))) ∙ omega (arith, polygon-long x, n, i, d, f.0)

-- ---- entries and points, turn by turn

pub entries_turn : (out : List ℕ) (row : List (List ℕ)) (at i : ℕ) → i < length row
    → sets out at (flat_map entry_bytes (entries_of (drop i row)))
    ≡ sets (sets out at (entry_bytes (entry_of (get_or row i [])))) (at + 10) (flat_map entry_bytes (entries_of (drop (i + 1) row)))
entries_turn = mapped-turn entry_bytes entry_of 10 entry-long []

pub entries_end : (out : List ℕ) (row : List (List ℕ)) (at i : ℕ) → length row ≤ i → sets out at (flat_map entry_bytes (entries_of (drop i row))) ≡ out
entries_end = mapped-end entry_bytes entry_of 10 entry-long []

pub ring_turn : (out : List ℕ) (row : List (List ℤ)) (at i : ℕ) → i < length row
    → sets out at (flat_map point_bytes (ring_of (drop i row)))
    ≡ sets (sets out at (point_bytes (point_of (get_or row i [])))) (at + 16) (flat_map point_bytes (ring_of (drop (i + 1) row)))
ring_turn = mapped-turn point_bytes point_of 16 point-long []

pub ring_end : (out : List ℕ) (row : List (List ℤ)) (at i : ℕ) → length row ≤ i → sets out at (flat_map point_bytes (ring_of (drop i row))) ≡ out
ring_end = mapped-end point_bytes point_of 16 point-long []

-- what putting the entries, and the points, goes by
pub ruleset entries_put = (bytes_then, entries_turn, entries_end)

pub ruleset ring_put = (ring_turn, ring_end)
