-- What holds of the conductances: none is a NaN and none is negative; in the rules' ranges each is finite and above 0. Assumes nothing.
use Rattle.std.proofs.lemmas.Bool.Decides.{nat_tests}
use Rattle.std.proofs.Common.{◌≡◌, refl, sym, Option, Some, List, [], ◌∷◌, map, ℕ, ◌+◌, ◌*◌, ◌^◌, ◌≤◌, ◌<◌, lt_of_lt_of_le, zero-lt-suc, mul-pos, mul_assoc, mul-le-mul_right, arith, rules, true, false, T, eqb, ltb, ltb→lt, lt→ltb, lit≤, shl_lt, Float, pos, zero, suc, not}
use Rattle.std.specs.Prelude.{flat_map}
use Rattle.std.proofs.lemmas.Bool.{false≢true}
use lib.Ieee.{inf, fin, Format, binary64, up, down, round, mul, div, of_int, of_bits, le, lt}
use lib.Ieee.Fits.{up_pos, down_pos}
use lib.Ieee.Exact.{round_exact}
use lib.Ieee.Order.{round_mono}
use lib.Ieee.Scale.{finite}
use lib.Ieee.Positive.{positive, positive-finite, positive_of_value}
use Rattle.std.specs.Float.{float_is_finite}
use Rattle.cell.specs.Boxes.{Box}
use Rattle.floats.specs.Fractions.{in_sheet, sheet_low, sheet_high, nonneg}
use Rattle.floats.proofs.Signs.{round-nonneg, mul-nonneg, div-nonneg}
use Rattle.floats.proofs.Ranges.{In, in-positive, num-in, mul_in, div-in}
use Rattle.floats.proofs.Bounds.{float-positive, sheet-in, low-positive, high-positive}
use Rattle.net.specs.Net.{weld, Poly, MeshNode, Edge, NetCell, Piece, same_node, same_pair, corners_of, patch_at, One, Half, ◌·◌, ◌÷◌, num, halves, width, height, across, upright, side_of, sides_at, edges_of, edges_from, patches_from, face, distance, is_side, sheet_of, weight, weighed, Cornered}
use Rattle.net.specs.Laws.{IsPositive, widest}
use Rattle.net.proofs.All.{All, all_append, all_nil, all_cons, all-weld, all_map, all-map-by, all-by, all-each-by, all_both}
use Rattle.net.proofs.Faces.{Within, face-low, distance-low, side-distance}

-- ---- what holds of all conductances

module _ (P : Float → Type 0) where
  abbrev pub Conductance : Edge → Type 0
  Conductance e = P e.conductance

  -- of a leaf's sides, whole and in halves
  pub record Sides (p : Poly) (r : Box) : Type 0 where
    pub whole_across : P (One ÷ across p r)
    pub half_across : P (One ÷ (across p r · Half))
    pub whole_upright : P (One ÷ upright p r)
    pub half_upright : P (One ÷ (upright p r · Half))

  side-each : (n : List MeshNode) (a m b : MeshNode) (r : Float) → P (One ÷ r) → P (One ÷ (r · Half)) → All Conductance (side_of n a m b r)
  unfolding All
  side-each n a m b r whole half = grind (arith, all_nil Conductance, all_cons Conductance)

  leaf-each : (n : List MeshNode) (p : Poly) (r : Box) → Sides p r → All Conductance (sides_at n p r)
  unfolding sides_at
  leaf-each n p r s = grind (arith, all_append Conductance, side-each n)

  -- before the weights
  pub edges-each : (n : List MeshNode) (qs : List Piece) → All (λ (q : Piece). All (Sides q.poly) q.leaves) qs → All Conductance (edges_from n qs)
  unfolding All edges_from edges_of
  edges-each n [] h = tt
  edges-each n (q ∷ qs) h =
      let m = weld same_node n (corners_of q) in
      all_append Conductance (edges_of m q) (edges_from m qs)
      (all-weld Conductance same_pair [] (flat_map (sides_at m q.poly) q.leaves) (all_nil Conductance)
      (all-each-by (Sides q.poly) Conductance (sides_at m q.poly) q.leaves (λ r z. leaf-each m q.poly r z) h.0))
      (edges-each m qs h.1)

  -- after them
  weight-each : (g : Float) (f d : ℕ) (o : Option Float) → P g → ((s : Float) → o ≡ Some s → 0 < f → P (halves f ÷ (s · num d))) → P (weight g f d o)
  weight-each g f d o p h = grind (arith, nat_tests)

  pub weighed-each : (n : List MeshNode) (cs : List NetCell) (es : List Edge)
      → ((e : Edge) (s : Float) → sheet_of cs e.from e.to ≡ Some s → 0 < face n cs e → P (halves (face n cs e) ÷ (s · num (distance n e))))
      → All Conductance es → All Conductance (map (weighed n cs) es)
  unfolding weighed
  weighed-each n cs es h p =
      all-map-by Conductance Conductance (weighed n cs) es
      (λ e g. weight-each e.conductance (face n cs e) (distance n e) (sheet_of cs e.from e.to) g (λ s o f. h e s o f)) p

-- ---- what holds of all sheet resistances

module _ (S : Float → Type 0) where
  pub sheets-patches : (n : List MeshNode) (qs : List Piece) → All (λ (q : Piece). S q.poly.sheet) qs → All (λ (c : NetCell). S c.sheet) (patches_from n qs)
  unfolding All patches_from
  sheets-patches n [] h = tt
  sheets-patches n (q ∷ qs) h =
      let m = weld same_node n (corners_of q) in
      all_append (λ (c : NetCell). S c.sheet) (map (patch_at m q.poly) q.leaves) (patches_from m qs)
      (all_map (λ (c : NetCell). S c.sheet) (patch_at m q.poly) q.leaves (λ r. h.0)) (sheets-patches m qs h.1)

  -- of the one that is found, where it holds of every cell with the pair
  pub sheet-found : (cs : List NetCell) (a b : ℕ) (s : Float) → All (λ (c : NetCell). is_side c a b ≡ true → S c.sheet) cs → sheet_of cs a b ≡ Some s → S s
  unfolding All sheet_of
  sheet-found [] a b s h e = absurd (cc e)
  sheet-found (c ∷ cs) a b s h e = grind (arith, h.0, sheet-found cs a b s h.1)

  -- of the pieces: resistances of a poly's sheet and a leaf's box
  pub sides-pieces : (P : Float → Type 0) (B : Box → Type 0) → ((p : Poly) (r : Box) → S p.sheet → B r → Sides P p r) → (qs : List Piece)
      → All (λ (q : Piece). S q.poly.sheet) qs → All (λ (q : Piece). All B q.leaves) qs → All (λ (q : Piece). All (Sides P q.poly) q.leaves) qs
  sides-pieces P B h qs s b =
      all-by (λ (q : Piece). S q.poly.sheet × All B q.leaves) (λ (q : Piece). All (Sides P q.poly) q.leaves) qs
      (λ q a. all-by B (Sides P q.poly) q.leaves (λ r k. h q.poly r a.0 k) a.1)
      (all_both (λ (q : Piece). S q.poly.sheet) (λ (q : Piece). All B q.leaves) qs s b)

-- ---- finite and above 0, as a test and as two facts

pub positive-is : (x : Float) → T (positive x) → IsPositive x
positive-is (fin false m e) p =
    let q = mul-pos (mul-pos (ltb→lt 0 m p) (up_pos e)) (down_pos (pos 0)) in
    let z : 0 * up (pos 0) * down e ≡ 0 = omega arith in
    record { finite = unfold float_is_finite in refl; above_zero = unfold lt in lt→ltb (0 * up (pos 0) * down e) (m * up e * down (pos 0)) (omega arith) }
positive-is x p = absurd p

pub is-positive : (x : Float) → IsPositive x → T (positive x)
unfolding float_is_finite lt
is-positive (fin true m e) h = absurd h.above_zero
is-positive (fin false m e) h = grind (arith, nat_tests, ltb→lt _ _ h.above_zero)
is-positive x h = absurd (false≢true h.finite)

-- ---- none is a NaN, and none is negative

-- positive sides of at most so many ticks
abbrev pub Sized : ℕ → Box → Type 0
Sized most r = ((0 < width r) × (width r ≤ most)) × ((0 < height r) × (height r ≤ most))

nonzero : (n : ℕ) → T (ltb 0 n) → T (not (eqb n 0))
nonzero n p = grind (arith, nat_tests)

-- a positive number over one that is no NaN and not negative: 0 and infinity too
over-nonneg : (f : Format) (x y : Float) → T (positive x) → T (nonneg y) → T (nonneg (div f x y))
unfolding div
over-nonneg f (fin false m e) (inf false) p q = tt
over-nonneg f (fin false m e) (fin false n d) p q = grind (arith, nonzero m p, round-nonneg f (m * up e * down d) (n * up d * down e))
over-nonneg f (fin false m e) y p q = absurd q
over-nonneg f x y p q = absurd p

-- finite numbers that are not negative
times-nonneg : (f : Format) (x y : Float) → T (positive x) → T (finite y) → T (nonneg y) → T (nonneg (mul f x y))
unfolding mul
times-nonneg f (fin false m e) (fin false n d) p q r = round-nonneg f (m * up e * (n * up d)) (down e * down d)
times-nonneg f (fin false m e) (fin true n d) p q r = absurd r
times-nonneg f (fin false m e) y p q r = absurd q
times-nonneg f x y p q r = absurd p

halves-positive : (n : ℕ) → 0 < n → n < 2 ^ 53 → T (positive (halves n))
halves-positive n p h = positive_of_value (halves n) n 2 (round_exact binary64 false n 2 n 1073 (zero-lt-suc 1) h (lt_of_lt_of_le (shl_lt 53 1073 h) (lit≤ tt)) (sym (mul_assoc n (2 ^ 1073) 2))) p

num-finite : (n : ℕ) → n ≤ 2 ^ 53 → T (finite (num n))
unfolding of_int
num-finite zero h = tt
num-finite (suc n) h = positive-finite (num (suc n)) (float-positive (suc n) (zero-lt-suc n) h)

num-nonneg : (n : ℕ) → T (nonneg (num n))
unfolding of_int
num-nonneg n = round-nonneg binary64 n 1

positive-nonneg : (x : Float) → T (positive x) → T (nonneg x)
positive-nonneg (fin false m e) p = tt
positive-nonneg x p = absurd p

one-positive : T (positive One)
unfolding of_bits
one-positive = tt

half-positive : T (positive Half)
unfolding of_bits
half-positive = tt

abbrev NonNeg : Float → Type 0
NonNeg x = T (nonneg x)

resist : (s : Float) (w h : ℕ) → T (positive s) → 0 < w → w ≤ 2 ^ 53 → 0 < h → h ≤ 2 ^ 53 → NonNeg (s · num w ÷ num h)
resist s w h p a b c d = div-nonneg binary64 (s · num w) (num h) (mul-nonneg binary64 s (num w) (positive-nonneg s p) (float-positive w a b)) (float-positive h c d)

sides-nonneg : (p : Poly) (r : Box) → T (positive p.sheet) → Sized (2 ^ 53) r → Sides NonNeg p r
sides-nonneg p r s z =
    let f = resist p.sheet (width r) (height r) s z.0.0 z.0.1 z.1.0 z.1.1 in
    let g = resist p.sheet (height r) (width r) s z.1.0 z.1.1 z.0.0 z.0.1 in
    record {
      whole_across = over-nonneg binary64 One (across p r) one-positive f;
      half_across = over-nonneg binary64 One (across p r · Half) one-positive (mul-nonneg binary64 (across p r) Half f half-positive);
      whole_upright = over-nonneg binary64 One (upright p r) one-positive g;
      half_upright = over-nonneg binary64 One (upright p r · Half) one-positive (mul-nonneg binary64 (upright p r) Half g half-positive);
    }

-- of the edges of pieces whose nodes have coordinates of at most M
pub all-nonneg : (M : ℕ) (n : List MeshNode) (qs : List Piece) → M < 2 ^ 52 → All (Within M) n → All (λ (q : Piece). T (positive q.poly.sheet)) qs → All (λ (q : Piece). All (Sized (2 ^ 53)) q.leaves) qs
    → All (λ (e : Edge). T (nonneg e.conductance)) (map (weighed n (patches_from [] qs)) (edges_from [] qs))
all-nonneg M n qs m low s z =
    let cs = patches_from [] qs in
    let all = sheets-patches (λ x. T (positive x)) [] qs s in
    weighed-each NonNeg n cs (edges_from [] qs)
    (λ e x o f.
    (let p = sheet-found (λ x. T (positive x)) cs e.from e.to x (all-by (λ (c : NetCell). T (positive c.sheet)) (λ (c : NetCell). is_side c e.from e.to ≡ true → T (positive c.sheet)) cs (λ c p t. p) all) o in
    let face-small = face-low M n low cs e in
    let distance-small = distance-low M n low e in
    over-nonneg binary64 (halves (face n cs e)) (x · num (distance n e)) (halves-positive (face n cs e) f (omega arith))
    (times-nonneg binary64 x (num (distance n e)) p (num-finite (distance n e) (omega arith)) (num-nonneg (distance n e)))))
    (edges-each NonNeg [] qs (sides-pieces (λ x. T (positive x)) NonNeg (Sized (2 ^ 53)) sides-nonneg qs s z))

-- ---- in the rules' ranges each is finite and above 0

-- the least and the largest of a sheet resistance times a length, of a resistance, of half of one, and of a face
abbrev least_product : Float
least_product = sheet_low · num 1

abbrev most_product : Float
most_product = sheet_high · num widest

abbrev least_resistance : Float
least_resistance = least_product ÷ num widest

abbrev most_resistance : Float
most_resistance = most_product ÷ num 1

abbrev pub widest_face : ℕ
widest_face = widest + widest

-- these and what is made of them are finite and above 0
record Bounds : Type 0 where
  num_one : T (positive (num 1))
  num_widest : T (positive (num widest))
  low_product : T (positive least_product)
  high_product : T (positive most_product)
  low_resistance : T (positive least_resistance)
  high_resistance : T (positive most_resistance)
  low_half : T (positive (least_resistance · Half))
  high_half : T (positive (most_resistance · Half))
  low_whole : T (positive (One ÷ most_resistance))
  high_whole : T (positive (One ÷ least_resistance))
  low_halved : T (positive (One ÷ (most_resistance · Half)))
  high_halved : T (positive (One ÷ (least_resistance · Half)))
  halves_one : T (positive (halves 1))
  halves_most : T (positive (halves widest_face))
  low_weight : T (positive (halves 1 ÷ most_product))
  high_weight : T (positive (halves widest_face ÷ least_product))

bounds : Bounds
unfolding of_int of_bits round mul div
bounds = search rules

one-itself : In One One One
one-itself = record { from = unfold le of_bits in tt; to = unfold le of_bits in tt }

half-itself : In Half Half Half
half-itself = record { from = unfold le of_bits in tt; to = unfold le of_bits in tt }

halves-in : (n N : ℕ) → 1 ≤ n → n ≤ N → In (halves 1) (halves N) (halves n)
halves-in n N h k = record {
  from = round_mono binary64 1 2 n 2 (zero-lt-suc 1) (zero-lt-suc 1) (mul-le-mul_right 2 h);
  to = round_mono binary64 n 2 N 2 (zero-lt-suc 1) (zero-lt-suc 1) (mul-le-mul_right 2 k);
}

product-in : (s : Float) (w : ℕ) → T (in_sheet s) → 1 ≤ w → w ≤ widest → In least_product most_product (s · num w)
product-in s w p a b = mul_in binary64 low-positive high-positive bounds.num_one bounds.num_widest (sheet-in s p) (num-in w widest a b)

abbrev Positive : Float → Type 0
Positive x = T (positive x)

module _ (s : Float) (w h : ℕ) (p : T (in_sheet s)) (a : 1 ≤ w) (b : w ≤ widest) (c : 1 ≤ h) (d : h ≤ widest) where
  resistance-in : In least_resistance most_resistance (s · num w ÷ num h)
  resistance-in =
      div-in binary64 bounds.low_product bounds.high_product bounds.num_one bounds.num_widest (product-in s w p a b) (num-in h widest c d)

  whole-positive : Positive (One ÷ (s · num w ÷ num h))
  whole-positive =
      in-positive bounds.low_whole bounds.high_whole
      (div-in binary64 one-positive one-positive bounds.low_resistance bounds.high_resistance one-itself resistance-in)

  halved-positive : Positive (One ÷ (s · num w ÷ num h · Half))
  halved-positive =
      in-positive bounds.low_halved bounds.high_halved
      (div-in binary64 one-positive one-positive bounds.low_half bounds.high_half one-itself
      (mul_in binary64 bounds.low_resistance bounds.high_resistance half-positive half-positive resistance-in half-itself))

sides-positive : (p : Poly) (r : Box) → T (in_sheet p.sheet) → Sized widest r → Sides Positive p r
sides-positive p r s z =
    record {
      whole_across = whole-positive p.sheet (width r) (height r) s z.0.0 z.0.1 z.1.0 z.1.1;
      half_across = halved-positive p.sheet (width r) (height r) s z.0.0 z.0.1 z.1.0 z.1.1;
      whole_upright = whole-positive p.sheet (height r) (width r) s z.1.0 z.1.1 z.0.0 z.0.1;
      half_upright = halved-positive p.sheet (height r) (width r) s z.1.0 z.1.1 z.0.0 z.0.1;
    }

-- a face over a sheet resistance times a distance
pub weight-positive : (s : Float) (f d : ℕ) → T (in_sheet s) → 1 ≤ f → f ≤ widest_face → 1 ≤ d → d ≤ widest → Positive (halves f ÷ (s · num d))
weight-positive s f d p a b c e =
    in-positive bounds.low_weight bounds.high_weight
    (div-in binary64 bounds.halves_one bounds.halves_most bounds.low_product bounds.high_product (halves-in f widest_face a b) (product-in s d p c e))

-- of the edges of pieces whose leaves have area, and nodes with coordinates in range
pub all-positive : (n : List MeshNode) (qs : List Piece) → All (Within widest) n → All (Cornered n) (patches_from [] qs) → All (λ (q : Piece). T (in_sheet q.poly.sheet)) qs → All (λ (q : Piece). All (Sized widest) q.leaves) qs
    → All (λ (e : Edge). IsPositive e.conductance) (map (weighed n (patches_from [] qs)) (edges_from [] qs))
all-positive n qs low cornered s z =
    let cs = patches_from [] qs in
    all-by (λ (e : Edge). Positive e.conductance) (λ (e : Edge). IsPositive e.conductance) (map (weighed n cs) (edges_from [] qs)) (λ e p. positive-is e.conductance p)
    (weighed-each Positive n cs (edges_from [] qs)
    (λ e x o f.
    (let k = sheet-found (λ x. T (in_sheet x) × (0 < distance n e)) cs e.from e.to x
    (all-by (λ (c : NetCell). T (in_sheet c.sheet) × Cornered n c) (λ (c : NetCell). is_side c e.from e.to ≡ true → T (in_sheet c.sheet) × (0 < distance n e)) cs
    (λ c a t. (a.0, side-distance n c e a.1 t))
    (all_both (λ (c : NetCell). T (in_sheet c.sheet)) (Cornered n) cs (sheets-patches (λ x. T (in_sheet x)) [] qs s) cornered)) o in
    let q = k.1 in
    let face-small = face-low widest n low cs e in
    let distance-small = distance-low widest n low e in
    weight-positive x (face n cs e) (distance n e) k.0 f (omega arith) q distance-small))
    (edges-each Positive [] qs (sides-pieces (λ x. T (in_sheet x)) Positive (Sized widest) sides-positive qs s z)))
