-- What the links of a via carry together: as exact fractions, the via's conductance, but for what rounding takes. Assumes nothing.
use Rattle.std.proofs.Common.{◌≡◌, refl, sym, ap, ap₂, ◌∙◌, subst, inl, inr, T, false, ℕ, suc, ◌+◌, ◌-◌, ◌*◌, ◌/◌, ◌%◌, ◌^◌, ◌<◌, ◌≤◌, arith, Float, le_trans, le_of_eq, List, [], ◌∷◌, map, length, length-append}
use Rattle.std.specs.Int.{abs_diff}
use Prim.Native.Nat.{compare}
use native.Mathlib.Nat.{lt_of_le_of_lt, zero-mul, suc-mul, mul-one, one-mul, pow-suc, mul-add, add-mul, mul-sub, mul_comm, mul_assoc, mul_left_comm, mul_right_comm, mul-le-mul, mul-le-mul_left, mul-le-mul_right, mul-pos, le_of_mul-le-mul_left, eq_of_mul-eq-mul_right, eq-or-lt_of_le, div-div-eq-div-mul}
use Rattle.std.proofs.lemmas.Bool.{cases_lt}
use Rattle.std.proofs.lemmas.List.{length-map}
use Rattle.std.proofs.lemmas.Float.{T_from_true}
use lib.Dec.{lit≤}
use lib.Pow.{pow-add, pow_pos, pow_mono, pow-lt}
use lib.Ieee.{binary64, prec, low, size, round, div, of_bits}
use lib.Ieee.Digits.{back}
use lib.Ieee.Exact.{HasValue, round_exact}
use lib.Ieee.Fits.{nearest-le, kept-lt}
use lib.Ieee.Order.{drop, kept}
use lib.Ieee.Positive.{positive, num, den, den_pos, own_value, value_pos, positive_of_value, value→cross, values_of_le, positive-finite}
use lib.Ieee.Scale.{grid, overflow, finite, round_same, round_val, round_under, normal_of_fraction}
use Rattle.floats.specs.Fractions.{◌÷◌, float, sheet_high}
use Rattle.floats.proofs.Ranges.{div_is}
use Rattle.floats.proofs.Bounds.{float_value, sheet-positive}
use Rattle.net.specs.Net.{One, Edge}
use Rattle.net.proofs.All.{All, all-each, all_map, all-at}
use Rattle.links.specs.declared.link.Link.TheVariants as Link
use Rattle.links.specs.Judged.{in_resistance}
use Rattle.links.specs.Made.{conductance_of, edge, side_of, pairs, via_links}
use Rattle.links.specs.Laws.{most_pairs, ViaLinksAreAlike, PowersOfTwoShareAll, LinksShareNearly}
use Rattle.links.proofs.Conducting.{bounds, whole-in, whole-positive, share-positive}
use Rattle.links.proofs.Rounding.{Near, rounded-near}

-- ---- the links of a via

pairs-count : (g : Float) (bottom top : List ℕ) → length (pairs g bottom top) ≡ length bottom * length top
unfolding pairs
pairs-count g [] top = sym (zero-mul (length top))
pairs-count g (a ∷ bottom) top =
    omega (arith, length-append (map (edge g a) top) (pairs g bottom top), length-map top (edge g a), pairs-count g bottom top, suc-mul (length bottom) (length top))

pairs-alike : (g : Float) (bottom top : List ℕ) → All (λ (e : Edge). e.conductance ≡ g) (pairs g bottom top)
unfolding pairs
pairs-alike g bottom top =
    let A : Edge → Type 0 = λ e. e.conductance ≡ g in
    all-each A (λ a. map (edge g a) top) bottom (λ a. all_map A (edge g a) top (λ b. refl))

pub links-alike : ViaLinksAreAlike
unfolding via_links
links-alike nodes v k d h =
    let bottom = side_of nodes v v.bottom in
    let top = side_of nodes v v.top in
    let g = conductance_of (Link.Via v.resistance) (length bottom * length top) in
    all-at (λ (e : Edge). e.conductance ≡ g) d (pairs g bottom top) k (pairs-alike g bottom top) h
    ∙ ap (conductance_of (Link.Via v.resistance)) (sym (pairs-count g bottom top))

-- ---- values as fractions

-- two fractions that one value equals
same-value : (x : Float) (a c b d : ℕ) → HasValue x false a c → HasValue x false b d → a * d ≡ b * c
same-value x a c b d h k =
    eq_of_mul-eq-mul_right (den x) (den_pos x) (a * d) (b * c)
    (mul_right_comm a d (den x) ∙ ap (λ (z : ℕ). z * d) (sym (value→cross x a c h)) ∙ mul_right_comm (num x) c d ∙ ap (λ (z : ℕ). z * c) (value→cross x b d k) ∙ mul_right_comm b (den x) c)

num_pos : (x : Float) → T (positive x) → 0 < num x
num_pos x p = value_pos x (num x) (den x) p (den_pos x) (own_value x p)

-- the format's digits and their unit
kept-few : (p n den : ℕ) → kept p n den ≤ 2 ^ p
kept-few p n den =
    let u = den * 2 ^ drop p n den in
    le_trans (nearest-le (n / u) (compare (n % u * 2) u)) (subst (λ (x : ℕ). x < 2 ^ p) (div-div-eq-div-mul n den (2 ^ drop p n den)) (kept-lt p (n / den)))

-- ---- 1/R, which is p / q once it is rounded

least-value : HasValue (One ÷ sheet_high) false 1 (2 ^ 40)
unfolding of_bits round div
least-value = (refl, refl)

module _ (r : Float) (t : T (in_resistance r)) where
  abbrev whole : Float
  whole = One ÷ r

  -- it is no less than 1 / 2 ^ 40
  at-least : (p q : ℕ) → HasValue whole false p q → 1 * q ≤ p * 2 ^ 40
  at-least p q v = values_of_le (One ÷ sheet_high) whole 1 (2 ^ 40) p q bounds.least_whole (whole-positive r t) least-value v (whole-in r t).from

  module _ (p q : ℕ) (Q : 0 < q) (v : HasValue whole false p q) (k : ℕ) (K : 0 < k) (few : k ≤ most_pairs) where
    B : 0 < k * q
    B = mul-pos K Q

    k-value : HasValue (float k) false k 1
    k-value = float_value k (le_trans few (lit≤ tt))

    shared : whole ÷ float k ≡ round binary64 false p (k * q)
    shared =
        let x = whole in
        let y = float k in
        let y-positive = positive_of_value y k 1 k-value K in
        div_is binary64 x y (whole-positive r t) y-positive
        ∙ round_same binary64 false (num x * den y) (num y * den x) p (k * q) (mul-pos (num_pos y y-positive) (den_pos x)) B
        (first (num x) (den y) k q ∙ ap₂ (λ (u w : ℕ). u * w) (value→cross x p q v) (sym (value→cross y k 1 k-value)) ∙ last p (den x) (num y))
      where
        first : (a d k q : ℕ) → a * d * (k * q) ≡ a * q * (k * d)
        first a d k q = simp (mul_assoc, mul_comm, mul_left_comm)

        last : (p d n : ℕ) → p * d * (n * 1) ≡ p * (n * d)
        last p d n = simp (mul-one, mul_assoc, mul_comm)

    -- in the normal range
    normal : prec binary64 ≤ size (p * 2 ^ low binary64 / (k * q))
    normal =
        let a : k * q ≤ most_pairs * (p * 2 ^ 40) = mul-le-mul few (le_trans (le_of_eq (omega arith)) (at-least p q v)) in
        normal_of_fraction binary64 p (k * q) B
        (le_trans (mul-le-mul_left (2 ^ 52) a) (le_trans (le_of_eq (out (2 ^ 52) most_pairs p (2 ^ 40))) (mul-le-mul_left p (lit≤ tt))))
      where
        out : (a b p c : ℕ) → a * (b * (p * c)) ≡ p * (a * b * c)
        out a b p c = simp (mul_assoc, mul_left_comm)

    value : HasValue (whole ÷ float k) false (grid binary64 p (k * q)) (2 ^ low binary64)
    value =
        let end : T (finite (round binary64 false p (k * q))) = subst (λ (z : Float). T (finite z)) shared (positive-finite (whole ÷ float k) (share-positive r k t K few)) in
        subst (λ (z : Float). HasValue z false (grid binary64 p (k * q)) (2 ^ low binary64)) (sym shared) (round_val binary64 p (k * q) (round_under binary64 p (k * q) end))

-- ---- any number of links

-- what holds of G / l, which is a / c, and of p, times so much
spread : (J I L G a c p k q : ℕ) → 0 < L → a * L ≡ G * c → Near (2 * J * (G * (k * q))) (2 * J * (p * L)) (I * L * (k * q)) → Near (2 * J * (k * a * q)) (2 * J * (p * c)) (k * I * (q * c))
spread J I L G a c p k q P e n =
    let x : L * (2 * J * (k * a * q)) ≡ 2 * J * (G * (k * q)) * c = first L J k a q ∙ ap (λ (z : ℕ). z * (2 * J * k * q)) e ∙ second G c J k q in
    let y : L * (2 * J * (p * c)) ≡ 2 * J * (p * L) * c = simp (mul_assoc, mul_comm, mul_left_comm) in
    let z : L * (k * I * (q * c)) ≡ I * L * (k * q) * c = simp (mul_assoc, mul_comm, mul_left_comm) in
    let a1 : 2 * J * (G * (k * q)) * c ≤ (2 * J * (p * L) + I * L * (k * q)) * c = mul-le-mul_right c n.above in
    let b1 : 2 * J * (p * L) * c ≤ (2 * J * (G * (k * q)) + I * L * (k * q)) * c = mul-le-mul_right c n.below in
    let a2 = add-mul (2 * J * (p * L)) (I * L * (k * q)) c in
    let b2 = add-mul (2 * J * (G * (k * q))) (I * L * (k * q)) c in
    let a3 = mul-add L (2 * J * (p * c)) (k * I * (q * c)) in
    let b3 = mul-add L (2 * J * (k * a * q)) (k * I * (q * c)) in
    let above : L * (2 * J * (k * a * q)) ≤ L * (2 * J * (p * c) + k * I * (q * c)) = omega arith in
    let below : L * (2 * J * (p * c)) ≤ L * (2 * J * (k * a * q) + k * I * (q * c)) = omega arith in
    record { above = le_of_mul-le-mul_left above P; below = le_of_mul-le-mul_left below P }
  where
    first : (L J k a q : ℕ) → L * (2 * J * (k * a * q)) ≡ a * L * (2 * J * k * q)
    first L J k a q = simp (mul_assoc, mul_comm, mul_left_comm)

    second : (G c J k q : ℕ) → G * c * (2 * J * k * q) ≡ 2 * J * (G * (k * q)) * c
    second G c J k q = simp (mul_assoc, mul_comm, mul_left_comm)

apart : (m x y z : ℕ) → Near (m * x) (m * y) z → m * abs_diff x y ≤ z
apart m x y z n =
    let a = mul-add m (x - y) (y - x) in
    let b = mul-sub m x y in
    let c = mul-sub m y x in
    let d = n.above in
    let e = n.below in
    omega arith

pub links-share : LinksShareNearly
unfolding conductance_of
links-share r k p q a c i j range K few Q C v w unit =
    let t = T_from_true (in_resistance r) range in
    let L = 2 ^ low binary64 in
    let G = grid binary64 p (k * q) in
    apart (2 * 2 ^ j) (k * a * q) (p * c) (k * 2 ^ i * (q * c))
    (spread (2 ^ j) (2 ^ i) L G a c p k q (pow_pos (low binary64)) (same-value (One ÷ r ÷ float k) a c G L w (value r t p q Q v k K few))
    (rounded-near binary64 p (k * q) i j (B r t p q Q v k K few) (normal r t p q Q v k K few) unit))

-- ---- a power of two

-- a number of so many digits, or the next power of two: as one of fewer than 2 ^ p, in other units
record Digits (p n d : ℕ) : Type 0 where
  front : ℕ
  places : ℕ
  few : front < 2 ^ p
  same : front * 2 ^ places ≡ n * 2 ^ d

shift : (a b : ℕ) → a * (b * 2) ≡ a * 2 * b
shift a b = simp (mul_assoc, mul_comm, mul_left_comm)

digits : (p n d : ℕ) → n ≤ 2 ^ suc p → Digits (suc p) n d
digits p n d h =
    elim (eq-or-lt_of_le h) [
      | inl e ↦
          record {
            front = 2 ^ p;
            places = suc d;
            few = pow-lt (omega arith);
            same = ap (λ (z : ℕ). 2 ^ p * z) (pow-suc 2 d) ∙ shift (2 ^ p) (2 ^ d) ∙ ap (λ (z : ℕ). z * 2 ^ d) (sym (pow-suc 2 p) ∙ sym e);
          }
      | inr l ↦ record { front = n; places = d; few = l; same = refl }
    ]

-- so small a power of two leaves digits over
over : (m d n l : ℕ) → 2 ^ m ≤ 2 ^ 32 → n ≤ 2 ^ 53 → 2 ^ l ≤ n * 2 ^ d * 2 ^ 40 → 125 ≤ l → m ≤ d
over m d n l h k g i =
    elim (cases_lt d m) [
      | inl x ↦
          (let a : 2 ^ d < 2 ^ m = pow-lt x in
          let b : n * 2 ^ d ≤ 2 ^ 53 * 2 ^ d = mul-le-mul_right (2 ^ d) k in
          let c : n * 2 ^ d * 2 ^ 40 ≤ 2 ^ 53 * 2 ^ d * 2 ^ 40 = mul-le-mul_right (2 ^ 40) b in
          let e : 2 ^ 125 ≤ 2 ^ l = pow_mono i in
          absurd (omega arith))
      | inr y ↦ y
    ]

pub powers-share : PowersOfTwoShareAll
unfolding conductance_of
powers-share r m p q range few Q v =
    let t = T_from_true (in_resistance r) range in
    let f = binary64 in
    let x = One ÷ r in
    let a = num One * den r in
    let b = num r * den One in
    let made : x ≡ round f false a b = div_is f One r bounds.one (sheet-positive r t) in
    let end : T (finite (round f false a b)) = subst (λ (z : Float). T (finite z)) made (positive-finite x (whole-positive r t)) in
    let n = kept (prec f) (a * 2 ^ low f) b in
    let d = drop (prec f) (a * 2 ^ low f) b in
    let under : n * 2 ^ d < overflow f = round_under f a b end in
    let itself : HasValue x false (n * 2 ^ d) (2 ^ low f) = subst (λ (z : Float). HasValue z false (n * 2 ^ d) (2 ^ low f)) (sym made) (round_val f a b under) in
    let n-few : n ≤ 2 ^ prec f = kept-few (prec f) (a * 2 ^ low f) b in
    let m-few : m ≤ d = over m d n (low f) few n-few (le_trans (le_of_eq (sym (one-mul (2 ^ low f)))) (at-least r t (n * 2 ^ d) (2 ^ low f) itself)) (lit≤ tt) in
    let g = digits 52 n (d - m) n-few in
    let same : p * 2 ^ low f ≡ n * 2 ^ d * q = same-value x p q (n * 2 ^ d) (2 ^ low f) v itself in
    let split : n * 2 ^ (d - m) * (2 ^ m * q) ≡ n * 2 ^ d * q = regroup n (2 ^ (d - m)) (2 ^ m) q ∙ ap (λ (z : ℕ). n * z * q) (sym (pow-add 2 (d - m) m) ∙ ap (λ (z : ℕ). 2 ^ z) (back d m m-few)) in
    subst (λ (z : Float). HasValue z false p (2 ^ m * q)) (sym (shared r t p q Q v (2 ^ m) (pow_pos m) few))
    (round_exact f false p (2 ^ m * q) g.front g.places (mul-pos (pow_pos m) Q) g.few
    (lt_of_le_of_lt (le_trans (le_of_eq g.same) (mul-le-mul_left n (pow_mono (less d m)))) under)
    (same ∙ sym split ∙ ap (λ (z : ℕ). z * (2 ^ m * q)) (sym g.same)))
  where
    regroup : (n u w q : ℕ) → n * u * (w * q) ≡ n * (u * w) * q
    regroup n u w q = simp mul_assoc

    less : (d m : ℕ) → d - m ≤ d
    less d m = omega arith
