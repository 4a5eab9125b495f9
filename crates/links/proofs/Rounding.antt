-- How far a rounded fraction is from the fraction, in the normal range: half a unit in its last place at most. Assumes nothing.
use Rattle.std.proofs.Common.{◌≡◌, sym, subst, inl, inr, T, not, ℕ, zero, suc, ◌+◌, ◌-◌, ◌*◌, ◌/◌, ◌%◌, ◌^◌, ◌<◌, ◌≤◌, arith, leb→le, eqb→eq, le_trans, le_of_eq}
use Prim.Native.Nat.{compare, Ordering}
use native.Mathlib.Nat.{zero-lt-suc, lt_of_le_of_lt, suc-mul, add-mul, mul_comm, mul_assoc, mul_left_comm, mul_right_comm, mod-lt, div-add-mod', mul-le-mul_left, mul-le-mul_right, mul-lt-mul_of_pos_right, mul-pos, le-div_iff_mul-le}
use Rattle.std.proofs.lemmas.Bool.{cases_lt}
use lib.Dec.{nleb→lt, is_le, compare_is_eq}
use lib.Pow.{pow-add, pow_pos, pow_mono}
use lib.Ieee.{Format, prec, low, size, nearest}
use lib.Ieee.Digits.{size_reaches}
use lib.Ieee.Fits.{two, two-le_pos}
use lib.Ieee.Nearest.{closest}
use lib.Ieee.Order.{drop}
use lib.Ieee.Scale.{grid}

-- x and y are apart by z at most
pub record Near (x y z : ℕ) : Type 0 where
  pub above : x ≤ y + z
  pub below : y ≤ x + z

-- ---- a quotient rounded to the nearest whole number

-- at a tie to the even one
tie-near : (q d r u : ℕ) → d < 2 → r * 2 ≡ u → Near ((q + d) * u * 2) ((q * u + r) * 2) u
tie-near q zero r u h e = let s : (q + 0) * u ≡ q * u + 0 * u = add-mul q 0 u in record { above = omega arith; below = omega arith }
tie-near q (suc zero) r u h e = let s : (q + 1) * u ≡ q * u + 1 * u = add-mul q 1 u in record { above = omega arith; below = omega arith }
tie-near q (suc (suc d)) r u h e = absurd (omega arith)

-- the quotient q, the remainder r, and which of the two is nearer
nearest-near : (q r u : ℕ) (o : Ordering) → r < u → (T (is_le o) → r * 2 ≤ u) → (T (not (is_le o)) → u < r * 2) → (T (compare_is_eq o) → r * 2 ≡ u)
    → Near (nearest q o * u * 2) ((q * u + r) * 2) u
nearest-near q r u Ordering.lt s a b c = let h : r * 2 ≤ u = a tt in record { above = omega arith; below = omega arith }
nearest-near q r u Ordering.eq s a b c = tie-near q (q % 2) r u (mod-lt q (zero-lt-suc 1)) (c tt)
nearest-near q r u Ordering.gt s a b c =
    let h : u < r * 2 = b tt in
    let e : suc q * u ≡ q * u + u = suc-mul q u in
    record { above = omega arith; below = omega arith }

closest-near : (n u : ℕ) → 0 < u → Near (closest n u * u * 2) (n * 2) u
closest-near n u h =
    let r = n % u in
    subst (λ (z : ℕ). Near (closest n u * u * 2) (z * 2) u) (div-add-mod' n u)
    (nearest-near (n / u) r u (compare (r * 2) u) (mod-lt n h) (leb→le (r * 2) u) (nleb→lt (r * 2) u) (eqb→eq (r * 2) u))

-- ---- a fraction rounded to a format

-- 2 ^ d, the unit of the kept digits, is no larger than 2 ^ i / 2 ^ j
unit-least : (p n b d i j l : ℕ) → 0 < p → 0 < b → 2 ^ (p - 1 + d) * b ≤ n → n * 2 ^ j < 2 ^ p * 2 ^ i * b * 2 ^ l → 2 ^ d * 2 ^ j ≤ 2 ^ i * 2 ^ l
unit-least p n b d i j l P B h k =
    elim (cases_lt (i + l) (d + j)) [
      | inl x ↦
          (let up : 2 ^ (p + (i + l)) * b ≤ 2 ^ (p - 1 + (d + j)) * b = mul-le-mul_right b (pow_mono (omega arith)) in
          let low : 2 ^ p * 2 ^ i * b * 2 ^ l ≡ 2 ^ (p + (i + l)) * b = simp (pow-add, mul_assoc, mul_comm, mul_left_comm) in
          let high : 2 ^ (p - 1 + (d + j)) * b ≡ 2 ^ (p - 1 + d) * b * 2 ^ j = simp (pow-add, mul_assoc, mul_comm, mul_left_comm) in
          let g : 2 ^ (p - 1 + d) * b * 2 ^ j ≤ n * 2 ^ j = mul-le-mul_right (2 ^ j) h in
          absurd (omega arith))
      | inr y ↦ le_trans (le_of_eq (sym (pow-add 2 d j))) (le_trans (pow_mono y) (le_of_eq (pow-add 2 i l)))
    ]

-- twice what was dropped, in other units
lift : (x n u j w : ℕ) → Near (x * 2) (n * 2) u → u * j ≤ w → Near (2 * j * x) (2 * j * n) w
lift x n u j w h k =
    let a : x * 2 * j ≤ (n * 2 + u) * j = mul-le-mul_right j h.above in
    let b : n * 2 * j ≤ (x * 2 + u) * j = mul-le-mul_right j h.below in
    let c : (n * 2 + u) * j ≡ n * 2 * j + u * j = add-mul (n * 2) u j in
    let d : (x * 2 + u) * j ≡ x * 2 * j + u * j = add-mul (x * 2) u j in
    let e : 2 * j * x ≡ x * 2 * j = simp (mul_assoc, mul_comm) in
    let g : 2 * j * n ≡ n * 2 * j = simp (mul_assoc, mul_comm) in
    record { above = omega arith; below = omega arith }

pub rounded-near : (f : Format) (a b i j : ℕ) → 0 < b → prec f ≤ size (a * 2 ^ low f / b) → a * 2 ^ j < 2 ^ prec f * 2 ^ i * b
    → Near (2 * 2 ^ j * (grid f a b * b)) (2 * 2 ^ j * (a * 2 ^ low f)) (2 ^ i * 2 ^ low f * b)
rounded-near f a b i j B full h =
    let n = a * 2 ^ low f in
    let d = drop (prec f) n b in
    let P : 0 < prec f = two-le_pos (prec f) (two f) in
    let k : n * 2 ^ j < 2 ^ prec f * 2 ^ i * b * 2 ^ low f =
    lt_of_le_of_lt (le_of_eq (mul_right_comm a (2 ^ low f) (2 ^ j))) (mul-lt-mul_of_pos_right h (pow_pos (low f))) in
    let reached : 2 ^ (prec f - 1 + d) * b ≤ n = (le-div_iff_mul-le B).0 (size_reaches (n / b) (prec f - 1 + d) (omega arith)) in
    let least = unit-least (prec f) n b d i j (low f) P B reached k in
    lift (grid f a b * b) n (b * 2 ^ d) (2 ^ j) (2 ^ i * 2 ^ low f * b)
    (subst (λ (z : ℕ). Near (z * 2) (n * 2) (b * 2 ^ d)) (others (closest n (b * 2 ^ d)) b (2 ^ d)) (closest-near n (b * 2 ^ d) (mul-pos B (pow_pos d))))
    (le_trans (le_of_eq (mul_assoc b (2 ^ d) (2 ^ j))) (le_trans (mul-le-mul_left b least) (le_of_eq (mul_comm b (2 ^ i * 2 ^ low f)))))
  where
    others : (c b d : ℕ) → c * (b * d) ≡ c * d * b
    others c b d = simp (mul_assoc, mul_comm)
