-- Ranges with positive ends, and what an operation makes of them. Assumes nothing.
use lib.Ieee.{Float, sum}
use Rattle.std.proofs.Common.{◌≡◌, ℕ, ◌*◌, ◌≤◌, ◌<◌, le_trans, le_of_eq, mul_comm, mul_assoc, mul_left_comm, mul-le-mul, mul-le-mul_right, mul-pos, zero-lt-suc, true, false, pos, T, eqb}
use lib.Ieee.{nan, inf, fin, Format, binary64, round, add, mul, div, le, of_int}
use lib.Ieee.Bits.{cond_no}
use lib.Ieee.Order.{round_mono}
use lib.Ieee.Positive.{positive, num, den, den_pos, own_value, value_pos, le→cross, between}
use Rattle.floats.proofs.Signs.{nonzero}

-- ---- ranges of positive values
pub record In (lo hi x : Float) : Type 0 where
  pub from : T (le lo x)
  pub to : T (le x hi)

pub in-positive : {lo hi x : Float} → T (positive lo) → T (positive hi) → In lo hi x → T (positive x)
in-positive {lo} {hi} {x} p q i = between lo x hi p q i.from i.to

num_pos : (x : Float) → T (positive x) → 0 < num x
num_pos x p = value_pos x (num x) (den x) p (den_pos x) (own_value x p)

pub num-in : (n N : ℕ) → 1 ≤ n → n ≤ N → In (of_int binary64 (pos 1)) (of_int binary64 (pos N)) (of_int binary64 (pos n))
unfolding of_int
num-in n N h k = record {
  from = round_mono binary64 1 1 n 1 (zero-lt-suc 0) (zero-lt-suc 0) (mul-le-mul_right 1 h);
  to = round_mono binary64 n 1 N 1 (zero-lt-suc 0) (zero-lt-suc 0) (mul-le-mul_right 1 k);
}

pub mul_in : {lo hi x lo' hi' y : Float} (f : Format) → T (positive lo) → T (positive hi) → T (positive lo') → T (positive hi') → In lo hi x → In lo' hi' y → In (mul f lo lo') (mul f hi hi') (mul f x y)
mul_in {lo} {hi} {x} {lo'} {hi'} {y} f p q p' q' i j =
    let a = in-positive p q i in
    let b = in-positive p' q' j in
    record { from = lib.Ieee.Positive.mul_mono f lo x lo' y p a p' b i.from j.from; to = lib.Ieee.Positive.mul_mono f x hi y hi' a q b q' i.to j.to }

pub div_is : (f : Format) (x y : Float) → T (positive x) → T (positive y) → div f x y ≡ round f false (num x * den y) (num y * den x)
unfolding div
div_is f nan y p q = absurd p
div_is f (inf s) y p q = absurd p
div_is f (fin true m e) y p q = absurd p
div_is f (fin false m e) nan p q = absurd q
div_is f (fin false m e) (inf t) p q = absurd q
div_is f (fin false m e) (fin true n d) p q = absurd q
div_is f (fin false m e) (fin false n d) p q = cond_no (eqb n 0) _ _ (nonzero n q)

-- x / y grows with x and shrinks as y grows
pub div_mono : (f : Format) (x x' y y' : Float) → T (positive x) → T (positive x') → T (positive y) → T (positive y') → T (le x x') → T (le y' y) → T (le (div f x y) (div f x' y'))
div_mono f x x' y y' p p' q q' h k =
    rw (div_is f x y p q, div_is f x' y' p' q')
    (round_mono f (num x * den y) (num y * den x) (num x' * den y') (num y' * den x') (mul-pos (num_pos y q) (den_pos x)) (mul-pos (num_pos y' q') (den_pos x'))
    (le_trans (le_of_eq (eq1 (num x) (den y) (num y') (den x')))
    (le_trans (mul-le-mul (le→cross x x' p p' h) (le→cross y' y q' q k)) (le_of_eq (eq1 (num x') (den x) (num y) (den y'))))))
  where
    eq1 : (a b c d : ℕ) → a * b * (c * d) ≡ a * d * (c * b)
    eq1 a b c d = simp (mul_assoc, mul_comm, mul_left_comm)

pub div-in : {lo hi x lo' hi' y : Float} (f : Format) → T (positive lo) → T (positive hi) → T (positive lo') → T (positive hi') → In lo hi x → In lo' hi' y → In (div f lo hi') (div f hi lo') (div f x y)
div-in {lo} {hi} {x} {lo'} {hi'} {y} f p q p' q' i j =
    let a = in-positive p q i in
    let b = in-positive p' q' j in
    record { from = div_mono f lo x hi' y p a q' b i.from j.to; to = div_mono f x hi y lo' a q b p' i.to j.from }
