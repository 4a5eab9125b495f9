-- Finite values of a bounded size, and what sums and differences make of them. Assumes nothing.
use lib.Ieee.{Float, sum, is_nan}
use Rattle.std.proofs.Common.{◌≡◌, sym, ap, ◌∙◌, subst, ℕ, zero, suc, ◌+◌, ◌-◌, ◌*◌, ◌^◌, ◌≤◌, ◌<◌, le_trans, le_of_eq, le_of_lt, mul-one, one-mul, mul_comm, mul_assoc, mul_right_comm, mul-le-mul_right, le_of_mul-le-mul_right, mul-pos, zero-lt-suc, pow-suc, arith, Bool, true, false, ◌&&◌, ◌||◌, cond, true≢false, T, ltb, eqb, eqb→eq, ltb→lt, lit<, pow-add}
use mathlib.Core.Bool.{beq}
use lib.Pow.{pow-lt}
use lib.Ieee.{nan, inf, fin, Format, binary64, prec, emax, low, up, down, odd, units, round, neg, add, sub, le}
use lib.Ieee.Fits.{down_pos, and_l, round_is}
use lib.Ieee.Exact.{HasValue, round_exact}
use lib.Ieee.Order.{round_mono}
use lib.Ieee.Scale.{finite}
use Rattle.floats.specs.Fractions.{no_nan, nonneg}
use Rattle.floats.proofs.Signs.{round-nonneg}

-- ---- bounds either way
abbrev pub within : ℕ → Float → Type 0
within k nan = ⊥
within k (inf s) = ⊥
within k (fin s m e) = m * up e ≤ 2 ^ k * down e

pub within-finite : (k : ℕ) (x : Float) → within k x → T (finite x)
within-finite k nan w = absurd w
within-finite k (inf s) w = absurd w
within-finite k (fin s m e) w = tt

pub finite-no-nan : (x : Float) → T (finite x) → T (no_nan x)
unfolding is_nan
finite-no-nan nan p = absurd p
finite-no-nan (inf s) p = tt
finite-no-nan (fin s m e) p = tt

pow-val : (k : ℕ) → k < 1024 → HasValue (round binary64 false (2 ^ k) 1) false (2 ^ k) 1
pow-val k h = round_exact binary64 false (2 ^ k) 1 1 (k + 1074) (zero-lt-suc 0) (lit< tt) (rw one-mul (pow-lt {i = k + 1074} {j = 2098} (omega arith))) (rw (mul-one, one-mul, pow-add))

pub lt-or-eq : (a b : ℕ) → T (ltb a b || (eqb a b && true)) → a ≤ b
lt-or-eq a b t = go (ltb a b) (ltb→lt a b) t
  where
    go : (x : Bool) → (T x → a < b) → T (x || (eqb a b && true)) → a ≤ b
    go true l u = le_of_lt (l tt)
    go false l u = le_of_eq (eqb→eq a b (and_l (eqb a b) true u))

pub gt-or-eq : (a b : ℕ) → T (ltb b a || (eqb a b && true)) → b ≤ a
gt-or-eq a b t = go (ltb b a) (ltb→lt b a) t
  where
    go : (x : Bool) → (T x → b < a) → T (x || (eqb a b && true)) → b ≤ a
    go true l u = le_of_lt (l tt)
    go false l u = le_of_eq (sym (eqb→eq a b (and_l (eqb a b) true u)))

le-within : (x y : Float) (k : ℕ) → T (nonneg x) → HasValue y false (2 ^ k) 1 → T (le x y) → within k x
unfolding le
le-within nan y k p v h = absurd p
le-within (inf true) y k p v h = absurd p
le-within (inf false) nan k p v h = absurd v
le-within (inf false) (inf t) k p v h = absurd v
le-within (inf false) (fin t n d) k p v h = absurd h
le-within (fin true m e) y k p v h = absurd p
le-within (fin false m e) nan k p v h = absurd v
le-within (fin false m e) (inf t) k p v h = absurd v
le-within (fin false m e) (fin true n d) k p v h = absurd (true≢false v.0)
le-within (fin false m e) (fin false n d) k p v h =
    le_of_mul-le-mul_right
    (le_trans (lt-or-eq (m * up e * down d) (n * up d * down e) h)
    (le_of_eq (ap (λ (z : ℕ). z * down e) (sym (mul-one (n * up d)) ∙ v.1) ∙ mul_right_comm (2 ^ k) (down d) (down e))))
    (down_pos d)

-- the sign does not matter to the size
units-flip : (f : Format) (j q k : ℕ) → within j (units f false q k) → within j (units f true q k)
unfolding units odd
units-flip f j q k = go (ltb (q * 2 ^ k) (2 ^ (low f + suc (emax f))))
  where
    od : (d q : ℕ) → within j (odd d false q k (low f)) → within j (odd d true q k (low f))
    od d zero w = w
    od d (suc q) w = w

    go : (b : Bool) → within j (cond b (odd (suc (prec f)) false q k (low f)) (inf false)) → within j (cond b (odd (suc (prec f)) true q k (low f)) (inf true))
    go true w = od (suc (prec f)) q w
    go false w = w

plus-within : (a b k : ℕ) → 0 < b → k < 1024 → a ≤ 2 ^ k * b → within k (round binary64 false a b)
plus-within a b k B K h = le-within (round binary64 false a b) (round binary64 false (2 ^ k) 1) k (round-nonneg binary64 a b) (pow-val k K) (round_mono binary64 a b (2 ^ k) 1 B (zero-lt-suc 0) (rw mul-one h))

pub round-within : (s : Bool) (a b k : ℕ) → 0 < b → k < 1024 → a ≤ 2 ^ k * b → within k (round binary64 s a b)
round-within false a b k B K h = plus-within a b k B K h
round-within true a b k B K h =
    subst (within k) (sym (round_is binary64 true a b))
    (units-flip binary64 k _ _ (subst (within k) (round_is binary64 false a b) (plus-within a b k B K h)))

sum-within : (s t : Bool) (a b c k : ℕ) → 0 < c → suc k < 1024 → a ≤ 2 ^ k * c → b ≤ 2 ^ k * c → within (suc k) (sum binary64 s a t b c)
unfolding sum
sum-within s t a b c k C K h g = go (beq s t) (ltb a b)
  where
    two : 2 ^ suc k * c ≡ 2 ^ k * c + 2 ^ k * c
    two = rw pow-suc (omega (arith, mul_right_comm (2 ^ k) 2 c))

    go : (x y : Bool) → within (suc k) (cond x (round binary64 s (a + b) c) (cond y (round binary64 t (b - a) c) (round binary64 (s && ltb b a) (a - b) c)))
    go true y = round-within s (a + b) c (suc k) C K (omega (arith, two))
    go false true = round-within t (b - a) c (suc k) C K (omega (arith, two))
    go false false = round-within (s && ltb b a) (a - b) c (suc k) C K (omega (arith, two))

pub add-within : (x y : Float) (k : ℕ) → suc k < 1024 → within k x → within k y → within (suc k) (add binary64 x y)
unfolding add
add-within nan y k K v w = absurd v
add-within (inf s) y k K v w = absurd v
add-within (fin s m e) nan k K v w = absurd w
add-within (fin s m e) (inf t) k K v w = absurd w
add-within (fin s m e) (fin t n d) k K v w =
    sum-within s t (m * up e * down d) (n * up d * down e) (down e * down d) k (mul-pos (down_pos e) (down_pos d)) K
    (le_trans (mul-le-mul_right (down d) v) (le_of_eq (mul_assoc (2 ^ k) (down e) (down d))))
    (le_trans (mul-le-mul_right (down e) w) (le_of_eq (mul_assoc (2 ^ k) (down d) (down e) ∙ ap (λ (z : ℕ). 2 ^ k * z) (mul_comm (down d) (down e)))))

neg-within : (x : Float) (k : ℕ) → within k x → within k (neg x)
unfolding neg
neg-within nan k w = w
neg-within (inf s) k w = w
neg-within (fin s m e) k w = w

pub sub_within : (x y : Float) (k : ℕ) → suc k < 1024 → within k x → within k y → within (suc k) (sub binary64 x y)
unfolding sub
sub_within x y k K v w = add-within x (neg y) k K v (neg-within y k w)
