-- Where a result is no NaN, and where it has no minus sign either: laws of the operations. Assumes nothing.
use lib.Ieee.{Float, sum, is_nan}
use Rattle.std.proofs.Common.{◌≡◌, sym, subst, ℕ, zero, suc, ◌+◌, ◌*◌, ◌^◌, ◌<◌, arith, Bool, true, false, not, cond, T, ltb, eqb, eqb→eq, ltb→lt}
use lib.Dec.{not_T}
use lib.Ieee.{nan, inf, fin, Format, prec, emax, low, up, down, unlike, odd, units, round, add, mul, div}
use lib.Ieee.Fits.{round_is}
use lib.Ieee.Bits.{cond_no}
use lib.Ieee.Positive.{positive}
use Rattle.floats.specs.Fractions.{no_nan, nonneg}

-- ---- what `round` gives
odd_no_nan : (d : ℕ) (s : Bool) (q k l : ℕ) → T (no_nan (odd d s q k l))
unfolding odd is_nan
odd_no_nan d s zero k l = tt
odd_no_nan d s (suc q) k l = tt

odd-nonneg : (d q k l : ℕ) → T (nonneg (odd d false q k l))
unfolding odd
odd-nonneg d zero k l = tt
odd-nonneg d (suc q) k l = tt

units-no-nan : (f : Format) (s : Bool) (q k : ℕ) → T (no_nan (units f s q k))
unfolding units is_nan
units-no-nan f s q k = go (ltb (q * 2 ^ k) (2 ^ (low f + suc (emax f))))
  where
    go : (b : Bool) → T (no_nan (cond b (odd (suc (prec f)) s q k (low f)) (inf s)))
    go true = odd_no_nan (suc (prec f)) s q k (low f)
    go false = tt

units-nonneg : (f : Format) (q k : ℕ) → T (nonneg (units f false q k))
unfolding units
units-nonneg f q k = go (ltb (q * 2 ^ k) (2 ^ (low f + suc (emax f))))
  where
    go : (b : Bool) → T (nonneg (cond b (odd (suc (prec f)) false q k (low f)) (inf false)))
    go true = odd-nonneg (suc (prec f)) q k (low f)
    go false = tt

pub round-no-nan : (f : Format) (s : Bool) (a b : ℕ) → T (no_nan (round f s a b))
round-no-nan f s a b = subst (λ (x : Float). T (no_nan x)) (sym (round_is f s a b)) (units-no-nan f s _ _)

pub round-nonneg : (f : Format) (a b : ℕ) → T (nonneg (round f false a b))
round-nonneg f a b = subst (λ (x : Float). T (nonneg x)) (sym (round_is f false a b)) (units-nonneg f _ _)

-- ---- no NaN
above_zero : (n : ℕ) → 0 < n → n ≡ 0 → ⊥
above_zero n h e = omega arith

pub nonzero : (n : ℕ) → T (ltb 0 n) → T (not (eqb n 0))
nonzero n p = not_T (eqb n 0) (λ (u : T (eqb n 0)). above_zero n (ltb→lt 0 n p) (eqb→eq n 0 u))

-- a quotient by a positive number, of anything but a NaN
pub div-no-nan : (f : Format) (x y : Float) → T (no_nan x) → T (positive y) → T (no_nan (div f x y))
unfolding div is_nan
div-no-nan f nan y p q = absurd p
div-no-nan f (inf s) nan p q = absurd q
div-no-nan f (inf s) (inf t) p q = absurd q
div-no-nan f (inf s) (fin t n d) p q = tt
div-no-nan f (fin s m e) nan p q = absurd q
div-no-nan f (fin s m e) (inf t) p q = absurd q
div-no-nan f (fin s m e) (fin true n d) p q = absurd q
div-no-nan f (fin s m e) (fin false n d) p q =
    subst (λ (x : Float). T (no_nan x)) (sym (cond_no (eqb n 0) _ _ (nonzero n q))) (round-no-nan f (unlike s false) (m * up e * down d) (n * up d * down e))

-- ---- no NaN and not negative
pub square-nonneg : (f : Format) (x : Float) → T (no_nan x) → T (nonneg (mul f x x))
unfolding mul is_nan
square-nonneg f nan p = absurd p
square-nonneg f (inf true) p = tt
square-nonneg f (inf false) p = tt
square-nonneg f (fin true m e) p = round-nonneg f (m * up e * (m * up e)) (down e * down e)
square-nonneg f (fin false m e) p = round-nonneg f (m * up e * (m * up e)) (down e * down e)

pub add-nonneg : (f : Format) (x y : Float) → T (nonneg x) → T (nonneg y) → T (nonneg (add f x y))
unfolding add sum
add-nonneg f nan y p q = absurd p
add-nonneg f (inf true) y p q = absurd p
add-nonneg f (inf false) nan p q = absurd q
add-nonneg f (inf false) (inf true) p q = absurd q
add-nonneg f (inf false) (inf false) p q = tt
add-nonneg f (inf false) (fin t n d) p q = tt
add-nonneg f (fin true m e) y p q = absurd p
add-nonneg f (fin false m e) nan p q = absurd q
add-nonneg f (fin false m e) (inf t) p q = q
add-nonneg f (fin false m e) (fin true n d) p q = absurd q
add-nonneg f (fin false m e) (fin false n d) p q = round-nonneg f (m * up e * down d + n * up d * down e) (down e * down d)

pub mul-nonneg : (f : Format) (x y : Float) → T (nonneg x) → T (positive y) → T (nonneg (mul f x y))
unfolding mul
mul-nonneg f nan y p q = absurd p
mul-nonneg f (inf true) y p q = absurd p
mul-nonneg f (inf false) nan p q = absurd q
mul-nonneg f (inf false) (inf t) p q = absurd q
mul-nonneg f (inf false) (fin true n d) p q = absurd q
mul-nonneg f (inf false) (fin false n d) p q = subst (λ (x : Float). T (nonneg x)) (sym (cond_no (eqb n 0) nan (inf false) (nonzero n q))) tt
mul-nonneg f (fin true m e) y p q = absurd p
mul-nonneg f (fin false m e) nan p q = absurd q
mul-nonneg f (fin false m e) (inf t) p q = absurd q
mul-nonneg f (fin false m e) (fin true n d) p q = absurd q
mul-nonneg f (fin false m e) (fin false n d) p q = round-nonneg f (m * up e * (n * up d)) (down e * down d)

pub div-nonneg : (f : Format) (x y : Float) → T (nonneg x) → T (positive y) → T (nonneg (div f x y))
unfolding div
div-nonneg f nan y p q = absurd p
div-nonneg f (inf true) y p q = absurd p
div-nonneg f (inf false) nan p q = absurd q
div-nonneg f (inf false) (inf t) p q = absurd q
div-nonneg f (inf false) (fin true n d) p q = absurd q
div-nonneg f (inf false) (fin false n d) p q = tt
div-nonneg f (fin true m e) y p q = absurd p
div-nonneg f (fin false m e) nan p q = absurd q
div-nonneg f (fin false m e) (inf t) p q = absurd q
div-nonneg f (fin false m e) (fin true n d) p q = absurd q
div-nonneg f (fin false m e) (fin false n d) p q =
    subst (λ (x : Float). T (nonneg x)) (sym (cond_no (eqb n 0) (cond (eqb m 0) nan (inf false)) (round f false (m * up e * down d) (n * up d * down e)) (nonzero n q))) (round-nonneg f (m * up e * down d) (n * up d * down e))
