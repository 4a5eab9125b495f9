-- Laws of coordinates: what the code's steps ask, and that the offset and the way back undo one another. Assumes nothing.
use Rattle.std.proofs.Common.{ℕ, suc, ◌+◌, ◌-◌, min, ◌<◌, ◌≤◌, ◌≡◌, refl, ap, sym, subst, Bool, true, false, ◌⊎◌, inl, inr, ⊎_elim, arith, ℤ, pos, negsuc, ◌+ℤ◌, ◌-ℤ◌, T, ltb, lt-ltb, le-ltb, ltb-true, ltb-false, leb-true, leb-false, w64, SFits}
use lib.IntN.{sub_ℕ}
use lib.Signed.{le_z, lt_z}
use Rattle.refusals.specs.Limits.{coordinate}
use Rattle.cell.specs.Ticks.{in_range, off, on}

pub below? : (a b : ℕ) → (a < b) ⊎ (b ≤ a)
below? a b = by (ltb a b) refl
  where
    by : (t : Bool) → ltb a b ≡ t → (a < b) ⊎ (b ≤ a)
    by true e = inl (ltb-true a b e)
    by false e = inr (ltb-false a b e)

sub_low : (a b : ℕ) → b ≤ a → sub_ℕ a b ≡ pos (a - b)
sub_low a b h = simp (le-ltb a b h)

sub-high : (a b : ℕ) → a < b → sub_ℕ a b ≡ negsuc (b - suc a)
sub-high a b h = simp (lt-ltb a b h)

pub off-le : (z : ℤ) → off z ≤ coordinate + coordinate
unfolding off
off-le (pos n) = omega arith
off-le (negsuc n) = omega arith

-- `on` by its two cases
on-cases : (P : ℤ → Type 0) (n : ℕ) → (n < coordinate → P (negsuc (coordinate - suc n))) → (coordinate ≤ n → P (pos (min n (coordinate + coordinate) - coordinate))) → P (on n)
unfolding on
on-cases P n f g =
    ⊎_elim
    (λ (w : n < coordinate).
    let e : min n (coordinate + coordinate) ≡ n = omega arith in
    rw (e, sub-high n coordinate w) (f w))
    (λ (w : coordinate ≤ n).
    let h : coordinate ≤ min n (coordinate + coordinate) = omega arith in
    rw (sub_low (min n (coordinate + coordinate)) coordinate h) (g w))
    (below? n coordinate)

pub off-on : (n : ℕ) → n ≤ coordinate + coordinate → off (on n) ≡ n
unfolding off
off-on n h = on-cases (λ z. off z ≡ n) n (λ w. omega arith) (λ w. omega arith)

-- the three answers of `offset`
pub off-low : (z : ℤ) → le_z z (negsuc (coordinate - 1)) ≡ true → off z ≡ 0
unfolding off
off-low (pos n) e = absurd (subst T (sym e) tt)
off-low (negsuc n) e = omega (arith, leb-true (coordinate - 1) n e)

pub off-high : (z : ℤ) → le_z (pos coordinate) z ≡ true → off z ≡ coordinate + coordinate
unfolding off
off-high (pos n) e = omega (arith, leb-true coordinate n e)
off-high (negsuc n) e = absurd (subst T (sym e) tt)

pub shifted : (z : ℤ) → le_z z (negsuc (coordinate - 1)) ≡ false → le_z (pos coordinate) z ≡ false → z +ℤ pos coordinate ≡ pos (off z)
unfolding off
shifted (pos n) d e = ap pos (omega (arith, leb-false coordinate n e))
shifted (negsuc n) d e = let h : n < coordinate - 1 = leb-false (coordinate - 1) n d in rw (sub_low coordinate (suc n) (omega arith))

pub off-fits : (z : ℤ) → SFits w64 (pos (off z))
off-fits z = record { sfits = omega (arith, off-le z) }

-- the two answers of `ticks`
pub on-is : (n : ℕ) → n ≤ coordinate + coordinate → pos n -ℤ pos coordinate ≡ on n
unfolding on
on-is n h = let e : min n (coordinate + coordinate) ≡ n = omega arith in rw e refl

pub on-top : (n : ℕ) → coordinate + coordinate < n → on n ≡ pos coordinate
unfolding on
on-top n h = let e : min n (coordinate + coordinate) ≡ coordinate + coordinate = omega arith in rw e refl

pub on_fits : (n : ℕ) → SFits w64 (on n)
on_fits n = on-cases (SFits w64) n (λ w. record { sfits = omega arith }) (λ w. record { sfits = omega arith })

-- in range the offset keeps the order
pub off-rises : (z w : ℤ) → in_range z ≡ true → in_range w ≡ true → lt_z z w ≡ true → off z < off w
unfolding in_range off
off-rises (pos n) (pos m) i j h = grind arith
off-rises (pos n) (negsuc m) i j h = grind arith
off-rises (negsuc n) (pos m) i j h = grind arith
off-rises (negsuc n) (negsuc m) i j h = grind arith
