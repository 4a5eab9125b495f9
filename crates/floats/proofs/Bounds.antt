-- What the rules' ranges say of a number. Assumes nothing.
use lib.Ieee.{Float}
use Rattle.std.proofs.Common.{subst, ℕ, ◌*◌, ◌^◌, ◌≤◌, ◌<◌, mul-one, true, false, T}
use lib.Ieee as Ieee
use lib.Ieee.{nan, inf, fin, binary64, up, down, le, of_int, in_float, round}
use lib.Ieee.Fits.{and_l, and_r}
use lib.Ieee.Back.{round_whole}
use lib.Ieee.Exact.{HasValue}
use lib.Ieee.Positive.{positive, positive_of_value}
use Rattle.floats.specs.Fractions.{float, sheet_low, sheet_high, peak, in_sheet, in_potential}
use Rattle.floats.proofs.Ranges.{In, in-positive}
use Rattle.floats.proofs.Sizes.{within, lt-or-eq, gt-or-eq}

pub float_value : (n : ℕ) → n ≤ 2 ^ 53 → HasValue (float n) false n 1
unfolding of_int
float_value n h = round_whole binary64 false n h

pub float-positive : (n : ℕ) → 0 < n → n ≤ 2 ^ 53 → T (positive (float n))
float-positive n p h = positive_of_value (float n) n 1 (float_value n h) p

-- a sheet resistance in range lies between two positive numbers
pub sheet-in : (r : Float) → T (in_sheet r) → In sheet_low sheet_high r
unfolding in_sheet
sheet-in r t = record { from = and_l (le sheet_low r) (le r sheet_high) t; to = and_r (le sheet_low r) (le r sheet_high) t }

pub low-positive : T (positive sheet_low)
unfolding round
low-positive = tt

pub high-positive : T (positive sheet_high)
unfolding round
high-positive = tt

pub sheet-positive : (r : Float) → T (in_sheet r) → T (positive r)
sheet-positive r t = in-positive low-positive high-positive (sheet-in r t)

-- a potential in range is finite, and at most 2^20 either way
pub potential-within : (u : Float) → T (in_potential u) → within 20 u
unfolding in_potential le round Ieee.neg
potential-within nan t = absurd t
potential-within (inf true) t = absurd t
potential-within (inf false) t = absurd t
potential-within (fin false m e) t =
    subst (λ (z : ℕ). z ≤ 2 ^ 20 * down e) (mul-one (m * up e)) (lt-or-eq (m * up e * 1) (2 ^ 20 * down e) (and_r (le (Ieee.neg peak) (fin false m e)) (le (fin false m e) peak) t))
potential-within (fin true m e) t =
    subst (λ (z : ℕ). z ≤ 2 ^ 20 * down e) (mul-one (m * up e)) (gt-or-eq (2 ^ 20 * down e) (m * up e * 1) (and_l (le (Ieee.neg peak) (fin true m e)) (le (fin true m e) peak) t))
