-- The bits of an r_sheet in range are no NaN's.
use Rattle.std.proofs.Common.{ℕ, ◌≤◌, ◌%◌, ◌/◌, ◌≡◌, not, arith, ne_eqb, T}
use lib.Ieee.{binary64, nan_bits}
use Rattle.refusals.specs.Limits.{sheet_high_bits}

low-exponent : (b : ℕ) → b ≤ sheet_high_bits → b % 9223372036854775808 / 4503599627370496 ≡ 2047 → ⊥
low-exponent b h e = omega arith

pub no_nan : (b : ℕ) → b ≤ sheet_high_bits → T (not (nan_bits binary64 b))
unfolding nan_bits
no_nan b h = rw (ne_eqb (b % 9223372036854775808 / 4503599627370496) 2047 (low-exponent b h)) tt
