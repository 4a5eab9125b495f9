-- The bits of positive binary64 numbers rise with the numbers: what a record takes for a sheet resistance is in the range that build asks. Assumes nothing.
use Rattle.std.proofs.Common.{◌≡◌, refl, sym, subst, ℕ, suc, ◌+◌, ◌*◌, ◌-◌, ◌/◌, ◌%◌, ◌^◌, ◌<◌, ◌≤◌, inl, inr, arith, false, cond, eqb, ne_eqb, T, mul-le-mul, mod-lt, mod-eq_of_lt}
use lib.Ieee.{inf, nan, binary64, odd, of_fields, of_bits, round}
use lib.Ieee.Exact.{HasValue, odd_sign}
use lib.Ieee.Fits.{and_i}
use lib.Ieee.Order.{le_of_values}
use lib.Pow.{pow_pos, pow_mono}
use Rattle.std.proofs.lemmas.Bool.{cases_lt, lt-leb}
use Rattle.refusals.specs.Limits.{sheet_low_bits, sheet_high_bits}
use Rattle.floats.specs.Fractions.{sheet_low, sheet_high, in_sheet}

low_value : HasValue sheet_low false 1 (2 ^ 40)
unfolding round
low_value = (refl, refl)

high_value : HasValue sheet_high false (2 ^ 40) 1
unfolding round
high_value = (refl, refl)

-- the number of the digits 2^52 + t at the exponent y: its bits are the exponent's field, suc y, and t
module _ (y t : ℕ) (digits : t < 2 ^ 52) (from : sheet_low_bits ≤ suc y * 2 ^ 52 + t) (to : suc y * 2 ^ 52 + t ≤ sheet_high_bits) where
  abbrev units : ℕ
  units = (2 ^ 52 + t) * 2 ^ y

  many : 2 ^ 52 * 2 ^ 982 ≤ units
  many = let h : 2 ^ 52 ≤ 2 ^ 52 + t = omega arith in let k : 982 ≤ y = omega arith in mul-le-mul h (pow_mono k)

  few : units ≤ 2 ^ 1114
  few =
      elim (cases_lt y 1062) [
        | inl l ↦ let h : 2 ^ 52 + t ≤ 2 ^ 53 = omega arith in let k : y ≤ 1061 = omega arith in let m : units ≤ 2 ^ 53 * 2 ^ 1061 = mul-le-mul h (pow_mono k) in omega (arith, m)
        | inr l ↦ let h : y ≡ 1062 = omega arith in let k : t ≡ 0 = omega arith in rw (h, k) (omega arith)
      ]

  by_fields : T (in_sheet (of_fields binary64 false (suc y) t))
  unfolding of_fields in_sheet
  by_fields =
      let x = odd 53 false (2 ^ 52 + t) y 1074 in
      let v : HasValue x false units (2 ^ 1074) = odd_sign 53 false (2 ^ 52 + t) y 1074 in
      subst (λ b. T (in_sheet (cond b (cond (eqb t 0) (inf false) nan) x))) (sym (ne_eqb (suc y) 2047 (λ e. omega arith)))
      (and_i _ _ (le_of_values sheet_low x 1 (2 ^ 40) units (2 ^ 1074) (pow_pos 40) (pow_pos 1074) low_value v (omega (arith, many)))
      (le_of_values x sheet_high units (2 ^ 1074) (2 ^ 40) 1 (pow_pos 1074) (omega arith) v high_value (omega (arith, few))))

pub bits-in_sheet : (b : ℕ) → sheet_low_bits ≤ b → b ≤ sheet_high_bits → T (in_sheet (of_bits binary64 b))
unfolding of_bits
bits-in_sheet b from to =
    let small : b < 2 ^ 63 = omega arith in
    let field : b / 2 ^ 52 ≡ suc (b / 2 ^ 52 - 1) = omega arith in
    rw (lt-leb (2 ^ 63) b (omega arith), mod-eq_of_lt small, field) (by_fields (b / 2 ^ 52 - 1) (b % 2 ^ 52) (mod-lt b (pow_pos 52)) (omega arith) (omega arith))
