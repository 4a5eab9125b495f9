-- Laws of the numbers of a slot. Assumes nothing.
use Rattle.std.proofs.Common.{ℕ, ◌≤◌, ◌≡◌, refl, true, arith, ℤ, pos, negsuc, nat_abs}
use Rattle.std.specs.Int.{int_max}
use Rattle.std.proofs.lemmas.Bool.Decides.{Decides-int_eq}
use Rattle.table.specs.Slots.{counted, kept, same_z}

pub counted-kept : (n : ℕ) → n ≤ 9223372036854775807 → counted (kept n) ≡ n
unfolding counted kept
counted-kept n h = omega arith

-- what `number_at` reads
pub counted_max : (z : ℤ) → nat_abs (int_max z (pos 0)) ≡ counted z
unfolding counted
counted_max (pos n) = grind arith
counted_max (negsuc n) = refl

-- ---- the test of two numbers

pub same_true : (a b : ℤ) → same_z a b ≡ true → a ≡ b
unfolding same_z
same_true a b = (Decides-int_eq a b).0

pub true_same : (a b : ℤ) → a ≡ b → same_z a b ≡ true
unfolding same_z
true_same a b = (Decides-int_eq a b).1
