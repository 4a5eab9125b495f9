-- The move by 2^36 keeps "less" and "equal" of coordinates in range. Assumes nothing.
use lib.Signed.{lt_z}
use Rattle.std.proofs.Common.{◌≡◌, true, ltb, pos, negsuc, ℤ, arith}
use Rattle.cell.specs.Ticks.{in_range, off}

pub moved-less : (x y : ℤ) → in_range x ≡ true → in_range y ≡ true → ltb (off x) (off y) ≡ lt_z x y
unfolding in_range off
moved-less (pos m) (pos n) a b = grind arith
moved-less (pos m) (negsuc n) a b = grind arith
moved-less (negsuc m) (pos n) a b = grind arith
moved-less (negsuc m) (negsuc n) a b = grind arith

pub moved_same : (x y : ℤ) → in_range x ≡ true → in_range y ≡ true → off x ≡ off y → x ≡ y
unfolding in_range off
moved_same (pos m) (pos n) a b e = grind arith
moved_same (pos m) (negsuc n) a b e = grind arith
moved_same (negsuc m) (pos n) a b e = grind arith
moved_same (negsuc m) (negsuc n) a b e = grind arith
