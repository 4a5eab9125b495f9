-- A caller's coordinates are held 2^36 ticks higher, so that none is below 0: what the move keeps. Definitions only.
use Rattle.std.specs.Int.Signed.{lt_z}
use Rattle.std.specs.Prelude.{◌≡◌, nat_lt, true, ℤ}
use Rattle.cell.specs.Ticks.{in_range, off}

abbrev pub MoveKeepsLess : Type 0
MoveKeepsLess = (x y : ℤ) → in_range x ≡ true → in_range y ≡ true → nat_lt (off x) (off y) ≡ lt_z x y

abbrev pub MoveKeepsEqual : Type 0
MoveKeepsEqual = (x y : ℤ) → in_range x ≡ true → in_range y ≡ true → off x ≡ off y → x ≡ y
