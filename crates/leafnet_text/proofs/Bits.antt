-- The bits of a NaN. Assumes nothing.
use lib.Ieee.{Float, nan, inf, fin, binary64, to_bits, is_nan}
use mathlib.Core.Bool.{false≢true}
use Rattle.std.proofs.Common.{◌≡◌, refl, true}

pub nan_bits : (x : Float) → is_nan x ≡ true → 0x7ff8_0000_0000_0000 ≡ to_bits binary64 x
unfolding is_nan to_bits
nan_bits nan h = refl
nan_bits (inf s) h = absurd (false≢true h)
nan_bits (fin s m e) h = absurd (false≢true h)
