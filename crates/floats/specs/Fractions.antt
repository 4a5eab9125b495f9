-- Fractions in binary64: the operations, each rounded once, and the rules' ranges of a resistance and a potential.
use Rattle.std.specs.Prelude.{ℕ, Bool, false, not, ◌&&◌, pos, Float}
use Rattle.std.specs.Float.Ieee as Ieee
use Rattle.std.specs.Float.{nan, inf, fin, binary64}
use Rattle.std.specs.Float.Ieee.{is_nan}
pub use Rattle.refusals.specs.Limits.{sheet_low, sheet_high, peak}

-- product, quotient, sum and difference, each rounded once
abbrev pub ◌·◌ : Float → Float → Float
x · y = Ieee.mul binary64 x y

abbrev pub ◌÷◌ : Float → Float → Float
x ÷ y = Ieee.div binary64 x y

abbrev pub ◌⊕◌ : Float → Float → Float
x ⊕ y = Ieee.add binary64 x y

abbrev pub ◌⊖◌ : Float → Float → Float
x ⊖ y = Ieee.sub binary64 x y

infixl 7 ◌·◌
infixl 7 ◌÷◌
infixl 6 ◌⊕◌
infixl 6 ◌⊖◌
-- a whole number; exact up to 2^53
abbrev pub float : ℕ → Float
float n = Ieee.of_int binary64 (pos n)

-- r_sheet in the rules' range. A NaN compares with nothing, so it is out of range
unfoldable pub in_sheet : Float → Bool
in_sheet r = Ieee.le sheet_low r && Ieee.le r sheet_high

-- a potential in the rules' range: finite, and of a magnitude of at most `peak`
unfoldable pub in_potential : Float → Bool
in_potential u = Ieee.le (Ieee.neg peak) u && Ieee.le u peak

-- no NaN
abbrev pub no_nan : Float → Bool
no_nan x = not (is_nan x)

-- no NaN and no minus sign, not even that of -0
abbrev pub nonneg : Float → Bool
nonneg nan = false
nonneg (inf s) = not s
nonneg (fin s m e) = not s
