-- Coordinates as the caller's signed ticks and as a cell's offset ones; lengths in metres.
use Rattle.std.specs.Prelude.{ℕ, suc, ◌+◌, ◌-◌, ◌^◌, min, Bool, false, ◌&&◌, ℤ, pos, negsuc, neg_ℤ, ◌-ℤ◌, Float}
use Rattle.std.specs.Int.Signed.{le_z}
use Rattle.std.specs.Float.Ieee as Ieee
use Rattle.std.specs.Float.{binary64}
use Rattle.refusals.specs.Limits.{coordinate}

-- the rules' range of a coordinate
unfoldable pub in_range : ℤ → Bool
in_range z = le_z (neg_ℤ (pos coordinate)) z && le_z z (pos coordinate)

-- a coordinate from -2^36 to 2^36 as a number from 0 to 2^37; what lies outside is taken for the nearest inside
unfoldable pub off : ℤ → ℕ
off (pos n) = min (n + coordinate) (coordinate + coordinate)
off (negsuc n) = coordinate - suc n

-- the way back
unfoldable pub on : ℕ → ℤ
on n = pos (min n (coordinate + coordinate)) -ℤ pos coordinate

-- one tick in metres: 1 / 2^38
abbrev pub tick : Float
tick = Ieee.round binary64 false 1 (2 ^ 38)

-- a length in metres: a product of two numbers that binary64 has, and exact
abbrev pub metres_of : ℕ → Float
metres_of n = Ieee.mul binary64 (Ieee.of_int binary64 (pos n)) tick
