-- The code's two ends are the rules' to the bit.
use Rattle.std.proofs.Common.{refl}
use lib.Ieee.{round, of_bits}
use Rattle.floats.specs.Fractions.{in_sheet}
use Rattle.floats.proofs.sheet_in_range.Goals as goal

pub returns : goal.returns
unfolding in_sheet round of_bits
returns c = refl
