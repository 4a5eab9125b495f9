-- The code's two ends are the rules' to the bit.
use Rattle.std.proofs.Common.{refl}
use lib.Ieee.{round, of_bits, neg}
use Rattle.floats.specs.Fractions.{in_potential}
use Rattle.floats.proofs.potential_in_range.Goals as goal

pub returns : goal.returns
unfolding in_potential round of_bits neg
returns c = refl
