-- Both are computed.
use Rattle.std.proofs.Common.{refl}
use lib.Ieee.{round, of_bits}
use Rattle.refusals.proofs.laws.bits_are_the_ends.Goals as goal

pub returns-clause-low : goal.returns-clause-low
unfolding round of_bits
returns-clause-low c = refl

pub returns-clause-high : goal.returns-clause-high
unfolding round of_bits
returns-clause-high c = refl
