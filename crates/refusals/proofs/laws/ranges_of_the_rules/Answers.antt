-- A fraction is equal to its definition by computing; of whole numbers nothing is left to show.
use Rattle.std.proofs.Common.{refl}
use lib.Ieee.{round, of_bits}
use Rattle.refusals.proofs.laws.ranges_of_the_rules.Goals as goal

pub returns-clause-sheet_low : goal.returns-clause-sheet_low
unfolding round of_bits
returns-clause-sheet_low c = refl

pub returns-clause-sheet_high : goal.returns-clause-sheet_high
unfolding round of_bits
returns-clause-sheet_high c = refl

pub returns-clause-potential : goal.returns-clause-potential
unfolding round of_bits
returns-clause-potential c = refl
