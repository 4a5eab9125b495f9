-- The tick is equal to its definition by computing; of whole numbers nothing is left to show.
use Rattle.std.proofs.Common.{refl}
use lib.Ieee.{round, of_bits}
use Rattle.cell.proofs.laws.constants_of_the_rules.Goals as goal

pub returns-clause-tick : goal.returns-clause-tick
unfolding round of_bits
returns-clause-tick c = refl
