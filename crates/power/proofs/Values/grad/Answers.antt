-- The same operations in the same order.
use Rattle.std.proofs.Common.{refl}
use lib.Ieee.{of_int, round, of_bits}
use Rattle.power.proofs.Values.grad.Goals as goal

pub returns : goal.returns
unfolding of_int round of_bits
returns c = rw (c.metres-dy.ensures, c.metres-dx.ensures) refl
