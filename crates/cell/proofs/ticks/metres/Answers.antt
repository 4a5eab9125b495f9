-- The number is the same signed, and exact as a fraction; the constant is 2^-38 to the bit.
use Rattle.std.proofs.Common.{ℕ, ◌<◌, ◌^◌, arith, ◌≡◌, refl, pos, w64, to_z}
use lib.Ieee.{round, of_bits}
use mir.ValLaws.{to_z_pos}
use Rattle.cell.proofs.ticks.metres.Goals as goal

signed : (n : ℕ) → n < 2 ^ 53 → to_z w64 n ≡ pos n
signed n h = to_z_pos w64 n (omega arith)

pub returns : goal.returns
unfolding round of_bits
returns c = rw (signed c.args.length c.requires) refl
