use Rattle.std.proofs.Common.{to_z-of_z}
use mathlib.Core.Bool.{xor}
use Rattle.strips.specs.Levels.{crosses}
use Rattle.strips.proofs.ring.crosses.Goals as goal

pub returns : goal.returns
unfolding crosses xor
returns c = simp (to_z-of_z c.ranges.y0, to_z-of_z c.ranges.y1, to_z-of_z c.ranges.lo)
