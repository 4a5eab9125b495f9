use Rattle.std.proofs.Common.{to_z-of_z}
use Rattle.cell.specs.Ticks.{in_range}
use Rattle.cell.proofs.ticks.in_range.Goals as goal

pub returns : goal.returns
unfolding in_range
returns c = simp (to_z-of_z c.ranges.z)
