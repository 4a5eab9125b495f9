use Rattle.std.proofs.Common.{arith, to_z-of_z}
use Rattle.links.proofs.Near.{between}
use Rattle.links.proofs.count.reach.Goals as goal

pub returns : goal.returns
returns c x low near =
    let h = between x low c.args.centre c.args.half near in
    rw (c.saturating_sub.ensures, c.saturating_add.ensures, c.offset-middle.ensures, to_z-of_z c.ranges.half, to_z-of_z c.ranges.centre) (h.0, omega (arith, h.1))
