-- Below the range, above it, and within.
use Rattle.std.proofs.Common.{◌≡◌, sym, ap, pos, nat_abs, ◌+ℤ◌, w64, to_z, of_z, to_z-of_z}
use Rattle.refusals.specs.Limits.{coordinate}
use Rattle.cell.specs.Ticks.{off}
use Rattle.cell.proofs.Offsets.{off-low, off-high, off-fits, shifted}
use Rattle.cell.proofs.ticks.offset.Goals as goal

pub returns-then-z : goal.returns-then-z
returns-then-z c = sym (off-low c.args.z (rw (to_z-of_z c.ranges.z) at c.if-z.true))

pub returns-then-z-ge-COORDINATE : goal.returns-then-z-ge-COORDINATE
returns-then-z-ge-COORDINATE c = sym (off-high c.args.z (rw (to_z-of_z c.ranges.z) at c.if-z-ge-COORDINATE.true))

-- the sum, where neither test held
inside : (c : goal.Else-z-ge-COORDINATE) → to_z w64 (of_z w64 c.args.z) +ℤ pos coordinate ≡ pos (off c.args.z)
inside c =
    let h = to_z-of_z c.ranges.z in
    rw h (shifted c.args.z (rw h at c.if-z.false) (rw h at c.if-z-ge-COORDINATE.false))

pub returns : goal.returns
returns c = rw (inside c) (ap nat_abs (to_z-of_z (off-fits c.args.z)))
