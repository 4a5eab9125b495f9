use Rattle.std.proofs.Common.{◌<◌, ◌^◌, sym, arith, w64, to_z-of_z}
use mir.Facts.{to_z_pos}
use Rattle.cell.proofs.Offsets.{on-is, on-top, on_fits}
use Rattle.cell.proofs.ticks.ticks.Goals as goal

pub returns-then-n-gt-TOP : goal.returns-then-n-gt-TOP
returns-then-n-gt-TOP c = sym (on-top c.args.n c.if-n-gt-TOP.true)

pub returns : goal.returns
returns c =
    let n = c.args.n in
    let h : n < 2 ^ 63 = omega arith in
    rw (to_z_pos w64 h, on-is n c.if-n-gt-TOP.false, to_z-of_z (on_fits n))
