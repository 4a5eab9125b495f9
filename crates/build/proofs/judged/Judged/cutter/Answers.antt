use Rattle.std.proofs.Common.{pow_pos}
use Rattle.build.specs.Board.{board_of}
use Rattle.build.proofs.Boards.{layer-sizes, unit-fits}
use Rattle.build.proofs.judged.Judged.cutter.Goals as goal

pub invariant_of-result : goal.invariant_of-result
invariant_of-result c =
    let j = c.args.self.now in
    let b = board_of j.settings j.list.now j.outlines in
    record {
      sizes = rw c.size_of.ensures (layer-sizes b j.fit c.from.result);
      some_unit = rw c.root_unit.ensures (pow_pos _);
      unit_fits = rw c.root_unit.ensures (unit-fits _ j.fit.level);
    }
