use Rattle.std.proofs.Common.{arith}
use Rattle.bare_net.specs.Sides.{cell_at}
use Rattle.bare_net.proofs.Written.{filled_more}
use Rattle.bare_net.proofs.sides.Sides.write_cells.Goals as goal

pub loop-v-preserved : goal.loop-v-preserved
loop-v-preserved c =
    let h = c.requires in
    filled_more (cell_at c.args.self.now) _ _ _ _ c.loop-v.invariant (omega arith) c.cell.ensures
