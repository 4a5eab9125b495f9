use Rattle.std.proofs.Common.{◌∙◌}
use Rattle.build.proofs.Placing.{root_placed}
use Rattle.build.proofs.put.put_root.Goals as goal

pub returns : goal.returns
returns c =
    let room = c.requires.room.room in
    c.put_cell.ensures ∙ rw c.root.ensures (root_placed c.args.t.now c.args.k c.args.s c.args.poly c.requires.polygon_in_range room)
