use Rattle.std.proofs.Common.{◌∙◌}
use Rattle.build.specs.Board.{board_of}
use Rattle.build.proofs.Fitting.{cleared}
use Rattle.build.proofs.Answering.{cut-done}
use Rattle.build.proofs.cut_many.Goals as goal

pub returns : goal.returns
returns c =
    let j = c.args.board.now in
    let b = board_of j.settings j.list.now j.outlines in
    let t = c.args.table.now in
    let v = c.put_all-k in
    cut-done b t c.in_ok-n.n c.in_ok-n.ensures c.clear.new.t v.result c.if-slots-n.false v.ensures.count
    (c.clear.ensures ∙ cleared t v.new.t b v.result v.ensures.count v.ensures.slots v.auto.t)
