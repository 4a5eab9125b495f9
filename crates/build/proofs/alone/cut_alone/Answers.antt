use Rattle.std.proofs.Common.{arith, ◌∙◌}
use Rattle.strips.specs.Strips.{strips_of}
use Rattle.build.specs.Grid.{roots_in}
use Rattle.build.proofs.Fitting.{roots-cleared}
use Rattle.build.proofs.alone.cut_alone.Goals as goal

pub returns-clause-slots : goal.returns-clause-slots
returns-clause-slots c =
    let g = c.args.cutter in
    let v = c.put_strips-k in
    let put = rw c.ready.ensures at v.ensures in
    let roots = roots_in 0 g.cap g.cell (strips_of c.args.points.now) in
    c.clear.ensures ∙ roots-cleared c.args.table.now v.new.t roots v.result (omega (arith, put.next)) put.slots v.auto.t
