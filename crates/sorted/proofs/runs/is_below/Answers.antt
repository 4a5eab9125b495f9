use Rattle.std.proofs.Common.{arith}
use Rattle.sorted.proofs.Below.{column_more, columns_end}
use Rattle.sorted.proofs.runs.is_below.Goals as goal

pub loop-c-preserved : goal.loop-c-preserved
loop-c-preserved g c =
    let t = c.loop-c-test.true in
    let long = c.told-entry in
    let r = c.requires.key_fits in
    column_more c.args.entry.now c.args.key.now c.loop-c.c c.loop-c.below c.loop-c.equal c.loop-c.invariant (omega arith) t

pub returns : goal.returns
returns g c =
    columns_end c.args.entry.now c.args.key.now c.loop-c.c c.loop-c.below c.loop-c.equal c.loop-c.invariant c.loop-c-test.false
