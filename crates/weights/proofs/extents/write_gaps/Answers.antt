use Rattle.std.proofs.Common.{[], arith}
use Rattle.weights.proofs.Walk.{walked_more, walked_all}
use Rattle.weights.proofs.extents.write_gaps.Goals as goal

pub loop-k-preserved : goal.loop-k-preserved
loop-k-preserved c = λ ns L.
    let h = c.loop-k-test.true in
    let n = c.requires.numbers c.loop-k.k [] h in
    rw c.rise_at-rise.ensures (walked_more ns c.args.row.now L _ _ _ _ h (omega arith) (omega arith) (c.loop-k.invariant ns L))

pub returns : goal.returns
returns c = λ ns L. walked_all ns c.args.row.now L _ _ _ _ c.loop-k-test.false (c.loop-k.invariant ns L)
