use Rattle.std.proofs.Common.{◌+◌, ◌-◌, ◌≡◌, arith}
use Rattle.strips.specs.Strips.{levels}
use Rattle.strips.proofs.Distinct.{heights-none, heights-few, heights-rise, heights-more}
use Rattle.strips.proofs.walk.sort_heights.Goals as goal

pub loop-i-init : goal.loop-i-init
loop-i-init c = heights-none c.args.points.now c.args.row.now

pub add-k-requires-clause-room : goal.add-k-requires-clause-room
add-k-requires-clause-room c =
    let s = c.loop-i in
    let few = heights-few c.args.points.now s.row s.k s.i s.invariant in
    omega arith

pub add-k-requires-clause-rising : goal.add-k-requires-clause-rising
add-k-requires-clause-rising c =
    let s = c.loop-i in
    heights-rise c.args.points.now s.row s.k s.i s.invariant

pub loop-i-preserved : goal.loop-i-preserved
loop-i-preserved c =
    let s = c.loop-i in
    let e : s.i ≡ s.i - 1 + 1 = omega arith in
    heights-more c.args.points.now s.row s.k (s.i - 1) (rw e at s.invariant) (omega arith)
    c.add-k.new.row c.add-k.result c.y_at.result c.y_at.ensures c.add-k.ensures

pub returns : goal.returns
unfolding levels
returns c =
    let s = c.loop-i in
    let z : s.i ≡ 0 = omega arith in
    rw z at s.invariant
