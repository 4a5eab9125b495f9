use Rattle.std.proofs.Common.{◌∷◌, [], ◌++◌}
use Rattle.std.proofs.lemmas.Result.{err_from_is_err_and}
use Rattle.fields.proofs.Loop.{goes_on, stops, is_done}
use Rattle.record.specs.Board.{Point, point}
use Rattle.record.proofs.walk.read_ring.Goals as goal

pub returns-in_err-read_point : goal.returns-in_err-read_point
returns-in_err-read_point c =
    let p = err_from_is_err_and c.from_residual.result c.from_residual.ensures.1 in
    let l = c.loop in
    rw (p.1, p.2)
    (stops (λ (_ : Unit {0}). point) (λ (_ : Point). tt) tt c.args.count _ l.counter l.invariant.0 tt l.reader l.invariant.1 _ c.loop-test.true c.in_err-read_point.ensures)

pub loop-preserved : goal.loop-preserved
loop-preserved c =
    let l = c.loop in
    let x = c.in_ok-read_point.field-0 in
    (l.invariant.0 ++ x ∷ [], goes_on (λ (_ : Unit {0}). point) (λ (_ : Point). tt) tt c.args.count _ l.counter l.invariant.0 tt l.reader l.invariant.1 x _ c.loop-test.true c.in_ok-read_point.ensures)

pub returns : goal.returns
returns c =
    let l = c.loop in
    (l.invariant.0, is_done (λ (_ : Unit {0}). point) (λ (_ : Point). tt) tt c.args.count _ l.counter l.invariant.0 tt l.reader l.invariant.1 c.loop-test.false)
