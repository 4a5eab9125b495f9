use Rattle.std.proofs.Common.{◌∷◌, [], ◌++◌, sym, arith}
use Rattle.std.proofs.lemmas.Result.{err_from_is_err_and}
use Rattle.fields.proofs.Laws.{many_length}
use Rattle.fields.proofs.Loop.{goes_on, stops, is_done}
use Rattle.record.specs.Board.{Polygon, polygon}
use Rattle.record.proofs.Storing.{rings_next_long}
use Rattle.record.proofs.walk.read_polygons.Goals as goal

pub returns-in_err-read_polygon : goal.returns-in_err-read_polygon
returns-in_err-read_polygon c =
    let p = err_from_is_err_and c.from_residual.result c.from_residual.ensures.1 in
    let l = c.loop in
    rw (p.1, p.2, c.in-Ok.ensures.read, ← c.from-count.ensures)
    (stops (λ (_ : Unit {0}). polygon c.args.limits) (λ (_ : Polygon). tt) tt c.from-count.result _ l.counter l.invariant.0 tt l.reader l.invariant.1 _ c.loop-test.true c.in_err-read_polygon.ensures)

pub loop-preserved : goal.loop-preserved
loop-preserved c =
    let l = c.loop in
    let front = l.invariant.0 in
    let read = c.in_ok-read_polygon.ensures in
    let p = read.0 in (
      front ++ p ∷ [],
      goes_on (λ (_ : Unit {0}). polygon c.args.limits) (λ (_ : Polygon). tt) tt c.from-count.result _ l.counter front tt l.reader l.invariant.1 p _ c.loop-test.true read.1,
      omega (arith, rings_next_long front p, l.invariant.2, c.from.ensures, read.2),
      omega (arith, l.invariant.3, c.from.ensures),
    )

pub returns : goal.returns
returns c =
    let l = c.loop in
    let all = is_done (λ (_ : Unit {0}). polygon c.args.limits) (λ (_ : Polygon). tt) tt c.from-count.result _ l.counter l.invariant.0 tt l.reader l.invariant.1 c.loop-test.false in (
      l.invariant.0,
      rw (c.in-Ok.ensures.read, ← c.from-count.ensures) all,
      sym (many_length (λ (_ : Unit {0}). polygon c.args.limits) (λ (_ : Polygon). tt) tt c.from-count.result _ all),
      l.invariant.2,
    )
