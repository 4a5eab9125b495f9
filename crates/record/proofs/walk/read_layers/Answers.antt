use Rattle.std.proofs.Common.{◌∷◌, [], ◌++◌, Some, None, sym}
use Rattle.std.proofs.lemmas.Result.{err_from_is_err_and}
use Rattle.fields.proofs.Laws.{many_length}
use Rattle.fields.proofs.Loop.{goes_on, stops, is_done}
use Rattle.record.specs.Board.{Entry, entry}
use Rattle.record.proofs.walk.read_layers.Goals as goal

pub returns-in_err-entry : goal.returns-in_err-entry
returns-in_err-entry c =
    let p = err_from_is_err_and c.from_residual.result c.from_residual.ensures.1 in
    let l = c.loop in
    rw (p.1, p.2, c.in-Ok.ensures.read, ← c.from-count.ensures)
    (stops (entry c.args.limits) (λ (e : Entry). Some e.layer) None c.from-count.result _ l.counter l.invariant.0 l.last l.reader l.invariant.1 _ c.loop-test.true c.in_err-entry.ensures)

pub loop-preserved : goal.loop-preserved
loop-preserved c =
    let l = c.loop in
    let x = c.in_ok-entry.entry in (
      l.invariant.0 ++ x ∷ [],
      goes_on (entry c.args.limits) (λ (e : Entry). Some e.layer) None c.from-count.result _ l.counter l.invariant.0 l.last l.reader l.invariant.1 x _ c.loop-test.true c.in_ok-entry.ensures,
    )

pub returns : goal.returns
returns c =
    let l = c.loop in
    let all = is_done (entry c.args.limits) (λ (e : Entry). Some e.layer) None c.from-count.result _ l.counter l.invariant.0 l.last l.reader l.invariant.1 c.loop-test.false in (
      l.invariant.0,
      rw (c.in-Ok.ensures.read, ← c.from-count.ensures) all,
      sym (many_length (entry c.args.limits) (λ (e : Entry). Some e.layer) None c.from-count.result _ all),
    )
