use Rattle.std.proofs.Common.{◌+◌, ◌≡◌, sym, ap, ◌∙◌, arith}
use Rattle.std.proofs.lemmas.Result.{err_from_is_err_and}
use Rattle.coarsest.specs.Passes.{difference}
use Rattle.coarsest.specs.Sweep.{rows}
use Rattle.table.specs.TablesMut.{cells_mut}
use Rattle.even.proofs.Going.{on-start, on-as, on-makes, length-of}
use Rattle.even.proofs.Turns.{rows-pass, rows_none}
use Rattle.even.proofs.Watching.{rows-to}
use Rattle.even.proofs.Passing.{pass-next, pass-full}
use Rattle.even.proofs.evener.Evener.pass.Goals as goal

pub loop-a-init : goal.loop-a-init
loop-a-init c =
    let e = c.args.self.now.engine in
    let k = difference c.args.self.now.engine in
    let s = c.args.table.now in
    let t = cells_mut s in
    let n = s.head.count in
    let g = c.next-a.ensures in (
      g.within,
      on-as
          (sym (rows-to e k n c.args.marks.now t (rw length-of (omega arith)) (λ x y hx hy. c.requires.watched x y (rw length-of hx) (rw length-of hy)) 0 c.next-a.result g.past
          g.within g.skipped ∙ rows_none e k t n))
          (on-start s),
    )

pub returns-in_err-row : goal.returns-in_err-row
returns-in_err-row c =
    let p = err_from_is_err_and c.from_residual.result c.from_residual.ensures.1 in
    rw (p.1, p.2)
    (pass-full _ _ _ _ _ c.loop-a.invariant.1 c.loop-a-test.true c.row.new.table _ c.in_err-row.ensures)

pub loop-a-preserved : goal.loop-a-preserved
loop-a-preserved c =
    let e = c.args.self.now.engine in
    let k = difference c.args.self.now.engine in
    let s = c.args.table.now in
    let t = cells_mut s in
    let n = s.head.count in
    let l = c.loop-a in
    let g = c.next-a-in-loop-a.ensures in (
      g.within,
      on-as
          (sym (rows-to e k n c.args.marks.now t (rw length-of (omega arith)) (λ x y hx hy. c.requires.watched x y (rw length-of hx) (rw length-of hy)) (l.a + 1)
          c.next-a-in-loop-a.result g.past g.within g.skipped))
          (pass-next _ _ _ _ _ l.invariant.1 c.loop-a-test.true c.row.new.table _ c.in_ok-row.ensures),
    )

pub returns : goal.returns
returns c =
    let e = c.args.self.now.engine in
    let k = difference c.args.self.now.engine in
    let s = c.args.table.now in
    let t = cells_mut s in
    let n = s.head.count in
    let q : c.loop-a.a ≡ n = omega (arith, c.loop-a.invariant.0, c.loop-a-test.false) in
    on-makes _ _ _ _
    (on-as (ap (rows e k n t) q ∙ rows-pass e k t n (length-of s)) c.loop-a.invariant.1)
