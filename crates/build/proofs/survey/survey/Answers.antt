use Rattle.std.proofs.Common.{◌-◌, ◌≡◌, length, arith, rules, refl, sym, ◌∙◌, Err}
use Rattle.build.specs.Board.{board_of}
use Rattle.build.proofs.Boards.{no-roots, even-on, even-stop, even-end, count-more}
use Rattle.build.proofs.Tallying.{none_from_err, some_from_ok}
use Rattle.build.proofs.survey.survey.Goals as goal

pub loop-p-init : goal.loop-p-init
loop-p-init c =
    let a = c.args in
    let b = board_of a.board.now.settings a.board.now.list.now a.board.now.outlines in
    let e : length b.counts - 0 ≡ length b.counts = omega arith in
    record {
      start = refl;
      even = λ o. rw e refl;
      counted = rw (no-roots b) refl;
      fits = omega arith;
    }

pub returns-in_err-sum : goal.returns-in_err-sum
returns-in_err-sum c =
    let a = c.args in
    let b = board_of a.board.now.settings a.board.now.list.now a.board.now.outlines in
    let s = c.loop-p in
    let g = c.cutter-cutter.ensures in
    let ring = c.ring-points.ensures.points in
    let none = none_from_err _ _ _ (sym c.ok_or.ensures.value ∙ c.in_err-sum.was) in
    let uneven = rw (g.unit, g.cap, g.cell, c.ready.ensures, ring) at (rw none.0 at c.tally_strips.ensures) in
    let same : c.from_residual.result ≡ Err c.in_err-sum.field-0.0 = search rules in
    rw (same, none.1)
    (λ o. sym (s.invariant.even o) ∙ even-stop b s.p (length b.counts) (omega (arith, c.loop-p-test.true, a.board.now.fit.rows)) o uneven)

pub loop-p-preserved : goal.loop-p-preserved
loop-p-preserved c =
    let a = c.args in
    let b = board_of a.board.now.settings a.board.now.list.now a.board.now.outlines in
    let s = c.loop-p in
    let g = c.cutter-cutter.ensures in
    let ring = c.ring-points.ensures.points in
    let some = some_from_ok _ _ _ (sym c.ok_or.ensures.value ∙ c.in_ok-sum.was) in
    let tally = rw (g.unit, g.cap, g.cell, c.ready.ensures, ring) at (rw some at c.tally_strips.ensures) in
    record {
      start = c.ring-points.ensures.next;
      even = λ o. sym (even-on b s.p (length b.counts) (omega (arith, c.loop-p-test.true, a.board.now.fit.rows)) o tally.even) ∙ s.invariant.even o;
      counted = count-more b _ s.sum _ s.p s.invariant.counted tally.counted;
      fits = tally.fits;
    }

pub returns : goal.returns
returns c =
    let a = c.args in
    let b = board_of a.board.now.settings a.board.now.list.now a.board.now.outlines in
    let s = c.loop-p in
    let e : s.p ≡ length b.counts = omega (arith, a.board.now.fit.rows) in
    record {
      even = λ o. sym (s.invariant.even o) ∙ even-end b s.p (length b.counts) o (omega (arith, e));
      counted = s.invariant.counted ∙ rw e refl;
    }
