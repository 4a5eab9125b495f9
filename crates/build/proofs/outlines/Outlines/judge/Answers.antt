use Rattle.std.proofs.Common.{◌-◌, ◌≡◌, length, Err, arith, rules, refl, sym, ap, ◌∙◌}
use Rattle.strips.specs.Said.{fault}
use Rattle.build.proofs.Judging.{judge-on, judge-end}
use Rattle.build.proofs.outlines.Outlines.judge.Goals as goal

pub loop-p-init : goal.loop-p-init
loop-p-init c =
    let e : length c.args.self.now.counts.now - 0 ≡ length c.args.self.now.counts.now = omega arith in
    record { start = refl; on = λ o. rw e refl }

pub loop-p-preserved : goal.loop-p-preserved
loop-p-preserved c =
    let a = c.args.self.now in
    let s = c.loop-p in
    record {
      start = c.ring-ring.ensures.next;
      on = λ o. c.in_ok-judge_one.ensures _
          ∙ judge-on a.sheets.now a.counts.now a.points.now _ s.p (length a.counts.now) o (omega (arith, c.loop-p-test.true, c.requires.sheets_fit)) c.ring-ring.ensures.points
          ∙ s.invariant.on o;
    }

pub returns-in_err-judge_one : goal.returns-in_err-judge_one
returns-in_err-judge_one c = λ o.
    let a = c.args.self.now in
    let s = c.loop-p in
    let same : c.from_residual.result ≡ Err c.in_err-judge_one.field-0.0 = search rules in
    ap (λ x. fault x o) same ∙ c.in_err-judge_one.ensures _
    ∙ judge-on a.sheets.now a.counts.now a.points.now _ s.p (length a.counts.now) o (omega (arith, c.loop-p-test.true, c.requires.sheets_fit)) c.ring-ring.ensures.points
    ∙ s.invariant.on o

pub returns : goal.returns
returns c = λ o.
    let a = c.args.self.now in
    let s = c.loop-p in
    sym (judge-end a.sheets.now a.counts.now a.points.now s.p (length a.counts.now) o (omega (arith, c.loop-p-test.false, c.requires.sheets_fit)))
    ∙ s.invariant.on o
