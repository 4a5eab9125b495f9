use Rattle.std.proofs.Common.{◌<◌, length, sym, ap, ◌∙◌, arith, length-set}
use Rattle.std.specs.Iterator.Adapters.{enumerate_count}
use Rattle.strips.proofs.Laying.{laid_one, laid_none}
use Rattle.strips.proofs.lay.Goals as goal

pub loop-n-preserved : goal.loop-n-preserved
loop-n-preserved c =
    let s = c.loop-n in
    let i = s.invariant in
    let k = enumerate_count s.n-iterator in
    let step = c.in-Some.ensures.steps in
    let e = step.0 in
    let place = step.1 in
    let next = step.2 in
    let long = ap length e in
    let fits : k < length s.out = omega arith in
    record {
      counted = omega arith;
      fits = simp length-set i.fits;
      laid = rw (next, c.row.ensures, place) (laid_one s.out k _ _ fits) ∙ rw e at i.laid;
    }

pub returns-clause-row : goal.returns-clause-row
returns-clause-row c =
    sym (laid_none c.loop-n.out (enumerate_count c.loop-n.n-iterator))
    ∙ rw c.in-None.ensures.steps.0.0 at c.loop-n.invariant.laid
