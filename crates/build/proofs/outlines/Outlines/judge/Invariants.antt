-- The polygons passed are sound.
use Rattle.std.proofs.Common.{length, sum, take, ◌-◌, ◌≡◌}
use Rattle.refusals.specs.Said.{Said}
use Rattle.build.specs.Says.{judge_from}
use Rattle.build.proofs.outlines.Outlines.judge.Given as goal

abbrev pub invariant-loop-p : goal.invariant-loop-p
invariant-loop-p l =
    let n = length l.self.counts.now in
    record {
      start : l.at ≡ sum (take l.p l.self.counts.now);
      on : (o : Said) →
          judge_from l.self.sheets.now l.self.counts.now l.self.points.now l.p (n - l.p) o ≡ judge_from l.self.sheets.now l.self.counts.now l.self.points.now 0 n o;
    }
