-- The polygons passed have even sides, and their roots are counted.
use Rattle.std.proofs.Common.{length, sum, take, ◌*◌, ◌+◌, ◌-◌, ◌≤◌, ◌≡◌}
use Rattle.refusals.specs.Limits.{max_cap, max_slots}
use Rattle.refusals.specs.Said.{Said}
use Rattle.build.specs.Board.{board_of, roots_to}
use Rattle.build.specs.Says.{even_from}
use Rattle.build.specs.Steps.{SameTo}
use Rattle.build.proofs.survey.survey.Given as goal

abbrev pub invariant-loop-p : goal.invariant-loop-p
invariant-loop-p l =
    let b = board_of l.board.settings l.board.list.now l.board.outlines in
    let n = length b.counts in
    record {
      start : l.at ≡ sum (take l.p b.counts);
      even : (o : Said) → even_from b l.p (n - l.p) o ≡ even_from b 0 n o;
      counted : SameTo l.slots l.sum (length (roots_to b l.p));
      fits : l.sum ≤ max_slots + max_cap * max_cap;
    }
