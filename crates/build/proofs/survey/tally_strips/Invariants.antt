-- What is counted and what is still to come are the same as all, as far as the slots.
use Rattle.std.proofs.Common.{length, min, ◌+◌, ◌*◌, ◌≤◌, ◌≡◌}
use Rattle.refusals.specs.Limits.{max_cap, max_slots}
use Rattle.strips.specs.Coming.{coming}
use Rattle.strips.specs.Strips.{strips_of}
use Rattle.std.specs.List.{AllByRecursion}
use Rattle.strips.specs.Walk.{Sound}
use Rattle.build.specs.Grid.{all_even, roots_in}
use Rattle.build.proofs.survey.tally_strips.Given as goal

abbrev pub invariant-loop-strip : goal.invariant-loop-strip
invariant-loop-strip l =
    let g = l.cutter in
    let all = strips_of l.ring.points.now in
    let rest = coming l.strip-iterator in
    record {
      sound : AllByRecursion Sound rest;
      even : all_even g.unit g.cap g.cell rest ≡ all_even g.unit g.cap g.cell all;
      counted : min (l.sum + length (roots_in 0 g.cap g.cell rest)) (l.slots + 1)
          ≡ min (l.before + length (roots_in 0 g.cap g.cell all)) (l.slots + 1);
      fits : l.sum ≤ max_slots + max_cap * max_cap;
    }
