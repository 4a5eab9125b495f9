-- The strips still to come, put from the next slot on, make the table that is asked for.
use Rattle.std.proofs.Common.{length, ◌+◌, ◌≡◌}
use Rattle.strips.specs.Coming.{coming}
use Rattle.strips.specs.Strips.{strips_of}
use Rattle.std.specs.List.{AllByRecursion}
use Rattle.strips.specs.Walk.{Sound}
use Rattle.build.specs.Grid.{roots_in}
use Rattle.build.specs.Steps.{placed}
use Rattle.build.proofs.put.put_strips.Given as goal

abbrev pub invariant-loop-strip : goal.invariant-loop-strip
invariant-loop-strip l =
    let g = l.cutter in
    let rest = coming l.strip-iterator in
    let all = roots_in l.poly g.cap g.cell (strips_of l.ring.points.now) in
    record {
      sound : AllByRecursion Sound rest;
      counted : l.at + length (roots_in l.poly g.cap g.cell rest) ≡ l.k + length all;
      put : placed l.t l.at (roots_in l.poly g.cap g.cell rest) ≡ placed l.initial.t l.k all;
    }
