-- The heights of the points passed stand at the front, in order, each once.
use Rattle.std.proofs.Common.{eqb}
use Rattle.std.specs.List.{dedup}
use Rattle.strips.specs.Sorted.{sorted}
use Rattle.strips.specs.Walk.{Gathered}
use Rattle.strips.proofs.Distinct.{heights_from}
use Rattle.strips.proofs.walk.sort_heights.Given as goal

abbrev pub invariant-loop-i : goal.invariant-loop-i
invariant-loop-i l = Gathered (dedup eqb (sorted (heights_from l.points l.i))) l.row l.k
