-- The vertical edges passed stand at the front.
use Rattle.std.proofs.Common.{take, ◌≡◌, ◌≤◌}
use Rattle.strips.specs.Walk.{unsorted_edges}
use Rattle.strips.proofs.walk.gather_edges.Given as goal

abbrev pub invariant-loop-i : goal.invariant-loop-i
invariant-loop-i l = (l.n ≤ l.i) × (take l.n l.row ≡ unsorted_edges l.points l.i)
