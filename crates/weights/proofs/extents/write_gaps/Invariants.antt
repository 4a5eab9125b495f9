use Rattle.std.proofs.Common.{List}
use Rattle.net.specs.Net.{MeshNode}
use Rattle.weights.specs.Lines.{Lined}
use Rattle.weights.proofs.Walk.{Walked}
use Rattle.weights.proofs.extents.write_gaps.Given as goal

abbrev pub invariant-loop-k : goal.invariant-loop-k
invariant-loop-k l = (ns : List MeshNode) → Lined ns l.row → Walked ns l.row l.forth l.back l.before l.k
