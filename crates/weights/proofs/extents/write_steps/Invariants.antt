use Rattle.std.proofs.Common.{List}
use Rattle.net.specs.Net.{MeshNode}
use Rattle.weights.specs.Lines.{Lined}
use Rattle.weights.proofs.Steps.{Stepping}
use Rattle.weights.proofs.extents.write_steps.Given as goal

abbrev pub invariant-loop-k : goal.invariant-loop-k
invariant-loop-k l = (ns : List MeshNode) → Lined ns l.row → Stepping ns l.row l.steps l.step l.last l.k
