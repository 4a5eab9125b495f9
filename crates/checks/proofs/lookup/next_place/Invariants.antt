-- No node passed comes before the end.
use Rattle.checks.proofs.Nearest.{EndsAt}
use Rattle.checks.proofs.lookup.next_place.Given as goal

abbrev pub invariant-loop-node : goal.invariant-loop-node
invariant-loop-node l = EndsAt l.nodes l.class l.axis l.from l.to l.node-index l.end
