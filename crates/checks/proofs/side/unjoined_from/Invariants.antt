-- What is left of the walk decides.
use Rattle.checks.proofs.Chains.{IsLeft, way}
use Rattle.checks.proofs.side.unjoined_from.Given as goal

abbrev pub invariant-loop-here : goal.invariant-loop-here
invariant-loop-here g l = IsLeft (g.L.Lookup.nodes l.net) (g.L.Lookup.edges l.net) l.class l.side l.start l.end l.node l.here

abbrev pub decreases-loop-here : goal.decreases-loop-here
decreases-loop-here g l = way (g.L.Lookup.nodes l.net) (g.L.Lookup.edges l.net) l.class l.side l.here
