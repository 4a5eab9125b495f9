use Rattle.links.proofs.Behind.{Stands}
use Rattle.links.proofs.Fans.{fan}
use Rattle.links.proofs.put.put_pairs.Given as goal

abbrev pub invariant-loop-from : goal.invariant-loop-from
invariant-loop-from l = Stands (fan l.conductance l.top) l.bottom l.fn.edges l.edges l.count l.from-index
