use Rattle.std.proofs.Common.{◌≡◌, map, take}
use Rattle.refusals.specs.Said.{written}
use Rattle.links.specs.Made.{edge}
use Rattle.links.proofs.put.put_fan.Given as goal

abbrev pub invariant-loop-k : goal.invariant-loop-k
invariant-loop-k l = l.edges ≡ written (map (edge l.conductance l.from) (take l.k l.list)) l.fn.edges
