use Rattle.std.proofs.Common.{◌≡◌, ◌++◌, map, take, drop}
use Rattle.net.specs.Net.{weighed}
use Rattle.weights.specs.Bare.{nodes_of}
use Rattle.weights.proofs.weigh.weigh_edges.Given as goal

abbrev pub invariant-loop-edge : goal.invariant-loop-edge
invariant-loop-edge l = l.edge-items ≡ map (weighed (nodes_of l.net) l.net.cells.now) (take l.edge-index l.fn.edges) ++ drop l.edge-index l.fn.edges
