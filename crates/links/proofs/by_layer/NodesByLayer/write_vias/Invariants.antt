use Rattle.links.specs.Made.{via_links}
use Rattle.links.proofs.Behind.{Stands}
use Rattle.links.proofs.by_layer.NodesByLayer.write_vias.Given as goal

abbrev pub invariant-loop-via : goal.invariant-loop-via
invariant-loop-via l = Stands (via_links l.self.nodes.now) l.vias l.fn.edges l.edges l.count l.via-index
