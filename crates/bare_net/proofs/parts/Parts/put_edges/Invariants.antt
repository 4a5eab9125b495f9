use Rattle.bare_net.specs.Parts.{part_count, part_of}
use Rattle.bare_net.proofs.Welding.{Edged}
use Rattle.bare_net.proofs.parts.Parts.put_edges.Given as goal

abbrev pub invariant-loop-j : goal.invariant-loop-j
invariant-loop-j l = Edged (part_of l.self) (part_count l.self) l.fn.edges l.edges l.count l.j
