use Rattle.links.proofs.Insides.{Kept}
use Rattle.links.proofs.rows.Footprint.write_inside.Given as goal

abbrev pub invariant-loop-entry : goal.invariant-loop-entry
invariant-loop-entry l = Kept l.nodes l.self l.candidates l.fn.into l.into l.count l.entry-index
