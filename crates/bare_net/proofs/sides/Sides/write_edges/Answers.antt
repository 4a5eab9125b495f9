use Rattle.std.proofs.Common.{ap, ◌∙◌, length}
use Rattle.refusals.specs.Said.{written}
use Rattle.bare_net.proofs.Listing.{among_all}
use Rattle.bare_net.proofs.sides.Sides.write_edges.Goals as goal

pub returns-clause-count : goal.returns-clause-count
returns-clause-count c = c.write_edges.ensures.count ∙ ap length (among_all _ c.list_slots-count.ensures.listed.alike)

pub returns-clause-row : goal.returns-clause-row
returns-clause-row c = c.write_edges.ensures.row ∙ ap (λ es. written es c.args.edges.now) (among_all _ c.list_slots-count.ensures.listed.alike)
