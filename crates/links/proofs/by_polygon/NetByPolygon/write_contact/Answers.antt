use Rattle.std.proofs.Common.{length, sym, ap}
use Rattle.refusals.specs.Said.{written}
use Rattle.links.specs.Nets.{lists_of}
use Rattle.links.proofs.Joined.{contact-none}
use Rattle.links.proofs.by_polygon.NetByPolygon.write_contact.Goals as goal

pub returns-in_default-clause-count : goal.returns-in_default-clause-count
returns-in_default-clause-count c =
    let net = c.args.self.now in
    sym (ap length (contact-none net.nodes.now (lists_of net) c.args.contact c.in_default.ensures.first))

pub returns-in_default-clause-row : goal.returns-in_default-clause-row
returns-in_default-clause-row c =
    let net = c.args.self.now in
    sym (ap (λ es. written es c.args.edges.now) (contact-none net.nodes.now (lists_of net) c.args.contact c.in_default.ensures.first))
