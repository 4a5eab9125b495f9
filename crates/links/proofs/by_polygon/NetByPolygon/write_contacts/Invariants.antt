use Rattle.links.specs.Made.{contact_links}
use Rattle.links.specs.Nets.{lists_of}
use Rattle.links.proofs.Behind.{Stands}
use Rattle.links.proofs.by_polygon.NetByPolygon.write_contacts.Given as goal

abbrev pub invariant-loop-contact : goal.invariant-loop-contact
invariant-loop-contact l = Stands (contact_links l.self.nodes.now (lists_of l.self)) l.contacts l.fn.edges l.edges l.count l.contact-index
