use Rattle.links.specs.Made.{contact_links}
use Rattle.links.specs.Nets.{lists_of}
use Rattle.links.proofs.Behind.{stands-none, stands-all, next-room, next-stands}
use Rattle.links.proofs.by_polygon.NetByPolygon.write_contacts.Goals as goal

pub loop-contact-init : goal.loop-contact-init
loop-contact-init c = stands-none _ _ _

pub write_contact-count-requires : goal.write_contact-count-requires
write_contact-count-requires c =
    let a = c.args in
    let l = c.loop-contact in
    record { room = next-room (contact_links a.self.now.nodes.now (lists_of a.self.now)) a.contacts.now a.edges.now c.requires.room l.edges l.count l.contact-index _ c.loop-contact-test.true l.invariant }

pub loop-contact-preserved : goal.loop-contact-preserved
loop-contact-preserved c =
    let a = c.args in
    let l = c.loop-contact in
    next-stands (contact_links a.self.now.nodes.now (lists_of a.self.now)) a.contacts.now a.edges.now c.requires.room l.edges l.count l.contact-index _ c.loop-contact-test.true l.invariant
    _ _ c.write_contact-count.ensures.row c.write_contact-count.ensures.count

pub returns : goal.returns
returns c =
    let a = c.args in
    let l = c.loop-contact in
    let s = stands-all (contact_links a.self.now.nodes.now (lists_of a.self.now)) a.contacts.now a.edges.now l.edges l.count l.contact-index c.loop-contact-test.false l.invariant in
    record { count = s.0; row = s.1 }
