use Rattle.std.proofs.Common.{ap, ◌∙◌, sym, flat_map, length, eqb-true, arith}
use Rattle.refusals.specs.Said.{written}
use Rattle.links.specs.Made.{contact_links}
use Rattle.links.specs.Nets.{lists_of, layer_links}
use Rattle.links.proofs.Behind.{first-room, second-room, both}
use Rattle.links.proofs.Whole.{links-are, contacts-alone}
use Rattle.links.proofs.write.write_links.Goals as goal

pub write_contacts-contacts-requires : goal.write_contacts-contacts-requires
write_contacts-contacts-requires c =
    let l = c.args.links.now in
    let net = c.args.net.now in
    let e = ap length (links-are net.nodes.now (lists_of net) l) in
    let r = c.requires.room in
    record { room = first-room (flat_map (contact_links net.nodes.now (lists_of net)) l.contacts.now) (layer_links net.nodes.now l) c.args.edges.now (omega arith) }

pub returns-then-is_empty-2 : goal.returns-then-is_empty-2
returns-then-is_empty-2 c =
    let l = c.args.links.now in
    let net = c.args.net.now in
    let e = contacts-alone net.nodes.now (lists_of net) l (eqb-true _ _ (sym c.if-is_empty.ensures)) (eqb-true _ _ (sym c.if-is_empty-2.ensures)) in
    let v = c.write_contacts-contacts.ensures in
    record { count = v.count ∙ ap length e; row = v.row ∙ ap (λ z. written z c.args.edges.now) e }

pub write_layer_links-requires-clause-room : goal.write_layer_links-requires-clause-room
write_layer_links-requires-clause-room c =
    let l = c.args.links.now in
    let net = c.args.net.now in
    let e = ap length (links-are net.nodes.now (lists_of net) l) in
    let r = c.requires.room in
    let v = c.write_contacts-contacts.ensures in
    second-room (flat_map (contact_links net.nodes.now (lists_of net)) l.contacts.now) (layer_links net.nodes.now l) c.args.edges.now (omega arith) _ _ v.row v.count

pub returns : goal.returns
returns c =
    let l = c.args.links.now in
    let net = c.args.net.now in
    let e = links-are net.nodes.now (lists_of net) l in
    let n = ap length e in
    let r = c.requires.room in
    let v = c.write_contacts-contacts.ensures in
    let w = c.write_layer_links.ensures in
    let b = both (flat_map (contact_links net.nodes.now (lists_of net)) l.contacts.now) (layer_links net.nodes.now l) c.args.edges.now (omega arith) _ _ v.row v.count _ _ w.row w.count in
    record { count = b.0 ∙ n; row = b.1 ∙ ap (λ z. written z c.args.edges.now) e }
