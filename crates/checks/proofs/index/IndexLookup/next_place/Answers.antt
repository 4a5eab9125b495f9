use Rattle.std.proofs.Common.{sym, ap, subst, ◌∙◌, Some, ℕ}
use Rattle.net_rows.proofs.Sound.{sound_facts}
use Rattle.checks.specs.Entries.{facing, IsPlaced}
use Rattle.checks.proofs.Indexed.{none-next, next-found}
use Rattle.checks.proofs.index.IndexLookup.next_place.Goals as goal

pub returns-in_err-y : goal.returns-in_err-y
returns-in_err-y c =
    let index = c.args.self.now in
    let nodes = index.paired.net.rows.nodes.now in
    let r = c.requires in
    let placed = subst (λ a. IsPlaced a c.args.class nodes index.places.now) r.goes r.served in
    c.from_residual.ensures
    ∙ sym (none-next c.args.axis c.args.class nodes index.places.now placed (sound_facts _ _ _ index.paired.net.sound).each_node
    c.args.from c.args.to r.on_line r.near_from r.near_to (rw (c.facing-from.ensures, c.facing-to.ensures) at c.in_err-y.ensures.none))

pub returns : goal.returns
returns c =
    let index = c.args.self.now in
    let nodes = index.paired.net.rows.nodes.now in
    let r = c.requires in
    let placed = subst (λ a. IsPlaced a c.args.class nodes index.places.now) r.goes r.served in
    ap Some c.facing.ensures
    ∙ (ap (λ (x : ℕ). Some (facing c.args.axis (record { x = x; y = c.in_ok-y.y }))) (ap (λ p. p.x) c.facing-from.ensures)
    ∙ sym (next-found c.args.axis c.args.class nodes index.places.now placed (sound_facts _ _ _ index.paired.net.sound).each_node
    c.args.from c.args.to r.on_line r.near_from r.near_to c.in_ok-y.y (rw (c.facing-from.ensures, c.facing-to.ensures) at c.in_ok-y.ensures.found)))
