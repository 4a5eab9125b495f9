use Rattle.std.proofs.Common.{None, Some, ◌∙◌}
use Rattle.net_rows.proofs.Sound.{sound_facts}
use Rattle.checks.proofs.Indexed.{place-found}
use Rattle.checks.proofs.index.IndexLookup.node_at.Goals as goal

pub returns-in_err-number : goal.returns-in_err-number
returns-in_err-number c =
    let index = c.args.self.now in
    c.from_residual.ensures
    ∙ place-found index.axis c.args.class index.paired.net.rows.nodes.now index.places.now c.requires.served (sound_facts _ _ _ index.paired.net.sound).each_node
    c.args.place c.requires.near None (rw (c.key-key.ensures, c.facing.ensures) at c.in_err-number.ensures)

pub returns : goal.returns
returns c =
    let index = c.args.self.now in
    place-found index.axis c.args.class index.paired.net.rows.nodes.now index.places.now c.requires.served (sound_facts _ _ _ index.paired.net.sound).each_node
    c.args.place c.requires.near (Some c.in_ok-number.field-0.now) (rw (c.key-key.ensures, c.facing.ensures) at c.in_ok-number.ensures)
