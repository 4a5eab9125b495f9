use Rattle.std.proofs.Common.{length, sym, ap}
use Rattle.refusals.specs.Said.{written}
use Rattle.links.proofs.Joined.{channel-none}
use Rattle.links.proofs.by_layer.NodesByLayer.write_channel.Goals as goal

pub returns-in_default-clause-count : goal.returns-in_default-clause-count
returns-in_default-clause-count c =
    let a = c.args in
    sym (ap length (channel-none a.self.now.nodes.now a.layer a.channel.now c.in_default.ensures))

pub returns-in_default-clause-row : goal.returns-in_default-clause-row
returns-in_default-clause-row c =
    let a = c.args in
    sym (ap (λ es. written es a.edges.now) (channel-none a.self.now.nodes.now a.layer a.channel.now c.in_default.ensures))
