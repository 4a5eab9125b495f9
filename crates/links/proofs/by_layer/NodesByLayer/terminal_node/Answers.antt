use Rattle.std.proofs.Common.{ap, ◌∙◌}
use Rattle.links.specs.Lists.{numbers_of}
use Rattle.links.proofs.Runs.{run-known}
use Rattle.links.proofs.by_layer.NodesByLayer.terminal_node.Goals as goal

pub nearest-requires-clause-known : goal.nearest-requires-clause-known
nearest-requires-clause-known c =
    let a = c.args in
    let net = a.self.now in
    run-known net.nodes.now a.layer a.terminal.now.component _ (ap numbers_of c.run.ensures ∙ net.runs a.layer a.terminal.now.component)
