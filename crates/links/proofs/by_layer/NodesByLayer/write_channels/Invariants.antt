use Rattle.links.specs.Made.{channel_links}
use Rattle.links.proofs.Behind.{Stands}
use Rattle.links.proofs.by_layer.NodesByLayer.write_channels.Given as goal

abbrev pub invariant-loop-channel : goal.invariant-loop-channel
invariant-loop-channel l = Stands (channel_links l.self.nodes.now l.layer) l.channels l.fn.edges l.edges l.count l.channel-index
