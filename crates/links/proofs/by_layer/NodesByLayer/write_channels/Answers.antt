use Rattle.std.proofs.Common.{IsTrue}
use Rattle.std.proofs.lemmas.List.Elements.{All-get_or}
use Rattle.links.specs.Judged.{channel_in_range}
use Rattle.links.specs.Made.{channel_links}
use Rattle.links.proofs.Behind.{stands-none, stands-all, next-room, next-stands}
use Rattle.links.proofs.by_layer.NodesByLayer.write_channels.Goals as goal

pub loop-channel-init : goal.loop-channel-init
loop-channel-init c = stands-none _ _ _

pub write_channel-count-requires : goal.write_channel-count-requires
write_channel-count-requires c =
    let a = c.args in
    let l = c.loop-channel in
    record {
      in_range = All-get_or (λ q. IsTrue (channel_in_range q)) a.channels.now l.channel-index _ c.loop-channel-test.true c.requires.in_range;
      room = next-room (channel_links a.self.now.nodes.now a.layer) a.channels.now a.edges.now c.requires.room l.edges l.count l.channel-index _ c.loop-channel-test.true l.invariant;
    }

pub loop-channel-preserved : goal.loop-channel-preserved
loop-channel-preserved c =
    let a = c.args in
    let l = c.loop-channel in
    next-stands (channel_links a.self.now.nodes.now a.layer) a.channels.now a.edges.now c.requires.room l.edges l.count l.channel-index _ c.loop-channel-test.true l.invariant
    _ _ c.write_channel-count.ensures.row c.write_channel-count.ensures.count

pub returns : goal.returns
returns c =
    let a = c.args in
    let l = c.loop-channel in
    let s = stands-all (channel_links a.self.now.nodes.now a.layer) a.channels.now a.edges.now l.edges l.count l.channel-index c.loop-channel-test.false l.invariant in
    record { count = s.0; row = s.1 }
