use Rattle.std.proofs.Common.{flat_map}
use Rattle.links.specs.Made.{via_links, channel_links}
use Rattle.links.specs.Nets.{layer_links}
use Rattle.links.proofs.Behind.{first-room, second-room, both}
use Rattle.links.proofs.Runs.{runs-are}
use Rattle.links.proofs.Whole.{vias-range, channels-range}
use Rattle.links.proofs.write.write_layer_links.Goals as goal

pub invariant_of-nodes-clause-runs : goal.invariant_of-nodes-clause-runs
invariant_of-nodes-clause-runs c = runs-are c.args.net.now.nodes.now _ c.sort_nodes.ensures

pub write_vias-vias-requires-clause-in_range : goal.write_vias-vias-requires-clause-in_range
write_vias-vias-requires-clause-in_range c = vias-range c.args.links.now c.requires.in_range

pub write_vias-vias-requires-clause-room : goal.write_vias-vias-requires-clause-room
unfolding layer_links
write_vias-vias-requires-clause-room c =
    let l = c.args.links.now in
    let nodes = c.args.net.now.nodes.now in
    first-room (flat_map (via_links nodes) l.vias.now) (flat_map (channel_links nodes l.channel_layer) l.channels.now) c.args.edges.now c.requires.room

pub write_channels-requires-clause-in_range : goal.write_channels-requires-clause-in_range
write_channels-requires-clause-in_range c = channels-range c.args.links.now c.requires.in_range

pub write_channels-requires-clause-room : goal.write_channels-requires-clause-room
unfolding layer_links
write_channels-requires-clause-room c =
    let l = c.args.links.now in
    let nodes = c.args.net.now.nodes.now in
    let v = c.write_vias-vias.ensures in
    second-room (flat_map (via_links nodes) l.vias.now) (flat_map (channel_links nodes l.channel_layer) l.channels.now) c.args.edges.now c.requires.room _ _ v.row v.count

pub returns : goal.returns
unfolding layer_links
returns c =
    let l = c.args.links.now in
    let nodes = c.args.net.now.nodes.now in
    let v = c.write_vias-vias.ensures in
    let w = c.write_channels.ensures in
    let b = both (flat_map (via_links nodes) l.vias.now) (flat_map (channel_links nodes l.channel_layer) l.channels.now) c.args.edges.now c.requires.room _ _ v.row v.count _ _ w.row w.count in
    record { count = b.0; row = b.1 }
