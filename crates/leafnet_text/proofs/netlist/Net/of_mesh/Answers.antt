-- The call's polygons are the board's.
use Rattle.std.proofs.Common.{◌≡◌, length, Err, rules}
use Rattle.leafnet_text.specs.Held.{given_of}
use Rattle.leafnet_text.proofs.Refusing.{prints-refused}
use Rattle.leafnet_text.proofs.Netted.{net-left, net-refused}
use Rattle.leafnet_text.proofs.netlist.Net.of_mesh.Goals as goal

pub returns-in_err-size : goal.returns-in_err-size
returns-in_err-size c =
    let x = c.in_err-size in
    let same : c.from_residual.result ≡ Err x.field-0.0 = search rules in
    prints-refused c.from_residual.result x.field-0.0 _ _ same
    (net-refused (given_of c.args.board.now) _ _ _ _ c.layers.ensures c.components.ensures c.sheets.ensures _ c.none.ensures.contacts c.none.ensures.vias c.none.ensures.channel_layer c.none.ensures.channels
    x.field-0.0 _ x.ensures.answer)

pub invariant_of-result : goal.invariant_of-result
invariant_of-result c =
    let x = c.in_ok-size in
    let left = net-left (given_of c.args.board.now) _ _ _ _ c.layers.ensures c.components.ensures c.sheets.ensures _ c.none.ensures.contacts c.none.ensures.vias c.none.ensures.channel_layer c.none.ensures.channels
    x.size _ x.ensures.answer x.ensures.rows in
    let nodes : length c.network.new.nodes ≡ 256 = search rules in
    let edges : length c.network.new.edges ≡ 512 = search rules in
    record { few_nodes = rw nodes at left.few_nodes; few_edges = rw edges at left.few_edges; numbers = left.numbers }

pub returns : goal.returns
returns c =
    let x = c.in_ok-size in
    let left = net-left (given_of c.args.board.now) _ _ _ _ c.layers.ensures c.components.ensures c.sheets.ensures _ c.none.ensures.contacts c.none.ensures.vias c.none.ensures.channel_layer c.none.ensures.channels
    x.size _ x.ensures.answer x.ensures.rows in
    left.says c.args.mesh.now.splits
