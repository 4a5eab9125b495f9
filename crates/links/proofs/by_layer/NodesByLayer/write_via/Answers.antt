use Rattle.std.proofs.Common.{length, arith, rules, Fits, w64}
use Rattle.links.proofs.Runs.{run-known, run-few}
use Rattle.links.proofs.Sides.{side-is, via-long}
use Rattle.links.proofs.by_layer.NodesByLayer.write_via.Goals as goal

pub side-bottom-requires-clause-known : goal.side-bottom-requires-clause-known
side-bottom-requires-clause-known c =
    let net = c.args.self.now in
    let via = c.args.via.now in
    run-known net.nodes.now via.bottom via.component _
    (c.candidates-at_bottom.ensures net.nodes.now (c.layer_list-lower.ensures net.nodes.now net.runs) (c.layer_list-upper.ensures net.nodes.now net.runs))

pub side-bottom-requires-clause-room : goal.side-bottom-requires-clause-room
side-bottom-requires-clause-room c =
    let net = c.args.self.now in
    let via = c.args.via.now in
    let e = c.candidates-at_bottom.ensures net.nodes.now (c.layer_list-lower.ensures net.nodes.now net.runs) (c.layer_list-upper.ensures net.nodes.now net.runs) in
    let few = run-few net.nodes.now via.bottom via.component _ e in
    let l = c.split_at_mut-bottom_room.ensures.front_len in
    omega arith

pub side-top-requires-clause-known : goal.side-top-requires-clause-known
side-top-requires-clause-known c =
    let net = c.args.self.now in
    let via = c.args.via.now in
    run-known net.nodes.now via.top via.component _
    (c.candidates-at_top.ensures net.nodes.now (c.layer_list-lower.ensures net.nodes.now net.runs) (c.layer_list-upper.ensures net.nodes.now net.runs))

pub side-top-requires-clause-room : goal.side-top-requires-clause-room
side-top-requires-clause-room c =
    let net = c.args.self.now in
    let via = c.args.via.now in
    let e = c.candidates-at_top.ensures net.nodes.now (c.layer_list-lower.ensures net.nodes.now net.runs) (c.layer_list-upper.ensures net.nodes.now net.runs) in
    let few = run-few net.nodes.now via.top via.component _ e in
    let l = c.split_at_mut-bottom_room.ensures.back_len in
    let r = c.requires.side_room in
    omega arith

pub overflow_mul-bottom : goal.overflow_mul-bottom
overflow_mul-bottom c =
    let nodes = c.args.self.now.nodes.now in
    let runs = c.args.self.now.runs in
    let via = c.args.via.now in
    let e = c.candidates-at_bottom.ensures nodes (c.layer_list-lower.ensures nodes runs) (c.layer_list-upper.ensures nodes runs) in
    let f = c.candidates-at_top.ensures nodes (c.layer_list-lower.ensures nodes runs) (c.layer_list-upper.ensures nodes runs) in
    let long = via-long nodes via _ _ (side-is nodes via via.bottom _ _ e c.side-bottom.ensures) (side-is nodes via via.top _ _ f c.side-top.ensures) in
    let r = c.requires.room in
    let fits : Fits w64 (length c.args.edges.now) = search rules in
    record { fits = omega arith }
