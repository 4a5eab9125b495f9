use Rattle.std.proofs.Common.{◌<◌, ◌∙◌, ap, length, set, get_or, arith, Float}
use Rattle.std.specs.Float.{nan}
use Rattle.std.proofs.lemmas.List.{get_or_default}
use Rattle.std.proofs.lemmas.List.Edits.{map_over_more}
use Rattle.net.specs.Net.{Edge, weighed}
use Rattle.weights.specs.Bare.{nodes_of}
use Rattle.weights.proofs.weigh.weigh_edges.Goals as goal

pub loop-edge-preserved : goal.loop-edge-preserved
unfolding weighed
loop-edge-preserved c =
    let net = c.args.net.now in
    let i = c.loop-edge.edge-index in
    let now = c.loop-edge.edge-items in
    let e : Edge = get_or now i (record { from = 0; to = 0; conductance = nan }) in
    let here : i < length now = omega arith in
    ap (λ (g : Float). set now i (record { from = e.from; to = e.to; conductance = g })) c.weigh_edge-edge.ensures
    ∙ map_over_more (weighed (nodes_of net) net.cells.now) c.args.edges.now now i e (omega arith) c.loop-edge.invariant (get_or_default now i _ e here)
