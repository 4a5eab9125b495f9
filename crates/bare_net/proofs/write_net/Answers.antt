use Rattle.std.proofs.Common.{◌≡◌, ap, sym, ◌∙◌, arith, length}
use Rattle.refusals.specs.Said.{written}
use Rattle.bare_net.proofs.Nets.{nodes-many, cells-many, bare-nodes, bare-edges, bare-cells}
use Rattle.bare_net.proofs.write_net.Goals as goal

pub returns-clause-counts : goal.returns-clause-counts
returns-clause-counts c =
    let b = c.of-leaves.result in
    let are = c.of-leaves.ensures.leaves in
    let n = c.number_places-node_count.ensures in
    let nodes = n.count ∙ nodes-many b _ are in
    let edges = c.write_edges-edge_count.ensures.count ∙ ap length (sym (bare-edges _ _ are n.numbers n.middles)) in
    let same = c.of-leaves.ensures.same_count in
    let long : c.leaf_count-l.result ≡ length b.entries.now = omega arith in
    let cells = long ∙ sym (cells-many b _ are) in
    λ i. record { nodes = nodes i; edges = edges i; cells = cells i }

pub returns-clause-nodes : goal.returns-clause-nodes
returns-clause-nodes c =
    c.write_nodes.ensures ∙ ap (λ ns. written ns c.args.nodes.now) (sym (bare-nodes c.of-leaves.result _ c.of-leaves.ensures.leaves))

pub returns-clause-edges : goal.returns-clause-edges
returns-clause-edges c =
    let n = c.number_places-node_count.ensures in
    c.write_edges-edge_count.ensures.row
    ∙ ap (λ es. written es c.args.edges.now) (sym (bare-edges _ _ c.of-leaves.ensures.leaves n.numbers n.middles))

pub returns-clause-cells : goal.returns-clause-cells
returns-clause-cells c =
    let n = c.number_places-node_count.ensures in
    c.write_cells.ensures
    ∙ ap (λ cs. written cs c.args.cells.now) (sym (bare-cells _ _ c.of-leaves.ensures.leaves n.numbers n.middles))
