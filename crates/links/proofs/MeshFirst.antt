-- Links come behind the mesh edges, and with none the net is the mesh's. Assumes nothing.
use Rattle.std.proofs.Common.{◌≡◌, refl, ap, ◌∙◌, List, [], ◌++◌, map, append-nil, ℕ}
use Rattle.std.proofs.lemmas.List.{map-append}
use Rattle.std.proofs.Math.Seq.{take-append_seam}
use Rattle.net_rows.specs.declared.rows.Node.{Node}
use Rattle.net.specs.Net.{Edge, pieces, weighed, bare, weigh, network}
use Rattle.links.specs.declared.rows.Links.{Links}
use Rattle.links.specs.Made.{links_of, links_on, linked, linked_network}
use Rattle.links.specs.Laws.{NoLinksNoChange, NodesStay, CellsStay, MeshEdgesComeFirst}

none-made : (nodes : List Node) (lists : List (List ℕ)) (l : Links) → l.contacts.now ≡ [] → l.vias.now ≡ [] → l.channels.now ≡ [] → links_of nodes lists l ≡ []
unfolding links_of
none-made nodes lists l c v h = rw (c, v, h)

pub no-links : NoLinksNoChange
unfolding linked_network network linked
no-links t ps l c v h =
    let b = bare (pieces t ps 0) in
    let none = none-made _ _ l c v h in
    ap (λ (es : List Edge). weigh (record { nodes = b.nodes; cells = b.cells; edges = b.edges ++ es })) none
    ∙ ap (λ (es : List Edge). weigh (record { nodes = b.nodes; cells = b.cells; edges = es })) (append-nil b.edges)

pub same-nodes : NodesStay
unfolding linked_network network linked weigh
same-nodes t ps l = refl

pub same-cells : CellsStay
unfolding linked_network network linked weigh
same-cells t ps l = refl

pub mesh-first : MeshEdgesComeFirst
unfolding linked_network network linked weigh
mesh-first t ps l =
    let b = bare (pieces t ps 0) in
    let w = weighed b.nodes b.cells in
    rw (map-append w b.edges (links_on (pieces t ps 0) l)) (take-append_seam (map w b.edges) (map w (links_on (pieces t ps 0) l)))

pub ruleset behind = (no-links, same-nodes, same-cells, mesh-first)
