-- The net of a table with its links, before the weights: how large it is, and what the weights ask of it. Assumes nothing.
use Rattle.std.proofs.Common.{◌≡◌, refl, sym, ap, ◌∙◌, None, List, [], ◌∷◌, ◌++◌, map, take, drop, replicate, ℕ, ◌*◌, ◌≤◌, arith, ℤ, length}
use Rattle.std.specs.Prelude.{All}
use lib.ListN.{length-map}
use Rattle.refusals.specs.Limits.{max_slots}
use Rattle.refusals.specs.Said.{accepted}
use Rattle.cell.specs.Boxes.{Box, HasArea}
use Rattle.table.specs.declared.Head.{Head}
use Rattle.table.specs.Mesh.{Cell, at, is_none, leaf_count}
use Rattle.table.specs.Rows.{IsTable, cells_in, leaves_in}
use Rattle.table.proofs.Shape.{formed-parts, formed-shape}
use Rattle.table.proofs.Listed.{leaves-listed}
use Rattle.table.proofs.Tables.{few_pass}
use Rattle.net_rows.specs.declared.rows.Edge.{Edge}
use Rattle.net_rows.specs.Nodes.{in_mesh, in_ticks}
use Rattle.refusals.specs.Said.{written}
use Rattle.net_rows.specs.declared.rows.Node.{Node}
use Rattle.net_rows.specs.declared.rows.NetCell.{NetCell}
use Rattle.net_rows.specs.Facts.{AreKnown, IsSoundNode}
use Rattle.net.specs.Net as Net
use Rattle.net.specs.Net.{Poly, Piece, MeshNode, pieces, bare, weigh, weighed, Ends, Cornered}
use Rattle.net.specs.Laws.{IsWithin, widest}
use Rattle.net.proofs.All as Each
use Rattle.net.proofs.Faces.{Within}
use Rattle.net.proofs.Leaves.{all-of, leaves-pieces, BoxWithin, nodes-within}
use Rattle.net.proofs.Sound.{patches-cornered, nodes-count, edges-count, patches-count, leaves-count}
use Rattle.places.proofs.Within.{cells_are_within}
use Rattle.links.specs.declared.rows.Links.{Links}
use Rattle.links.specs.Made.{linked, links_of, links_on}
use Rattle.links.specs.Rows.{lists_by}
use Rattle.links.proofs.Ends.{linked-ends}
use Rattle.links.proofs.Rowed.{nodes-sound}
use Rattle.network.specs.Says.{Rows, rows, counted, filled}
use Rattle.network.proofs.Rows.{take-written, write-again, mesh-ticks}

-- the rows begin with the nodes and the cells of the net, so many of them, and keep what they held behind them
pub record Begin (net : Net.Net) (old new : Rows) (nodes cells : ℕ) : Type 0 where
  pub nodes-are : new.nodes ≡ written (map in_ticks net.nodes) old.nodes
  pub cells-are : new.cells ≡ written net.cells old.cells
  pub node-count : nodes ≡ length net.nodes
  pub cell-count : cells ≡ length net.cells

-- ---- the leaves

module _ (row : List ℤ) (head : Head) (formed : IsTable row head) where
  pub leaf_count-leaves : leaf_count (cells_in row head) ≡ length (leaves_in row head)
  leaf_count-leaves = sym (formed-parts row head formed).leaves ∙ leaves-listed row head formed

  pub leaves-few : length (leaves_in row head) ≤ max_slots
  leaves-few =
      let s = formed-shape row head formed in
      omega (arith, few_pass (λ i. is_none (at (cells_in row head) i).kids) 0 head.count, s.slots, s.count)

  -- ---- the net

  module _ (ps : List Poly) (l : Links) where
    abbrev pub qs : List Piece
    qs = pieces (cells_in row head) ps 0

    abbrev pub net : Net.Net
    net = linked qs l

    of-leaves : (P : Box → Type 0) → ((r : Box) → IsWithin widest r → P r) → Each.All (λ (q : Piece). Each.All P q.leaves) qs
    of-leaves P f =
        Each.all-by (λ (q : Piece). Each.All (IsWithin widest) q.leaves) (λ (q : Piece). Each.All P q.leaves) qs
        (λ q a. Each.all-by (IsWithin widest) P q.leaves f a)
        (leaves-pieces (IsWithin widest) (cells_in row head) ps 0 (all-of (λ (c : Cell). c.kids ≡ None → IsWithin widest c.box) (cells_in row head) (cells_are_within row head formed)))

    cells-few : length net.cells ≤ length (leaves_in row head)
    unfolding bare linked
    cells-few = omega (arith, patches-count [] qs, leaves-count (cells_in row head) ps 0, leaf_count-leaves)

    nodes-few : length net.nodes ≤ 4 * length net.cells
    unfolding bare linked
    nodes-few = omega (arith, nodes-count [] qs, patches-count [] qs)

    ends : All (Ends (length net.nodes)) net.edges
    ends k d h = Each.all-at (Ends (length net.nodes)) d net.edges k (linked-ends qs l) h

    corners : All (λ c. AreKnown (length net.nodes) c.corners) net.cells
    unfolding bare linked
    corners k d h =
        (let x = Each.all-at (Cornered net.nodes) d net.cells k (patches-cornered [] qs (of-leaves HasArea (λ r w. w.area))) h in
        record { southwest = x.sw-in; southeast = x.se-in; northeast = x.ne-in; northwest = x.nw-in })

    nodes-low : Each.All (Within widest) net.nodes
    unfolding bare linked
    nodes-low = nodes-within widest qs (of-leaves (BoxWithin widest) (λ r w. (let x = w.area.0 in let y = w.area.1 in let e = w.east in let n = w.north in (omega arith, omega arith, e, n))))

    -- the mesh edges and the links, and how many rows they ask
    pub edges-are : net.edges ≡ (bare qs).edges ++ links_on qs l
    unfolding linked
    edges-are = refl

    pub edges-few : length (bare qs).edges ≤ 8 * length (leaves_in row head)
    unfolding bare
    edges-few = omega (arith, edges-count [] qs, leaves-count (cells_in row head) ps 0, leaf_count-leaves)

    pub begins : {old new : Rows} {n m : ℕ} → new.nodes ≡ written (map in_ticks (bare qs).nodes) old.nodes → new.cells ≡ written (bare qs).cells old.cells
        → n ≡ length (bare qs).nodes → m ≡ length (bare qs).cells → Begin net old new n m
    unfolding linked
    begins a b c d = record { nodes-are = a; cells-are = b; node-count = c; cell-count = d }

    module _ {old new : Rows} {n m : ℕ} (B : Begin net old new n m) where
      pub nodes-front : take n new.nodes ≡ map in_ticks net.nodes
      nodes-front = take-written (map in_ticks net.nodes) old.nodes new.nodes n B.nodes-are (B.node-count ∙ sym (length-map net.nodes in_ticks))

      pub cells-front : take m new.cells ≡ net.cells
      cells-front = take-written net.cells old.cells new.cells m B.cells-are B.cell-count

      nodes-long : length (take n new.nodes) ≡ length net.nodes
      nodes-long = ap length nodes-front ∙ length-map net.nodes in_ticks

      -- what the weights ask
      pub few_cells : length (take m new.cells) ≤ max_slots
      few_cells = omega (arith, ap length cells-front, cells-few, leaves-few)

      pub few_nodes : length (take n new.nodes) ≤ 4 * length (take m new.cells)
      few_nodes = omega (arith, ap length cells-front, nodes-long, nodes-few)

      pub corners_known : All (λ c. AreKnown (length (take n new.nodes)) c.corners) (take m new.cells)
      corners_known = rw (nodes-long, cells-front) corners

      pub cells-room : length (take m new.cells) ≤ length (leaves_in row head)
      cells-room = omega (arith, ap length cells-front, cells-few)

      -- what the links ask
      pub nodes-room : length (take n new.nodes) ≤ 4 * length (leaves_in row head)
      nodes-room = omega (arith, few_nodes, cells-room)

      pub a_cell_each : {count : ℕ} → length (bare qs).cells ≡ count → length (take m new.cells) ≡ count
      unfolding linked
      a_cell_each e = ap length cells-front ∙ e

      -- the links by the rows
      pub here : links_of (map in_ticks (bare qs).nodes) (lists_by row head.count (bare qs).cells) l ≡ links_on qs l
          → links_of (take n new.nodes) (lists_by row head.count (take m new.cells)) l ≡ links_on qs l
      unfolding linked
      here same =
          ap (λ (ns : List Node). links_of ns (lists_by row head.count (take m new.cells)) l) nodes-front
          ∙ ap (λ (cs : List NetCell). links_of (map in_ticks (bare qs).nodes) (lists_by row head.count cs) l) cells-front
          ∙ same

      pub sound : All IsSoundNode (take n new.nodes)
      sound = rw nodes-front (nodes-sound net.nodes)

      -- and once the edges stand in the row, links behind them, so many in all
      module _ {edges : List Edge} {k : ℕ} (are : edges ≡ written net.edges old.edges) (count : k ≡ length net.edges) where
        edges-front : take k edges ≡ net.edges
        edges-front = take-written net.edges old.edges edges k are count

        pub ends_known : All (Ends (length (take n new.nodes))) (take k edges)
        ends_known = rw (nodes-long, edges-front) ends

        -- the rows hold the net, once its edges are weighed
        pub whole : {weights : List Edge} {work : List ℕ}
            → weights ≡ map (weighed (map in_mesh (take n new.nodes)) (take m new.cells)) (take k edges)
            → work ≡ replicate (length old.work) 0
            → rows new.nodes (weights ++ drop k edges) new.cells work ≡ filled (weigh net) old
        unfolding weigh
        whole {weights} G W =
            λ i. record { nodes = B.nodes-are i; edges = (ap (λ (l : List Edge). l ++ drop k edges) front ∙ again) i; cells = B.cells-are i; work = W i }
          where
            after : List Edge
            after = map (weighed net.nodes net.cells) net.edges

            front : weights ≡ after
            front =
                G
                ∙ rw (nodes-front, cells-front, edges-front)
                (ap (λ (ns : List MeshNode). map (weighed ns net.cells) net.edges) (mesh-ticks net.nodes nodes-low))

            again : after ++ drop k edges ≡ written after old.edges
            again = write-again net.edges after old.edges edges k are count (length-map net.edges (weighed net.nodes net.cells))

    -- ---- what is answered

    pub size-said : accepted (length net.nodes ∷ length net.edges ∷ length net.cells ∷ length (links_on qs l) ∷ [])
        ≡ counted (weigh net) (length (links_on qs l))
    unfolding weigh
    size-said =
        ap (λ (e : ℕ). accepted (length net.nodes ∷ e ∷ length net.cells ∷ length (links_on qs l) ∷ []))
        (sym (length-map net.edges (weighed net.nodes net.cells)))
