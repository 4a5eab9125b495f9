-- The net's laws: what every net is. Assumes nothing.
use Rattle.std.proofs.Common.{◌≡◌, T, None, List, [], ℕ, ◌*◌, ◌^◌, ◌≤◌, ◌<◌, arith, length}
use lib.ListN.{length-map}
use Rattle.table.specs.Mesh.{Cell, leaf_count}
use Rattle.net.specs.Net.{Poly, Edge, Piece, pieces, nodes_from, edges_from, patches_from, nowhere, Cornered, Ends, weighed, bare, weigh, network}
use Rattle.net.specs.Hang.{so_far, HalvedSides}
use Rattle.net.specs.Laws.{AllLeaves, IsWithin, widest, IsPositive, NodesAreDistinct, EdgesJoinNodes, CellsAreRectangles, NoHalfHangs, EdgesConduct, NoConductanceIsNegative}
use Rattle.net.proofs.All.{All, all-map-by, all-by, all-at}
use Rattle.net.proofs.Sound.{edges-ends, patches-cornered, nodes-count, edges-count, patches-count, leaves-count}
use Rattle.net.proofs.Faces.{Within}
use Rattle.net.proofs.Leaves.{all-of, leaves-pieces, polys-pieces, BoxWithin, nodes-within}
use Rattle.net.proofs.Conductances.{Sized, is-positive, all-nonneg, all-positive}
use Rattle.net.proofs.Distinct.{no-duplicates}
use Rattle.net.proofs.Hang.{no-half-hangs}
use Rattle.floats.specs.Fractions.{in_sheet, nonneg}
use lib.Ieee.Positive.{positive}
use Rattle.cell.specs.Boxes.{Box, HasArea}
use Rattle.std.specs.List.{slice_index_or}
use Rattle.std.proofs.lemmas.List.{get_or_default}

module _ (t : List Cell) (ps : List Poly) where
  abbrev qs : List Piece
  qs = pieces t ps 0

  -- 4 nodes, 8 edges, 1 cell a leaf at most
  pub node-room : length (network t ps).nodes ≤ 4 * leaf_count t
  unfolding network weigh bare
  node-room = omega (arith, nodes-count [] qs, leaves-count t ps 0)

  pub edge-room : length (network t ps).edges ≤ 8 * leaf_count t
  unfolding network weigh bare
  edge-room = omega (arith, length-map (edges_from [] qs) (weighed (nodes_from [] qs) (patches_from [] qs)), edges-count [] qs, leaves-count t ps 0)

  pub cell-room : length (network t ps).cells ≤ leaf_count t
  unfolding network weigh bare
  cell-room = omega (arith, patches-count [] qs, leaves-count t ps 0)

  -- the ends of edges are nodes
  pub ends : All (Ends (length (network t ps).nodes)) (network t ps).edges
  unfolding network weigh bare weighed
  ends =
      all-map-by (Ends (length (nodes_from [] qs))) (Ends (length (nodes_from [] qs))) (weighed (nodes_from [] qs) (patches_from [] qs)) (edges_from [] qs)
      (λ e h. record { from = h.from; to = h.to }) (edges-ends [] qs)

  -- cells are rectangles
  pub cells : All (λ (q : Piece). All HasArea q.leaves) qs → All (Cornered (network t ps).nodes) (network t ps).cells
  unfolding network weigh bare
  cells h = patches-cornered [] qs h

  -- of a table whose leaves lie within a number
  module _ (most : ℕ) (h : AllLeaves (IsWithin most) t) where
    leaves : All (λ (q : Piece). All (IsWithin most) q.leaves) qs
    leaves = leaves-pieces (IsWithin most) t ps 0 (all-of (λ (c : Cell). c.kids ≡ None → IsWithin most c.box) t h)

    of-leaves : (P : Box → Type 0) → ((r : Box) → IsWithin most r → P r) → All (λ (q : Piece). All P q.leaves) qs
    of-leaves P f = all-by (λ (q : Piece). All (IsWithin most) q.leaves) (λ (q : Piece). All P q.leaves) qs (λ q a. all-by (IsWithin most) P q.leaves f a) leaves

    low : All (Within most) (nodes_from [] qs)
    low = nodes-within most qs (of-leaves (BoxWithin most) (λ r w. (omega arith, omega arith, w.east, w.north)))

    -- no conductance is a NaN, and none is negative
    pub proper : most < 2 ^ 52 → All (λ (p : Poly). T (positive p.sheet)) ps → All (λ (e : Edge). T (nonneg e.conductance)) (network t ps).edges
    unfolding network weigh bare
    proper m s =
        all-nonneg most (nodes_from [] qs) qs m low (polys-pieces (λ (p : Poly). T (positive p.sheet)) t ps 0 s)
        (of-leaves (Sized (2 ^ 53)) (λ r w. ((omega arith, omega arith), (omega arith, omega arith))))

  -- each is finite and above 0, in the rules' ranges
  pub conducts : AllLeaves (IsWithin widest) t → All (λ (p : Poly). T (in_sheet p.sheet)) ps → All (λ (e : Edge). IsPositive e.conductance) (network t ps).edges
  unfolding network weigh bare
  conducts h s =
      all-positive (nodes_from [] qs) qs (low widest h) (patches-cornered [] qs (of-leaves widest h HasArea (λ r w. w.area)))
      (polys-pieces (λ (p : Poly). T (in_sheet p.sheet)) t ps 0 s)
      (of-leaves widest h (Sized widest) (λ r w. ((omega arith, omega arith), (omega arith, omega arith))))

pub ruleset room = (node-room, edge-room, cell-room)

-- ---- the laws that src/laws.rt promises

pub nodes-distinct : NodesAreDistinct
nodes-distinct t ps i j d h l e =
    let n = (network t ps).nodes in
    grind (arith, no-duplicates t ps i, no-duplicates t ps j, get_or_default n i nowhere d, get_or_default n j nowhere d)

pub edges-join : EdgesJoinNodes
edges-join t ps k d h = all-at (Ends (length (network t ps).nodes)) d (network t ps).edges k (ends t ps) h

pub cells-rectangles : CellsAreRectangles
cells-rectangles t ps h k d l =
    all-at (Cornered (network t ps).nodes) d (network t ps).cells k
    (cells t ps (leaves-pieces HasArea t ps 0 (all-of (λ (c : Cell). c.kids ≡ None → HasArea c.box) t h))) l

pub ruleset sound = (nodes-distinct, edges-join, cells-rectangles)

pub halves-hang-not : NoHalfHangs
halves-hang-not t ps before q behind e k d l =
    all-at (HalvedSides (so_far before q) (network t ps).edges q.poly) d q.leaves k (no-half-hangs t ps before q behind e) l

pub edges-conduct : EdgesConduct
edges-conduct t ps h s k d l =
    all-at (λ (e : Edge). IsPositive e.conductance) d (network t ps).edges k
    (conducts t ps h (all-of (λ (p : Poly). T (in_sheet p.sheet)) ps (λ i p q. grind (arith, s i p q)))) l

pub none-negative : NoConductanceIsNegative
none-negative most t ps m h s k d l =
    grind (
      arith,
      all-at (λ (e : Edge). T (nonneg e.conductance)) d (network t ps).edges k
          (proper t ps most h m (all-of (λ (p : Poly). T (positive p.sheet)) ps (λ i p q. is-positive (slice_index_or ps i p).sheet (s i p q)))) l,
    )
