-- The leaves and the nodes of one polygon among those of all. Assumes nothing.
use Rattle.std.proofs.Common.{◌≡◌, refl, sym, ap, subst, ◌∙◌, Bool, true, false, ◌&&◌, None, List, [], ◌∷◌, ◌++◌, ℕ, zero, suc, ◌+◌, ◌<◌, arith, eqb, ℤ, length, drop, length-append, length-drop, get_or-drop, if◌then◌else◌}
use Rattle.std.specs.Prelude.{flat_map}
use Rattle.std.proofs.lemmas.Bool.Decides.{nat_tests}
use Rattle.cell.specs.Boxes.{Box}
use Rattle.cell.specs.Cells.{box_of}
use Rattle.cell.proofs.Offsets.{off-le}
use Rattle.table.specs.Slots.{cell_at}
use Rattle.table.specs.Mesh.{Cell, at, past, is_none, table}
use Rattle.table.proofs.Cells.{length-table, at_table}
use Rattle.net.specs.Net.{weld, Poly, MeshNode, Piece, same_node, leaves_of, pieces, node_at, corners_at, corners_of, nodes_from, number, bare, weigh, network}
use Rattle.net.specs.Hang.{so_far}
use Rattle.net.proofs.Positions.{position-nil, position-no, position-left, position-right}
use Rattle.net.proofs.Weld.{welding}
use Rattle.net.proofs.All.{All, all-by, all-each, all-each-by, In, weld-more}
use Rattle.net.proofs.Pieces.{all_corners, nodes-weld}
use Rattle.net.proofs.Faces.{Within}
use Rattle.net.proofs.Leaves.{leaves_of-cons, all-from, all-pieces, polys-pieces, nodes-all, BoxWithin, nodes-within}
use Rattle.laws.specs.Made.{no_poly, poly_at, Apart, AllApart}
use Rattle.laws.proofs.Places.{top}

-- ---- the leaves of a polygon

module _ (P : Box → Type 0) (k : ℕ) where
  parts : (c : Cell) (cs : List Cell) (b : Bool) → All P (if b then c.box ∷ leaves_of cs k else leaves_of cs k) → (b ≡ true → P c.box) × All P (leaves_of cs k)
  unfolding All
  parts c cs true a = (λ e. a.0, a.1)
  parts c cs false a = (λ e. absurd (cc e), a)

  -- what holds of every leaf of a polygon holds of each
  pub leaf-in : (cs : List Cell) → All P (leaves_of cs k) → (i : ℕ) → i < length cs → (at cs i).kids ≡ None → (at cs i).polygon ≡ k → P (at cs i).box
  leaf-in [] a i h e f = absurd (omega arith)
  leaf-in (c ∷ cs) a zero h e f = (parts c cs (is_none c.kids && eqb c.polygon k) (subst (All P) (leaves_of-cons c cs k) a)).0 (grind (arith, nat_tests))
  leaf-in (c ∷ cs) a (suc i) h e f = leaf-in cs (parts c cs (is_none c.kids && eqb c.polygon k) (subst (All P) (leaves_of-cons c cs k) a)).1 i (omega arith) e f

-- ---- the pieces

pub pieces-polys : (Q : Poly → Type 0) (cs : List Cell) (ps : List Poly) (j : ℕ) → ((i : ℕ) → i < length ps → Q (poly_at ps i)) → All (λ (q : Piece). Q q.poly) (pieces cs ps j)
pieces-polys Q cs ps j h = polys-pieces Q cs ps j (all-from Q no_poly ps h)

pub pieces-leaves : (P : Box → Type 0) (cs : List Cell) (ps : List Poly) (j : ℕ) → ((i : ℕ) → i < length cs → P (at cs i).box) → All (λ (q : Piece). All P q.leaves) (pieces cs ps j)
pieces-leaves P cs ps j h = all-pieces P cs ps j (all-from (λ (c : Cell). P c.box) past cs h)

-- ---- the nodes

-- a node's layer and component are a polygon's
pub nodes-polys : (Q : ℕ → ℕ → Type 0) (qs : List Piece) → All (λ (q : Piece). Q q.poly.layer q.poly.component) qs → All (λ (m : MeshNode). Q m.layer m.component) (nodes_from [] qs)
unfolding corners_of
nodes-polys Q qs h =
    nodes-all (λ (m : MeshNode). Q m.layer m.component) qs
    (all-by (λ (q : Piece). Q q.poly.layer q.poly.component) (λ (q : Piece). All (λ (m : MeshNode). Q m.layer m.component) (flat_map (corners_at q.poly) q.leaves)) qs
    (λ q i. all-each (λ (m : MeshNode). Q m.layer m.component) (corners_at q.poly) q.leaves (λ r. unfold All in (i, (i, (i, (i, tt)))))) h)

-- a node is not of another polygon
other : (p q : Poly) (x y : ℕ) (m : MeshNode) → Apart p q → m.layer ≡ q.layer → m.component ≡ q.component → same_node m (node_at p x y) ≡ false
other p q x y m a e f =
    grind (arith, nat_tests, a)

others : (p : Poly) (x y : ℕ) (qs : List Piece) → All (λ (q : Piece). Apart p q.poly) qs → All (λ (m : MeshNode). same_node m (node_at p x y) ≡ false) (all_corners qs)
unfolding corners_of
others p x y qs h =
    all-each-by (λ (q : Piece). Apart p q.poly) (λ (m : MeshNode). same_node m (node_at p x y) ≡ false) (λ (q : Piece). flat_map (corners_at q.poly) q.leaves) qs
    (λ q a. all-each (λ (m : MeshNode). same_node m (node_at p x y) ≡ false) (corners_at q.poly) q.leaves (λ r. corners q r a)) h
  where
    corners : (q : Piece) (r : Box) → Apart p q.poly → All (λ (m : MeshNode). same_node m (node_at p x y) ≡ false) (corners_at q.poly r)
    corners q r a = unfold All in (other p q.poly x y _ a refl refl, (other p q.poly x y _ a refl refl, (other p q.poly x y _ a refl refl, (other p q.poly x y _ a refl refl, tt))))

-- what is welded behind a list and is not the same as x adds no x
weld-without : (x : MeshNode) (l xs : List MeshNode) → All (λ (a : MeshNode). same_node a x ≡ false) xs → In same_node (weld same_node l xs) x → In same_node l x
unfolding All
weld-without x l [] p h = grind (arith, welding)
weld-without x l (a ∷ xs) p h =
    grind (arith, welding, weld-without x l xs p.1, weld-without x (l ++ (a ∷ [])) xs p.1, position-right same_node l (a ∷ []) x, position-no same_node a [] x p.0, position-nil same_node x, length-append l (a ∷ []))

-- the nodes go on from those so far
pub nodes-append : (n : List MeshNode) (pre : List Piece) (q : Piece) (qs : List Piece) → nodes_from n (pre ++ (q ∷ qs)) ≡ nodes_from (weld same_node (nodes_from n pre) (corners_of q)) qs
unfolding nodes_from
nodes-append n [] q qs = refl
nodes-append n (p ∷ pre) q qs = nodes-append (weld same_node n (corners_of p)) pre q qs

-- the nodes so far have all nodes of a polygon that differs from those behind it, and under the same numbers
pub kept : (pre : List Piece) (q : Piece) (qs : List Piece) → All (λ (r : Piece). Apart q.poly r.poly) qs → (x y : ℕ)
    → In same_node (nodes_from [] (pre ++ (q ∷ qs))) (node_at q.poly x y)
    → In same_node (so_far pre q) (node_at q.poly x y) × (number (nodes_from [] (pre ++ (q ∷ qs))) (node_at q.poly x y) ≡ number (so_far pre q) (node_at q.poly x y))
kept pre q qs h x y i =
    let m = node_at q.poly x y in
    let all-nodes = nodes-append [] pre q qs ∙ nodes-weld (so_far pre q) qs in
    let before = weld-without m (so_far pre q) (all_corners qs) (others q.poly x y qs h) (subst (λ (z : List MeshNode). In same_node z m) all-nodes i) in
    let more = weld-more same_node (so_far pre q) (all_corners qs) in
    (before, ap (λ (z : List MeshNode). number z m) (all-nodes ∙ more.1) ∙ position-left same_node (so_far pre q) more.0 m before)

-- the polygons behind the polygon k differ from it
pub behind : (cs : List Cell) (ps : List Poly) (j k : ℕ) → AllApart ps → k < length ps → All (λ (q : Piece). Apart (poly_at ps k) q.poly) (pieces cs (drop (suc k) ps) j)
behind cs ps j k a h =
    pieces-polys (Apart (poly_at ps k)) cs (drop (suc k) ps) j
    (λ i l. subst (Apart (poly_at ps k)) (sym (get_or-drop (suc k) ps i _)) (a k (suc k + i) no_poly (omega arith) (omega (arith, length-drop (suc k) ps))))

-- ---- the net of a row

pub nodes-are : (cs : List Cell) (ps : List Poly) → (network cs ps).nodes ≡ nodes_from [] (pieces cs ps 0)
unfolding network weigh bare
nodes-are cs ps = refl

-- the coordinates of a cell, and so those of the nodes
pub cell-within : (t : List ℤ) (i : ℕ) → BoxWithin top (box_of (cell_at t i))
unfolding cell_at
cell-within t i = (off-le _, off-le _, off-le _, off-le _)

pub low : (t : List ℤ) (n : ℕ) (ps : List Poly) → All (Within top) (network (table t n) ps).nodes
low t n ps =
    subst (All (Within top)) (sym (nodes-are (table t n) ps))
    (nodes-within top (pieces (table t n) ps 0)
    (pieces-leaves (BoxWithin top) (table t n) ps 0 (λ i h. subst (λ (c : Cell). BoxWithin top c.box) (sym (at_table t n i (rw length-table at h))) (cell-within t i))))
