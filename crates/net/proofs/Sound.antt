-- What every net is: its numbers are below the node count, its cells are rectangles, and it has at most 4 nodes, 8 edges and 1 cell a leaf.
-- Assumes nothing.
use Rattle.std.proofs.lemmas.Bool.Decides.{nat_tests}
use lib.Ieee.{Float}
use Rattle.std.proofs.Common.{◌≡◌, refl, sym, ap, ◌∙◌, subst, Bool, true, cond, ◌&&◌, List, [], ◌∷◌, ◌++◌, map, ℕ, suc, ◌+◌, ◌*◌, ◌≤◌, mul-suc, arith, leb, eqb, length, length-append}
use Rattle.std.specs.Prelude.{flat_map, sum_by}
use Rattle.std.proofs.lemmas.List.Sums.{sum_by-cons}
use lib.ListN.{length-map, get_or-append}
use Rattle.cell.specs.Boxes.{Box, HasArea}
use Rattle.table.specs.Mesh.{Cell, is_none, leaf_count}
use Rattle.table.proofs.Counting.{leaf_count-cons}
use Rattle.net.specs.Net.{weld, Poly, MeshNode, Edge, Piece, same_node, same_pair, sw_of, se_of, ne_of, nw_of, corners_at, corners_of, nodes_from, number, nth, nowhere, patch_at, side_of, sides_at, edges_of, edges_from, patches_from, leaves_of, pieces, Cornered, Ends}
use Rattle.net.proofs.Positions.{has-at, position-hit}
use Rattle.net.proofs.Leaves.{leaves_of-cons}
use Rattle.net.proofs.Pieces.{all_corners, nodes-weld}
use Rattle.net.proofs.All.{All, all_append, all-by, all_nil, all_cons, all-weld, all-each-by, all-map-by, all-each-back, all_both, weld-length, weld-more, In, weld-has}

-- ---- nodes

pub node-self : (m : MeshNode) → same_node m m ≡ true
node-self m = grind (arith, nat_tests)

pub node-is : (m n : MeshNode) → same_node m n ≡ true → m ≡ n
node-is m n e = grind (arith, nat_tests)

-- a node that is there, and its number, as the nodes go on
pub number_at : (n more : List MeshNode) (m : MeshNode) → In same_node n m → nth (n ++ more) (number n m) ≡ m
number_at n more m h = grind (arith, get_or-append n more nowhere (number n m) h, node-is (nth n (number n m)) m, position-hit same_node n m nowhere h)

-- how the nodes go on
pub nodes-more : (n : List MeshNode) (qs : List Piece) → (more : List MeshNode) × (nodes_from n qs ≡ n ++ more)
nodes-more n qs = let r = weld-more same_node n (all_corners qs) in (r.0, nodes-weld n qs ∙ r.1)

-- the corners of a piece's leaves are there once it is added
pub piece-in : (n : List MeshNode) (q : Piece) → All (λ (r : Box). All (In same_node (weld same_node n (corners_of q))) (corners_at q.poly r)) q.leaves
unfolding corners_of
piece-in n q =
    all-each-back (In same_node (weld same_node n (flat_map (corners_at q.poly) q.leaves))) (corners_at q.poly) q.leaves
    (weld-has same_node node-self n (flat_map (corners_at q.poly) q.leaves))

-- ---- the ends of edges

side-ends : (n : List MeshNode) (a m b : MeshNode) (r : Float) → In same_node n a → In same_node n b → All (Ends (length n)) (side_of n a m b r)
unfolding All
side-ends n a m b r p q = grind (arith, has-at same_node n m, all_nil (Ends (length n)), all_cons (Ends (length n)))

leaf-ends : (n : List MeshNode) (p : Poly) (r : Box) → All (In same_node n) (corners_at p r) → All (Ends (length n)) (sides_at n p r)
unfolding All sides_at
leaf-ends n p r h = grind (arith, h.0, h.1.0, h.1.1.0, h.1.1.1.0, all_append (Ends (length n)), side-ends n)

piece-ends : (n : List MeshNode) (q : Piece) → All (Ends (length (weld same_node n (corners_of q)))) (edges_of (weld same_node n (corners_of q)) q)
unfolding edges_of
piece-ends n q =
    let m = weld same_node n (corners_of q) in
    all-weld (Ends (length m)) same_pair [] (flat_map (sides_at m q.poly) q.leaves) (all_nil (Ends (length m)))
    (all-each-by _ (Ends (length m)) (sides_at m q.poly) q.leaves (λ r h. leaf-ends m q.poly r h) (piece-in n q))

pub edges-ends : (n : List MeshNode) (qs : List Piece) → All (Ends (length (nodes_from n qs))) (edges_from n qs)
unfolding edges_from nodes_from
edges-ends n [] = all_nil (Ends (length n))
edges-ends n (q ∷ qs) =
    let m = weld same_node n (corners_of q) in
    let r = nodes-more m qs in
    let l = ap length r.1 ∙ length-append m r.0 in
    all_append (Ends (length (nodes_from m qs))) (edges_of m q) (edges_from m qs)
    (all-by (Ends (length m)) (Ends (length (nodes_from m qs))) (edges_of m q) (λ e h. grind arith) (piece-ends n q)) (edges-ends m qs)

-- ---- the corners of cells

patch-cornered : (n more : List MeshNode) (p : Poly) (r : Box) → HasArea r → All (In same_node n) (corners_at p r) → Cornered (n ++ more) (patch_at n p r)
unfolding All
patch-cornered n more p r s h = grind (arith, length-append n more, h.0, h.1.0, h.1.1.0, h.1.1.1.0, number_at n more (sw_of p r), number_at n more (se_of p r), number_at n more (ne_of p r), number_at n more (nw_of p r))

pub patches-cornered : (n : List MeshNode) (qs : List Piece) → All (λ (q : Piece). All HasArea q.leaves) qs → All (Cornered (nodes_from n qs)) (patches_from n qs)
unfolding All patches_from nodes_from
patches-cornered n [] h = tt
patches-cornered n (q ∷ qs) h =
    let m = weld same_node n (corners_of q) in
    let r = nodes-more m qs in
    let C : Box → Type 0 = λ (b : Box). All (In same_node m) (corners_at q.poly b) in
    all_append (Cornered (nodes_from m qs)) (map (patch_at m q.poly) q.leaves) (patches_from m qs)
    (subst (λ (z : List MeshNode). All (Cornered z) (map (patch_at m q.poly) q.leaves)) (sym r.1)
    (all-map-by (λ (b : Box). HasArea b × C b) (Cornered (m ++ r.0)) (patch_at m q.poly) q.leaves
    (λ b t. patch-cornered m r.0 q.poly b t.0 t.1) (all_both HasArea C q.leaves h.0 (piece-in n q))))
    (patches-cornered m qs h.1)

-- ---- counts

-- how many leaves the pieces have
unfoldable pub leaf_sum : List Piece → ℕ
leaf_sum qs = sum_by (λ q. length q.leaves) qs

leaf_sum-nil : leaf_sum [] ≡ 0
unfolding leaf_sum
leaf_sum-nil = refl

leaf_sum-cons : (q : Piece) (qs : List Piece) → leaf_sum (q ∷ qs) ≡ length q.leaves + leaf_sum qs
unfolding leaf_sum
leaf_sum-cons q qs = sum_by-cons (λ (q : Piece). length q.leaves) q qs

length-each : {A B : Type 0} (f : A → List B) (k : ℕ) (l : List A) → ((a : A) → length (f a) ≤ k) → length (flat_map f l) ≤ k * length l
length-each f k [] h = omega arith
length-each f k (a ∷ l) h = omega (arith, length-append (f a) (flat_map f l), h a, length-each f k l h, mul-suc k (length l))

side-length : (n : List MeshNode) (a m b : MeshNode) (r : Float) → length (side_of n a m b r) ≤ 2
side-length n a m b r = grind arith

leaf-length : (n : List MeshNode) (p : Poly) (r : Box) → length (sides_at n p r) ≤ 8
unfolding sides_at
leaf-length n p r = grind (arith, length-append {A = Edge}, side-length n)

corners-length : (q : Piece) → length (corners_of q) ≤ 4 * length q.leaves
unfolding corners_of
corners-length q = length-each (corners_at q.poly) 4 q.leaves (λ r. omega arith)

pub nodes-count : (n : List MeshNode) (qs : List Piece) → length (nodes_from n qs) ≤ length n + 4 * leaf_sum qs
unfolding nodes_from
nodes-count n [] = omega (arith, leaf_sum-nil)
nodes-count n (q ∷ qs) = omega (arith, leaf_sum-cons q qs, nodes-count (weld same_node n (corners_of q)) qs, weld-length same_node n (corners_of q), corners-length q)

pub edges-count : (n : List MeshNode) (qs : List Piece) → length (edges_from n qs) ≤ 8 * leaf_sum qs
unfolding edges_from edges_of
edges-count n [] = omega (arith, leaf_sum-nil)
edges-count n (q ∷ qs) =
    let m = weld same_node n (corners_of q) in
    let parts = flat_map (sides_at m q.poly) q.leaves in
    omega (arith, leaf_sum-cons q qs, edges-count m qs, length-append (weld same_pair [] parts) (edges_from m qs), weld-length same_pair [] parts, length-each (sides_at m q.poly) 8 q.leaves (leaf-length m q.poly))

pub patches-count : (n : List MeshNode) (qs : List Piece) → length (patches_from n qs) ≡ leaf_sum qs
unfolding patches_from
patches-count n [] = sym leaf_sum-nil
patches-count n (q ∷ qs) =
    let m = weld same_node n (corners_of q) in
    omega (arith, leaf_sum-cons q qs, patches-count m qs, length-append (map (patch_at m q.poly) q.leaves) (patches_from m qs), length-map q.leaves (patch_at m q.poly))

leaves-length : (c : Cell) (t : List Cell) (k : ℕ) → length (leaves_of (c ∷ t) k) ≡ cond (is_none c.kids && eqb c.polygon k) 1 0 + length (leaves_of t k)
leaves-length c t k = grind (arith, leaves_of-cons c t k)

-- a leaf is in at most one piece
once-only : (n : Bool) (p k : ℕ) → cond (n && eqb p k) 1 0 + cond (n && leb (suc k) p) 1 0 ≤ cond (n && leb k p) 1 0
once-only n p k = grind (arith, nat_tests)

no-leaves : (ps : List Poly) (k : ℕ) → leaf_sum (pieces [] ps k) ≡ 0
unfolding pieces leaves_of
no-leaves [] k = leaf_sum-nil
no-leaves (p ∷ ps) k = omega (arith, leaf_sum-cons (record { poly = p; leaves = [] }) (pieces [] ps (suc k)), no-leaves ps (suc k))

leaf-once : (c : Cell) (t : List Cell) (ps : List Poly) (k : ℕ) → leaf_sum (pieces (c ∷ t) ps k) ≤ cond (is_none c.kids && leb k c.polygon) 1 0 + leaf_sum (pieces t ps k)
unfolding pieces
leaf-once c t [] k = omega (arith, leaf_sum-nil)
leaf-once c t (p ∷ ps) k =
    omega (arith, leaf_sum-cons (record { poly = p; leaves = leaves_of (c ∷ t) k }) (pieces (c ∷ t) ps (suc k)), leaf_sum-cons (record { poly = p; leaves = leaves_of t k }) (pieces t ps (suc k)), leaves-length c t k, leaf-once c t ps (suc k), once-only (is_none c.kids) c.polygon k)

pub leaves-count : (t : List Cell) (ps : List Poly) (k : ℕ) → leaf_sum (pieces t ps k) ≤ leaf_count t
leaves-count [] ps k = omega (arith, no-leaves ps k)
leaves-count (c ∷ t) ps k = grind (arith, leaf_count-cons c t, leaf-once c t ps k, leaves-count t ps k)
