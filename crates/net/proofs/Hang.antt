-- Where a node made so far stands at the middle of a leaf's side, both halves are edges of the net: for any table and any polygons.
-- Assumes nothing.
use lib.Ieee.{Float}
use Rattle.std.proofs.Common.{◌≡◌, refl, sym, ap, subst, true, List, [], ◌∷◌, ◌++◌, map, arith, length-append, eq-eqb}
use Rattle.std.specs.Prelude.{flat_map}
use lib.ListN.{length-map, get_or-map}
use Rattle.cell.specs.Boxes.{Box}
use Rattle.table.specs.Mesh.{Cell}
use Rattle.net.specs.Net.{weld, Poly, MeshNode, Edge, NetCell, Piece, same_node, same_pair, pieces, corners_of, nodes_from, edges_of, edges_from, join, side_of, sides_at, One, Half, ◌·◌, ◌÷◌, weighed, bare, weigh, network}
use Rattle.net.specs.Hang.{so_far, Joined, Halved, HalvedSides}
use Rattle.net.proofs.Positions.{position-right, position-same}
use Rattle.net.proofs.All.{All, all-by, all_left, all_right, all-each-back, In, in-more, weld-has}

pair-self : (e : Edge) → same_pair e e ≡ true
pair-self e = rw (eq-eqb e.from e.from refl, eq-eqb e.to e.to refl)

in_right : (a b : List Edge) (x : Edge) → In same_pair b x → In same_pair (a ++ b) x
in_right a b x h = grind (arith, length-append a b, in-more same_pair a b x, position-right same_pair a b x)

-- the conductance plays no part
pub any-g : (n : List MeshNode) (es : List Edge) (a b : MeshNode) (g : Float) → In same_pair es (join n a b g) → Joined n es a b
any-g n es a b g h k = let e = position-same same_pair same_pair es es (join n a b g) (join n a b g) (join n a b k) (join n a b g) refl (λ i p. refl) in omega arith

-- a side whose parts are all there
side-halved : (n : List MeshNode) (es : List Edge) (a m b : MeshNode) (r : Float) → All (In same_pair es) (side_of n a m b r) → Halved n es a m b
side-halved n es a m b r h t = let s = rw (t, side_of) at h in unfold All in (any-g n es a m (One ÷ (r · Half)) s.0, any-g n es m b (One ÷ (r · Half)) s.1.0)

leaf-halved : (n : List MeshNode) (es : List Edge) (p : Poly) (r : Box) → All (In same_pair es) (sides_at n p r) → HalvedSides n es p r
unfolding sides_at
leaf-halved n es p r h =
    let x = all_right (In same_pair es) _ _ h in
    let y = all_right (In same_pair es) _ _ x in
    record {
      south = side-halved n es _ _ _ _ (all_left (In same_pair es) _ _ h);
      north = side-halved n es _ _ _ _ (all_left (In same_pair es) _ _ x);
      west = side-halved n es _ _ _ _ (all_left (In same_pair es) _ _ y);
      east = side-halved n es _ _ _ _ (all_right (In same_pair es) _ _ y);
    }

-- the edges of one polygon are edges of all
edges-append : (n : List MeshNode) (pre : List Piece) (q : Piece) (qs : List Piece) (x : Edge)
    → In same_pair (edges_of (weld same_node (nodes_from n pre) (corners_of q)) q) x → In same_pair (edges_from n (pre ++ (q ∷ qs))) x
unfolding edges_from nodes_from
edges-append n [] q qs x h = in-more same_pair (edges_of (weld same_node n (corners_of q)) q) (edges_from (weld same_node n (corners_of q)) qs) x h
edges-append n (p ∷ pre) q qs x h =
    in_right (edges_of (weld same_node n (corners_of p)) p) (edges_from (weld same_node n (corners_of p)) (pre ++ (q ∷ qs))) x
    (edges-append (weld same_node n (corners_of p)) pre q qs x h)

-- the weights change no ends
weighed-in : (n : List MeshNode) (cs : List NetCell) (es : List Edge) (x : Edge) → In same_pair es x → In same_pair (map (weighed n cs) es) x
unfolding weighed
weighed-in n cs es x h =
    let l = length-map es (weighed n cs) in
    let e = position-same same_pair same_pair es (map (weighed n cs) es) x x x (weighed n cs x) (sym l) (λ i p. ap (λ (z : Edge). same_pair z x) (sym (get_or-map (weighed n cs) es i x))) in
    omega arith

edges-in : (t : List Cell) (ps : List Poly) (pre : List Piece) (q : Piece) (qs : List Piece) (x : Edge) → pieces t ps 0 ≡ pre ++ (q ∷ qs) → In same_pair (edges_of (so_far pre q) q) x → In same_pair (network t ps).edges x
unfolding network weigh bare
edges-in t ps pre q qs x e h = weighed-in _ _ (edges_from [] (pieces t ps 0)) x (subst (λ (z : List Piece). In same_pair (edges_from [] z) x) (sym e) (edges-append [] pre q qs x h))

-- the parts of the sides of a polygon's leaves are edges of the net
pub sides-in : (t : List Cell) (ps : List Poly) (pre : List Piece) (q : Piece) (qs : List Piece) → pieces t ps 0 ≡ pre ++ (q ∷ qs)
    → All (λ (r : Box). All (In same_pair (network t ps).edges) (sides_at (so_far pre q) q.poly r)) q.leaves
unfolding edges_of
sides-in t ps pre q qs e =
    let n = so_far pre q in
    let es = (network t ps).edges in
    let parts = flat_map (sides_at n q.poly) q.leaves in
    all-each-back (In same_pair es) (sides_at n q.poly) q.leaves
    (all-by (In same_pair (weld same_pair [] parts)) (In same_pair es) parts (λ x h. edges-in t ps pre q qs x e h) (weld-has same_pair pair-self [] parts))

pub no-half-hangs : (t : List Cell) (ps : List Poly) (pre : List Piece) (q : Piece) (qs : List Piece) → pieces t ps 0 ≡ pre ++ (q ∷ qs)
    → All (HalvedSides (so_far pre q) (network t ps).edges q.poly) q.leaves
no-half-hangs t ps pre q qs e =
    let n = so_far pre q in
    let es = (network t ps).edges in
    all-by (λ (r : Box). All (In same_pair es) (sides_at n q.poly r)) (HalvedSides n es q.poly) q.leaves (λ r h. leaf-halved n es q.poly r h) (sides-in t ps pre q qs e)
