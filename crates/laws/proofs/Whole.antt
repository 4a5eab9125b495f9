-- Where no node made so far stands at the middle of a leaf's side, the whole side is an edge of the net: for any table and any polygons.
-- Assumes nothing.
use lib.Ieee.{Float}
use Rattle.std.proofs.Common.{◌≡◌, false, List, ◌∷◌, ◌++◌}
use Rattle.cell.specs.Boxes.{Box, mid}
use Rattle.table.specs.Mesh.{Cell}
use Rattle.net.specs.Net.{has, Poly, MeshNode, Edge, Piece, same_node, same_pair, pieces, node_at, sw_of, se_of, ne_of, nw_of, side_of, sides_at, One, ◌÷◌, network}
use Rattle.net.specs.Hang.{so_far, Joined}
use Rattle.net.proofs.Hang.{any-g, sides-in}
use Rattle.net.proofs.All.{All, all-by, all_left, all_right, In}

-- where no node stands at m, the middle of the side from a to b, the side is an edge
abbrev pub Whole : List MeshNode → List Edge → MeshNode → MeshNode → MeshNode → Type 0
Whole n es a m b = has same_node n m ≡ false → Joined n es a b

pub record WholeSides (n : List MeshNode) (es : List Edge) (p : Poly) (r : Box) : Type 0 where
  pub south : Whole n es (sw_of p r) (node_at p (mid r.x0 r.x1) r.y0) (se_of p r)
  pub north : Whole n es (nw_of p r) (node_at p (mid r.x0 r.x1) r.y1) (ne_of p r)
  pub west : Whole n es (sw_of p r) (node_at p r.x0 (mid r.y0 r.y1)) (nw_of p r)
  pub east : Whole n es (se_of p r) (node_at p r.x1 (mid r.y0 r.y1)) (ne_of p r)

side-whole : (n : List MeshNode) (es : List Edge) (a m b : MeshNode) (r : Float) → All (In same_pair es) (side_of n a m b r) → Whole n es a m b
side-whole n es a m b r h t = let s = rw (t, side_of) at h in unfold All in any-g n es a b (One ÷ r) s.0

leaf-whole : (n : List MeshNode) (es : List Edge) (p : Poly) (r : Box) → All (In same_pair es) (sides_at n p r) → WholeSides n es p r
unfolding sides_at
leaf-whole n es p r h =
    let x = all_right (In same_pair es) _ _ h in
    let y = all_right (In same_pair es) _ _ x in
    record {
      south = side-whole n es _ _ _ _ (all_left (In same_pair es) _ _ h);
      north = side-whole n es _ _ _ _ (all_left (In same_pair es) _ _ x);
      west = side-whole n es _ _ _ _ (all_left (In same_pair es) _ _ y);
      east = side-whole n es _ _ _ _ (all_right (In same_pair es) _ _ y);
    }

pub whole-sides : (t : List Cell) (ps : List Poly) (pre : List Piece) (q : Piece) (qs : List Piece) → pieces t ps 0 ≡ pre ++ (q ∷ qs)
    → All (WholeSides (so_far pre q) (network t ps).edges q.poly) q.leaves
whole-sides t ps pre q qs e =
    let n = so_far pre q in
    let es = (network t ps).edges in
    all-by (λ (r : Box). All (In same_pair es) (sides_at n q.poly r)) (WholeSides n es q.poly) q.leaves (λ r h. leaf-whole n es q.poly r h) (sides-in t ps pre q qs e)
