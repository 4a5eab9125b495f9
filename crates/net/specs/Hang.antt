-- No node hangs: what is said of a side at whose middle a node stands. Definitions only.
use Rattle.std.specs.Prelude.{◌≡◌, true, List, [], ◌<◌, Float, length}
use Rattle.cell.specs.Boxes.{Box, mid}
use Rattle.net.specs.Net.{position_of, has, weld, Poly, MeshNode, Edge, Piece, same_node, same_pair, corners_of, nodes_from, join, node_at, sw_of, se_of, ne_of, nw_of}

-- the nodes once the piece q is added to the pieces before it. The nodes of the whole net go on from these, and keep their numbers
abbrev pub so_far : List Piece → Piece → List MeshNode
so_far pre q = weld same_node (nodes_from [] pre) (corners_of q)

-- an edge between two nodes, whatever its conductance
abbrev pub Joined : List MeshNode → List Edge → MeshNode → MeshNode → Type 0
Joined n es a b = (g : Float) → position_of same_pair es (join n a b g) < length es

-- where a node stands at m, the middle of the side from a to b, both halves are edges
abbrev pub Halved : List MeshNode → List Edge → MeshNode → MeshNode → MeshNode → Type 0
Halved n es a m b = has same_node n m ≡ true → Joined n es a m × Joined n es m b

pub record HalvedSides (n : List MeshNode) (es : List Edge) (p : Poly) (r : Box) : Type 0 where
  pub south : Halved n es (sw_of p r) (node_at p (mid r.x0 r.x1) r.y0) (se_of p r)
  pub north : Halved n es (nw_of p r) (node_at p (mid r.x0 r.x1) r.y1) (ne_of p r)
  pub west : Halved n es (sw_of p r) (node_at p r.x0 (mid r.y0 r.y1)) (nw_of p r)
  pub east : Halved n es (se_of p r) (node_at p r.x1 (mid r.y0 r.y1)) (ne_of p r)
