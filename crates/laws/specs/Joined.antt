-- The sides of leaves that are joined from end to end: the law for whole boards that src/hanging.rt promises.
-- Definitions only.
use Rattle.std.specs.Prelude.{ℕ, ◌<◌, ◌≤◌, ◌≡◌, true, List, All, length, slice_get, Some}
use Rattle.cell.specs.Boxes.{Box, mid}
use Rattle.table.specs.Mesh.{Cell}
use Rattle.table.specs.Formed.{Formed}
use Rattle.coarsest.specs.Passes.{balance}
use Rattle.net.specs.Net.{Poly, MeshNode, Net, has, same_node, leaves_of, node_at, network}
use Rattle.laws.specs.Grids.{OneGrid, Balanced}
use Rattle.laws.specs.Nodes.{EndOrMiddle, EdgeOf}
use Rattle.laws.specs.Made.{AllApart}
use Rattle.laws.specs.Fit.{RootsFit, NoneTouches, BoardFits}

-- the net has the node
abbrev pub InNet : Net → MeshNode → Type 0
InNet n m = has same_node n.nodes m ≡ true

-- the side from u to v of a line, whose node at z is c z: "each node of its layer and component on the closed side is
-- a, m or b; if m
-- is a node, a-m and m-b are edges; otherwise a-b is one"
pub record SideJoined (n : Net) (c : ℕ → MeshNode) (u v : ℕ) : Type 0 where
  pub only : (z : ℕ) → u ≤ z → z ≤ v → InNet n (c z) → EndOrMiddle u v z
  pub halved : InNet n (c (mid u v)) → EdgeOf n (c u) (c (mid u v)) × EdgeOf n (c (mid u v)) (c v)
  pub whole : (InNet n (c (mid u v)) → ⊥) → EdgeOf n (c u) (c v)

-- so is each side of the leaf r of the polygon p, by the nodes of its layer and component
pub record SidesJoined (n : Net) (p : Poly) (r : Box) : Type 0 where
  pub south : SideJoined n (λ z. node_at p z r.y0) r.x0 r.x1
  pub north : SideJoined n (λ z. node_at p z r.y1) r.x0 r.x1
  pub west : SideJoined n (λ z. node_at p r.x0 z) r.y0 r.y1
  pub east : SideJoined n (λ z. node_at p r.x1 z) r.y0 r.y1

-- in a balanced table the sides of a polygon's leaves are joined if its roots fit and no other polygon of its layer
-- and component touches it
abbrev pub SidesAreJoined : Type 0
SidesAreJoined =
    (max_level : ℕ) (t : List Cell) (ps : List Poly) (k : ℕ) (p : Poly) → Formed max_level t → Balanced t
    → slice_get ps k ≡ Some p → RootsFit t k → NoneTouches t ps k
    → All (SidesJoined (network t ps) p) (leaves_of t k)

-- so balance leaves them joined
abbrev pub BalanceJoinsSides : Type 0
BalanceJoinsSides =
    (max_level : ℕ) (t : List Cell) (ps : List Poly) (k : ℕ) (p : Poly) → Formed max_level t
    → slice_get ps k ≡ Some p → RootsFit t k → NoneTouches t ps k
    → All (SidesJoined (network (balance max_level t) ps) p) (leaves_of (balance max_level t) k)

-- roots that are one grid fit
abbrev pub GridFits : Type 0
GridFits = (max_level : ℕ) (t : List Cell) (k : ℕ) → Formed max_level t → OneGrid t k → RootsFit t k

-- so do boards on which no two polygons share layer and component, if each one's roots fit
abbrev pub ApartBoardsFit : Type 0
ApartBoardsFit = (t : List Cell) (ps : List Poly) → AllApart ps → ((k : ℕ) → k < length ps → RootsFit t k) → BoardFits t ps
