-- The nodes of a net along the lines of an axis, and what an edge has by the extents of its nodes. Definitions only.
use Rattle.std.specs.Prelude.{List, ℕ, ◌+◌, ◌<◌, min, ◌==◌, if◌then◌else◌, map, length, slice_index}
use Rattle.std.specs.Int.{abs_diff}
use Rattle.net_rows.specs.Nodes.{in_mesh}
use Rattle.net.specs.Net.{MeshNode, NetCell, nth}
use Rattle.net.specs.Net.Way.{up, down, right, left}
use Rattle.weights.specs.declared.lent.BareNet.{BareNet}
use Rattle.net_rows.specs.declared.axis.Axis.{Axis}
use Rattle.net_rows.specs.declared.axis.Axis.TheVariants.{Column, Row}
use Rattle.weights.specs.declared.weigh.Extents.{Extents}
use Rattle.weights.specs.Lines.{all_facing, Reaches}

abbrev pub nodes_of : BareNet → List MeshNode
nodes_of net = map in_mesh net.nodes.now

-- along the lines of an axis
abbrev pub faced : BareNet → Axis → List MeshNode
faced net axis = all_facing axis (nodes_of net)

-- the axis across an edge of two nodes: columns cross a flat one
abbrev pub across_of : List MeshNode → ℕ → ℕ → Axis
across_of ns a b = if (nth ns a).y == (nth ns b).y then Column else Row

-- a node has extents every way
pub record HasExtents (e : Extents) (i : ℕ) : Type 0 where
  pub up-there : i < length e.up.now
  pub down-there : i < length e.down.now
  pub right-there : i < length e.right.now
  pub left-there : i < length e.left.now

-- the extents of a net's nodes
pub record Extended (ns : List MeshNode) (cs : List NetCell) (e : Extents) : Type 0 where
  pub there : (i : ℕ) → i < length ns → HasExtents e i
  pub up-is : Reaches up ns cs e.up.now
  pub down-is : Reaches down ns cs e.down.now
  pub right-is : Reaches right ns cs e.right.now
  pub left-is : Reaches left ns cs e.left.now

-- the face between two nodes by their extents along an axis, and how far apart their lines are
abbrev pub face_of : Extents → Axis → ℕ → ℕ → ℕ
face_of e Column a b = min (slice_index e.up.now a) (slice_index e.up.now b) + min (slice_index e.down.now a) (slice_index e.down.now b)
face_of e Row a b = min (slice_index e.right.now a) (slice_index e.right.now b) + min (slice_index e.left.now a) (slice_index e.left.now b)

abbrev pub distance_of : List MeshNode → Axis → ℕ → ℕ → ℕ
distance_of ns axis a b = abs_diff (nth (all_facing axis ns) a).x (nth (all_facing axis ns) b).x
