-- What a sound net says of its rows: the same as `sound_net`, as facts. proofs/Sound.antt shows each from the other.
use Rattle.std.specs.Prelude.{◌≡◌, ℕ, ◌+◌, ◌<◌, ◌≤◌, IsTrue, List, length, ℤ, pos, ◌-ℤ◌, int_lt, nat_abs}
use Rattle.std.specs.List.{All}
use Rattle.refusals.specs.Limits.{coordinate}
use Rattle.cell.specs.Ticks.{in_range}
use Rattle.net_rows.specs.declared.rows.Node.{Node}
use Rattle.net_rows.specs.declared.rows.Edge.{Edge}
use Rattle.net_rows.specs.declared.rows.Corners.{Corners}
use Rattle.net_rows.specs.declared.rows.NetCell.{NetCell}
use Rattle.net_rows.specs.Nets.{nth_node}

pub record IsSoundNode (n : Node) : Type 0 where
  pub x : IsTrue (in_range n.x)
  pub y : IsTrue (in_range n.y)

pub record IsSoundEdge (count : ℕ) (e : Edge) : Type 0 where
  pub from : e.from < count
  pub to : e.to < count

pub record AreKnown (count : ℕ) (q : Corners) : Type 0 where
  pub southwest : q.southwest < count
  pub southeast : q.southeast < count
  pub northeast : q.northeast < count
  pub northwest : q.northwest < count

pub record IsRectangle (nodes : List Node) (q : Corners) : Type 0 where
  pub wide : IsTrue (int_lt (nth_node nodes q.southwest).x (nth_node nodes q.southeast).x)
  pub high : IsTrue (int_lt (nth_node nodes q.southwest).y (nth_node nodes q.northwest).y)
  pub south : (nth_node nodes q.southeast).y ≡ (nth_node nodes q.southwest).y
  pub east : (nth_node nodes q.northeast).x ≡ (nth_node nodes q.southeast).x
  pub north : (nth_node nodes q.northeast).y ≡ (nth_node nodes q.northwest).y
  pub west : (nth_node nodes q.northwest).x ≡ (nth_node nodes q.southwest).x

pub record IsSoundCell (nodes : List Node) (c : NetCell) : Type 0 where
  pub known : AreKnown (length nodes) c.corners
  pub box : IsRectangle nodes c.corners

pub record IsSoundNet (nodes : List Node) (edges : List Edge) (cells : List NetCell) : Type 0 where
  pub each_node : All IsSoundNode nodes
  pub each_edge : All (IsSoundEdge (length nodes)) edges
  pub each_cell : All (IsSoundCell nodes) cells

-- The difference z of two coordinates in range, the larger less the smaller: at least 1 tick, and at most the width of the range.
pub record IsGap (z : ℤ) : Type 0 where
  pub is : z ≡ pos (nat_abs z)
  pub some : 0 < nat_abs z
  pub most : nat_abs z ≤ coordinate + coordinate

-- the sides of a sound cell
pub record HasSides (nodes : List Node) (c : NetCell) : Type 0 where
  pub width : IsGap ((nth_node nodes c.corners.southeast).x -ℤ (nth_node nodes c.corners.southwest).x)
  pub height : IsGap ((nth_node nodes c.corners.northwest).y -ℤ (nth_node nodes c.corners.southwest).y)
