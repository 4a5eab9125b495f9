-- The four ways from a node, and the gaps along them. Definitions only.
use Rattle.std.specs.Prelude.{◌≡◌, ℕ, ◌<◌, List, length, slice_index}
use Rattle.net.specs.Net.{MeshNode, Way as NetWay, gap}
use Rattle.net.specs.Net.Way.{up, down, right, left}
use Rattle.net_rows.specs.declared.axis.Axis.{Axis}
use Rattle.net_rows.specs.declared.axis.Axis.TheVariants.{Column, Row}
use Rattle.weights.specs.declared.extents.Way.{Way}
use Rattle.weights.specs.declared.extents.Way.TheVariants.{Up, Down, Right, Left}

abbrev pub way_of : Way → NetWay
way_of Up = up
way_of Down = down
way_of Right = right
way_of Left = left

abbrev pub axis_of : Way → Axis
axis_of Up = Column
axis_of Down = Column
axis_of Right = Row
axis_of Left = Row

abbrev pub axis_across : Way → Axis
axis_across Up = Row
axis_across Down = Row
axis_across Right = Column
axis_across Left = Column

-- where the side stands from which a cell lies that way
abbrev pub side_at : Way → ℕ → ℕ → ℕ
side_at Up near far = near
side_at Down near far = far
side_at Right near far = near
side_at Left near far = far

-- a row of the gaps that way
abbrev pub GapsAlong : List MeshNode → Way → List ℕ → Type 0
GapsAlong ns way xs = (i : ℕ) → i < length ns → slice_index xs i ≡ gap (way_of way) ns i
