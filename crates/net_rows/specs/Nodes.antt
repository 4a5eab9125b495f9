-- A node as a caller holds it, its coordinates in ticks, and the same in the coordinates of a table's cells. Definitions only.
use Rattle.cell.specs.Ticks.{off, on}
use Rattle.net_rows.specs.declared.rows.Node.{Node}
use Rattle.net_rows.specs.declared.rows.MeshNode.{MeshNode}

abbrev pub in_mesh : Node → MeshNode
in_mesh n = record { layer = n.layer; component = n.component; x = off n.x; y = off n.y }

abbrev pub in_ticks : MeshNode → Node
in_ticks n = record { layer = n.layer; component = n.component; x = on n.x; y = on n.y }
