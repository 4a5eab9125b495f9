-- The net of a table's leaves before the weights. Definitions only.
use Rattle.std.specs.Prelude.{List, length, Float}
use Rattle.table.specs.declared.view.Table.{Table}
use Rattle.table.specs.Tables.{cells}
use Rattle.net_rows.specs.declared.rows.Polygons.{Polygons}
use Rattle.net.specs.Net.{Net, pieces, bare}
use Rattle.places.specs.Leaves.{polys_of}
use Rattle.bare_net.specs.declared.Counts.{Counts}

abbrev pub bare_net : Table → Polygons → List Float → Net
bare_net t ps sheets = bare (pieces (cells t) (polys_of ps sheets) 0)

abbrev pub counted : Net → Counts
counted w = record { nodes = length w.nodes; edges = length w.edges; cells = length w.cells }
