-- Two overlapping polygons of one layer and component, computed of the definitions. Assumes nothing.
use Rattle.std.proofs.Common.{refl}
use Rattle.cell.specs.Ticks.{off, on}
use Rattle.table.specs.Mesh.{table}
use Rattle.table.specs.Slots.{counted, cell_at}
use Rattle.checks.specs.Nodes.{here, joins, nodes_between}
use Rattle.checks.specs.Sides.{places_between}
use Rattle.checks.specs.Checks.{first_unjoined, chain, chain_fault, side_fault, leaf_fault, fault_by}
use Rattle.net.specs.Net.{position_of, has, weld, leaves_of, pieces, corners_of, nodes_from, sides_at, edges_of, edges_from, patches_from, weighed, bare, weigh, network}
use Rattle.laws.specs.MadeNets.{AlikePolygonsMayHang}

pub alike_hangs : AlikePolygonsMayHang
unfolding fault_by leaf_fault side_fault chain_fault chain first_unjoined nodes_between places_between cell_at counted off on here joins table position_of has weld leaves_of pieces corners_of nodes_from sides_at edges_of edges_from patches_from weighed bare weigh network
alike_hangs = refl
