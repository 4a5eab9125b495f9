-- Rings of unequal bands, computed of the definitions. Assumes nothing.
use Rattle.std.proofs.Common.{refl}
use Rattle.cell.specs.Ticks.{off, on}
use Rattle.table.specs.Mesh.{table}
use Rattle.table.specs.Slots.{counted, cell_at}
use Rattle.strips.specs.Sorted.{insert, sorted}
use Rattle.strips.specs.Rings.{edge_at, vertical, reaches}
use Rattle.strips.specs.Strips.{levels, crossings, pair_up, banded, strips_of}
use Rattle.build.specs.Grid.{held_at, row_to, grid_to, roots_in, flat}
use Rattle.checks.specs.Nodes.{here, joins, nodes_between}
use Rattle.checks.specs.Sides.{places_between}
use Rattle.checks.specs.Checks.{first_unjoined, chain, chain_fault, side_fault, leaf_fault, fault_by}
use Rattle.net.specs.Net.{position_of, has, weld, leaves_of, pieces, corners_of, nodes_from, sides_at, edges_of, edges_from, patches_from, weighed, bare, weigh, network}
use Rattle.laws.specs.Bands.{bands_fault, UnequalBands}

pub unequal_bands : UnequalBands
unfolding bands_fault off on table counted cell_at insert sorted edge_at vertical reaches levels crossings pair_up banded strips_of held_at row_to grid_to roots_in flat here joins nodes_between places_between first_unjoined chain chain_fault side_fault leaf_fault fault_by position_of has weld leaves_of pieces corners_of nodes_from sides_at edges_of edges_from patches_from weighed bare weigh network
unequal_bands = record { narrow_on_wide = refl; two_on_one = refl; middle_third = refl }
