-- The definitions make the links that were worked out by hand: one computed test. Assumes nothing.
use lib.Ieee.{to_bits}
use Rattle.std.proofs.Common.{refl}
use lib.Ieee.{of_bits, add, sum, mul, div, of_int, round, lt}
use Rattle.cell.specs.Ticks.{on}
use Rattle.net.specs.Net.{position_of, has, weld, leaves_of, pieces, corners_of, nodes_from, sides_at, edges_of, edges_from, patches_from, least, next_gap, prev_gap, gap, hung, extent, face, distance, sheet_of, weighed, bare, weigh, network}
use Rattle.links.specs.Made.{conductance_of, nodes_of, corner_lists, nearest, joined, contact_links, inside, or_nearest, side_of, pairs, via_links, channel_links, links_of, linked, linked_network}
use Rattle.links.specs.Cases.{agrees, all_agree, cases, CasesAgree, two_layers, rounded_alike}

pub cases_agree : CasesAgree
unfolding on of_bits to_bits add sum mul div of_int round lt position_of has weld leaves_of pieces corners_of nodes_from sides_at edges_of edges_from patches_from least next_gap prev_gap gap hung extent face distance sheet_of weighed bare weigh network conductance_of nodes_of corner_lists nearest joined contact_links inside or_nearest side_of pairs via_links channel_links links_of linked linked_network agrees all_agree cases two_layers rounded_alike
cases_agree = refl
