-- P1 to P8 hold of the definitions: one computed check over one list. Assumes nothing.
use lib.Ieee.{to_bits}
use Rattle.std.proofs.Common.{◌≡◌, refl}
use lib.Ieee.{of_int, round, mul, div, add, sub, neg}
use Rattle.cell.specs.Boxes.{border, shares_edge}
use Rattle.cell.specs.Ticks.{in_range, off, on}
use Rattle.cell.specs.Contact.{sound_rect, contact_says}
use Rattle.table.specs.Slots.{counted, kept, same_z, cell_at, stored, put_cell, put_first, in_slot}
use Rattle.table.specs.Mesh.{split, table, leaf_count}
use Rattle.table.specs.Formed.{rest_zero, side_ok, root_ok, born_ok, same_but, kid_ok, kids_ok, place_ok, cell_ok, shape_ok, cells_ok, well_formed}
use Rattle.table.specs.Leaves.{leaf_at}
use Rattle.table.specs.Refine.{put_kid, split_row}
use Rattle.coarsest.specs.Passes.{due, step, with_each, pass, run, evened}
use Rattle.even.specs.Rows.{flat, row_of}
use Rattle.even.specs.Even.{even_says, even_row}
use Rattle.strips.specs.Sorted.{insert, sorted}
use Rattle.strips.specs.Rings.{edge_at, vertical, reaches}
use Rattle.strips.specs.Strips.{levels, crossings, pair_up, banded, strips_of}
use Rattle.build.specs.Grid.{held_at}
use Rattle.laws.specs.Eight.{same_row, lent, computed, expected}

pub eight : computed lent ≡ expected
unfolding computed expected same_row lent sound_rect contact_says border shares_edge in_range off on counted kept same_z cell_at stored put_cell put_first in_slot split table leaf_count rest_zero side_ok root_ok born_ok same_but kid_ok kids_ok place_ok cell_ok shape_ok cells_ok well_formed leaf_at put_kid split_row due step with_each pass run evened flat row_of even_says even_row insert sorted edge_at vertical reaches levels crossings pair_up banded strips_of held_at of_int round mul div add sub neg to_bits
eight = refl
