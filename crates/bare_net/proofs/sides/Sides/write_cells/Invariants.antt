use Rattle.std.proofs.Common.{◌≡◌, map}
use Rattle.std.specs.List.{range_with_len}
use Rattle.refusals.specs.Said.{written}
use Rattle.bare_net.specs.Sides.{cell_at}
use Rattle.bare_net.proofs.sides.Sides.write_cells.Given as goal

abbrev pub invariant-loop-v : goal.invariant-loop-v
invariant-loop-v l = l.cells ≡ written (map (cell_at l.self) (range_with_len 0 l.v)) l.fn.cells
