use Rattle.std.proofs.Common.{take}
use Rattle.weights.specs.Ways.{way_of}
use Rattle.weights.specs.Bare.{nodes_of}
use Rattle.weights.proofs.Hanging.{Raised}
use Rattle.weights.proofs.extents.raise_hanging.Given as goal

abbrev pub invariant-loop-cell : goal.invariant-loop-cell
invariant-loop-cell l = Raised (way_of l.way) (nodes_of l.net) (take l.cell-index l.net.cells.now) l.extents
