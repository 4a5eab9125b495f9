-- The table holds what a's pairs with the cells before `from` make.
use Rattle.std.proofs.Common.{◌-◌, ◌≤◌}
use Rattle.coarsest.specs.declared.Engine.TheVariants.{Balancing}
use Rattle.coarsest.specs.Passes.{difference}
use Rattle.coarsest.specs.Sweep.{row}
use Rattle.table.specs.TablesMut.{cells_mut}
use Rattle.even.proofs.Going.{On}
use Rattle.even.proofs.evener.Evener.split_coarser.Given as goal

abbrev pub invariant-loop-from : goal.invariant-loop-from
invariant-loop-from l =
    (l.from ≤ l.stop)
    × On (row Balancing (difference Balancing) (cells_mut l.initial.table) l.a l.from) l.initial.table l.table

abbrev pub decreases-loop-from : goal.decreases-loop-from
decreases-loop-from l = l.stop - l.from
