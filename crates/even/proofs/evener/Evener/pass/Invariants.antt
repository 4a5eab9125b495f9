-- The table holds what the rows of pairs before a's make.
use Rattle.std.proofs.Common.{◌-◌, ◌≤◌}
use Rattle.coarsest.specs.Passes.{difference}
use Rattle.coarsest.specs.Sweep.{rows}
use Rattle.table.specs.TablesMut.{cells_mut}
use Rattle.even.proofs.Going.{On}
use Rattle.even.proofs.evener.Evener.pass.Given as goal

abbrev pub invariant-loop-a : goal.invariant-loop-a
invariant-loop-a l =
    (l.a ≤ l.stop)
    × On (rows l.self.engine (difference l.self.engine) l.stop (cells_mut l.initial.table) l.a) l.initial.table l.table

abbrev pub decreases-loop-a : goal.decreases-loop-a
decreases-loop-a l = l.stop - l.a
