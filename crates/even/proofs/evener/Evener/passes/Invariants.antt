-- The passes so far lead to the same end, and the rows with a pair that is due are marked.
use Rattle.std.proofs.Common.{◌≡◌, List}
use Rattle.table.specs.Mesh.{Cell}
use Rattle.table.specs.TablesMut.{cells_mut}
use Rattle.coarsest.specs.Passes.{evened, splits_left, difference}
use Rattle.even.specs.Makes.{GoesOn}
use Rattle.even.specs.Watch.{Watched}
use Rattle.even.proofs.evener.Evener.passes.Given as goal

abbrev pub invariant-passes : goal.invariant-passes
invariant-passes l =
    let end : List Cell → List Cell = λ t. evened l.self.engine (difference l.self.engine) l.initial.table.head.max_level t in
    GoesOn l.initial.table l.table
    × (end (cells_mut l.table) ≡ end (cells_mut l.initial.table))
    × Watched l.self (cells_mut l.table) l.marks

abbrev pub decreases-passes : goal.decreases-passes
decreases-passes l = splits_left l.table.head.max_level (cells_mut l.table)
