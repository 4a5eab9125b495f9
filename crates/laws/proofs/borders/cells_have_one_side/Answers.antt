use Rattle.cell.proofs.Borders.{on-side, one-side, border-turned}
use Rattle.table.specs.Mesh.{at}
use Rattle.laws.proofs.Placed.{cell-positive}
use Rattle.laws.proofs.borders.cells_have_one_side.Goals as goal

pub returns-clause-one : goal.returns-clause-one
returns-clause-one c M t i j formed k l s u p q =
    one-side (at t i).box (at t j).box (cell-positive M t formed i k) (cell-positive M t formed j l) s u
    (on-side s (at t i).box (at t j).box p) (on-side u (at t i).box (at t j).box q)

pub returns-clause-turned : goal.returns-clause-turned
returns-clause-turned c M t i j formed k l =
    border-turned (at t i).box (at t j).box (cell-positive M t formed i k) (cell-positive M t formed j l)
