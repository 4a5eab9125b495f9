use Rattle.std.proofs.Common.{arith, ◌∙◌, rules}
use Rattle.table.specs.Mesh.{table}
use Rattle.table.proofs.Refining.{refinable, held-below, refined-formed, refined-cells}
use Rattle.table.proofs.refine.refine.Goals as goal

pub split_cell-requires-clause-finer : goal.split_cell-requires-clause-finer
split_cell-requires-clause-finer c =
    let a = c.args in
    held-below _ _ _ (refinable a.row.now a.head a.id (search rules) (omega arith) (search rules) (search rules) (omega arith))

pub returns-clause-table_after : goal.returns-clause-table_after
returns-clause-table_after c =
    let a = c.args in
    rw (c.split_cell.ensures, c.after_split.ensures)
    (refined-formed _ _ _ (refinable a.row.now a.head a.id (search rules) (omega arith) (search rules) (search rules) (omega arith)))

pub returns-clause-cells_after : goal.returns-clause-cells_after
returns-clause-cells_after c =
    let a = c.args in
    (λ i. table (c.split_cell.ensures i) ((c.after_split.ensures i).count))
    ∙ refined-cells _ _ _ (refinable a.row.now a.head a.id (search rules) (omega arith) (search rules) (search rules) (omega arith))
