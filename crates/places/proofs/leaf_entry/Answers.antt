use Rattle.std.proofs.Common.{sym, ap, ◌∙◌}
use Rattle.table.specs.Mesh.{mesh_cell}
use Rattle.table.proofs.Cells.{at_table}
use Rattle.places.specs.Leaves.{leaf_entry}
use Rattle.places.proofs.leaf_entry.Goals as goal

pub returns : goal.returns
returns c =
    let t = c.args.table.now in
    ap (λ held. leaf_entry (mesh_cell held)) c.cell_at-cell.ensures
    ∙ ap leaf_entry (sym (at_table t.row.now t.head.count c.args.id c.requires))
