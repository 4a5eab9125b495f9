use Rattle.std.proofs.Common.{sym, ap, ◌∙◌}
use Rattle.cell.specs.Cells.{box_of}
use Rattle.table.specs.Mesh.{Cell}
use Rattle.table.proofs.Cells.{at_table}
use Rattle.search.proofs.roots.Bounds.of.Goals as goal

pub returns : goal.returns
returns c =
    let t = c.args.table.now in
    ap box_of c.cell_at-c.ensures ∙ ap (λ (x : Cell). x.box) (sym (at_table t.row.now t.head.count c.args.id c.requires))
