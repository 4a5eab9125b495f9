use Rattle.std.proofs.Common.{sym, ◌∙◌, arith, le-ltb}
use Rattle.refusals.specs.Limits.{max_polygons}
use Rattle.table.specs.Tables.{cells}
use Rattle.links.proofs.Marks.{no-leaf}
use Rattle.links.proofs.count.Corners.has_leaf.Goals as goal

pub returns-else-polygon-lt-POLYGONS : goal.returns-else-polygon-lt-POLYGONS
returns-else-polygon-lt-POLYGONS c =
    let s = c.args.self.now in
    let k = c.args.polygon in
    let few = s.few_polygons in
    let past = c.if-polygon-lt-POLYGONS.false in
    le-ltb k max_polygons past ∙ sym (no-leaf (cells s.table) s.polygons s.known k (omega arith))
