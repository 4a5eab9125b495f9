use Rattle.std.proofs.Common.{arith}
use Rattle.table.specs.Mesh.{past}
use Rattle.table.proofs.Cells.{length-table}
use Rattle.links.proofs.count.Corners.is_of.Goals as goal

pub is_class-requires : goal.is_class-requires
is_class-requires c =
    let s = c.args.self.now in
    let n = length-table s.table.row.now s.table.head.count in
    let low = s.known c.args.id past (omega arith) in
    let is = c.polygon.ensures in
    omega arith
