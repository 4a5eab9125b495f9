use Rattle.std.proofs.Common.{sym, ◌∙◌}
use Rattle.table.specs.Mesh.{at}
use Rattle.table.specs.Tables.{cells}
use Rattle.places.proofs.Within.{cell_within}
use Rattle.links.proofs.Listing.{corner-board}
use Rattle.links.proofs.count.Corners.count_corner.Goals as goal

pub is_met-requires-clause-inside : goal.is_met-requires-clause-inside
is_met-requires-clause-inside c =
    let t = c.args.self.now.table in
    let r = c.requires in
    let m = c.args.node in
    let board = corner-board (at (cells t) c.args.id).box m (cell_within t.row.now t.head t.formed c.args.id r.there) r.corner in
    r.window m board.0 board.1 (rw c.in_ticks.ensures at (sym c.covers.ensures ∙ c.if-covers.true))
