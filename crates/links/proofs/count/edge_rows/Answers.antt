use Rattle.std.proofs.Common.{refl, sym, ap, ◌∙◌, ℕ, min}
use Rattle.links.specs.Count.{most}
use Rattle.links.proofs.Rooms.{room-is}
use Rattle.links.proofs.count.edge_rows.Goals as goal

pub returns : goal.returns
returns c sheets =
    let total = rw (c.of-corners.ensures.table, c.of-corners.ensures.polygons) at c.count_edges.ensures in
    total.exact refl ∙ ap (λ (n : ℕ). min n most) (sym (room-is c.args.table.now c.args.polygons sheets c.args.links.now c.requires.known))
