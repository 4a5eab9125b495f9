use Rattle.std.proofs.Common.{◌*◌, ◌≤◌, length, arith}
use Rattle.refusals.specs.Limits.{max_slots}
use Rattle.table.specs.Mesh.{is_leaf}
use Rattle.table.specs.Tables.{cells, leaves}
use Rattle.table.specs.declared.view.Table.{Table}
use Rattle.table.proofs.Tables.{few_pass}
use Rattle.links.specs.Count.{edge_count}
use Rattle.links.proofs.Steps.{total-of, totals-sum}
use Rattle.links.proofs.count.Corners.count_edges.Goals as goal

few : (t : Table) → 8 * length (leaves t) ≤ 8 * max_slots
few t =
    let within = t.within in
    let slots = t.slots in
    omega (arith, few_pass (is_leaf (cells t)) 0 t.head.count)

pub overflow_mul-leaf_count : goal.overflow_mul-leaf_count
overflow_mul-leaf_count c = record { fits = omega (arith, c.leaf_count.ensures, few c.args.self.now.table) }

pub returns : goal.returns
unfolding edge_count
returns c =
    let k = c.args.counting in
    let is = c.leaf_count.ensures in
    let own = few c.args.self.now.table in
    rw (c.saturating_add-3.ensures, c.saturating_add-2.ensures, c.saturating_add.ensures)
    (totals-sum
    (totals-sum
    (totals-sum (total-of k _ (8 * c.leaf_count.result) (omega arith)) (total-of k _ c.count_contacts.result c.count_contacts.ensures))
    c.count_vias.ensures)
    (total-of k _ c.count_channels.result c.count_channels.ensures))
