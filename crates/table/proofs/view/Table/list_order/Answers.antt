use Rattle.std.proofs.Common.{List, ℕ, arith, length, ap, ◌∙◌}
use Rattle.refusals.specs.Said.{written}
use Rattle.table.proofs.Ids.{sets-written}
use Rattle.table.proofs.Listed.{order_ids-in, order_in-length}
use Rattle.table.proofs.view.Table.list_order.Goals as goal

pub append_order-requires : goal.append_order-requires
append_order-requires c =
    let s = c.args.self.now in
    omega (arith, order_in-length s.row.now s.head s.formed, ap length (order_ids-in s.row.now s.head))

pub returns : goal.returns
returns c =
    let s = c.args.self.now in
    c.append_order.ensures
    ∙ sets-written c.args.out.now _ (omega (arith, order_in-length s.row.now s.head s.formed, ap length (order_ids-in s.row.now s.head)))
    ∙ ap (λ (ids : List ℕ). written ids c.args.out.now) (order_ids-in s.row.now s.head)
