use Rattle.table.proofs.Counted.{count-order}
use Rattle.table.proofs.laws.order_has_the_leaves.Goals as goal

pub returns : goal.returns
returns c = count-order
