use Rattle.table.proofs.Listed.{order_in-length}
use Rattle.table.proofs.laws.order_is_as_long.Goals as goal

pub returns : goal.returns
returns c = order_in-length
