use Rattle.table.proofs.One.{one_list}
use Rattle.table.proofs.laws.one_list.Goals as goal

pub returns : goal.returns
returns c = one_list
