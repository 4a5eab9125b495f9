use Rattle.table.proofs.Counted.{count-leaves}
use Rattle.table.proofs.laws.each_leaf_once.Goals as goal

pub returns : goal.returns
returns c = count-leaves
