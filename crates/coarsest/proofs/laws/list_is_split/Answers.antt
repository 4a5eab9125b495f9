use Rattle.coarsest.proofs.InTurn.{list-split}
use Rattle.coarsest.proofs.laws.list_is_split.Goals as goal

pub returns : goal.returns
returns c = list-split
