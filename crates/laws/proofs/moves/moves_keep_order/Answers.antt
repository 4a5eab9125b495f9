use Rattle.laws.proofs.Moving.{moved-less, moved_same}
use Rattle.laws.proofs.moves.moves_keep_order.Goals as goal

pub returns-clause-less : goal.returns-clause-less
returns-clause-less c = moved-less

pub returns-clause-equal : goal.returns-clause-equal
returns-clause-equal c = moved_same
