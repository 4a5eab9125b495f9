use Rattle.even.proofs.LaterBoard.{at-work}
use Rattle.even.proofs.laws.facts_at_work.Goals as goal

pub returns : goal.returns
returns c = at-work
