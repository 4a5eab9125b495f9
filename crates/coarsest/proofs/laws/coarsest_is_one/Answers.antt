use Rattle.coarsest.proofs.Ends.{evened-only}
use Rattle.coarsest.proofs.laws.coarsest_is_one.Goals as goal

pub returns : goal.returns
returns c = evened-only
