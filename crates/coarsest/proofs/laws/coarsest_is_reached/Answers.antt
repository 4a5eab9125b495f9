use Rattle.coarsest.proofs.Evened.{evened-coarsest}
use Rattle.coarsest.proofs.laws.coarsest_is_reached.Goals as goal

pub returns : goal.returns
returns c = evened-coarsest
