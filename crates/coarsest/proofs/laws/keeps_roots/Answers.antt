use Rattle.coarsest.proofs.Evened.{evened-roots}
use Rattle.coarsest.proofs.laws.keeps_roots.Goals as goal

pub returns : goal.returns
returns c = evened-roots
