use Rattle.coarsest.proofs.Ends.{evened-passed}
use Rattle.coarsest.proofs.laws.passes_end.Goals as goal

pub returns : goal.returns
returns c = evened-passed
