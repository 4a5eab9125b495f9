use Rattle.coarsest.proofs.Ends.{conform-evens}
use Rattle.even.proofs.laws.conform_evens.Goals as goal

pub returns : goal.returns
returns c = conform-evens
