use Rattle.coarsest.proofs.Settled.{settled}
use Rattle.coarsest.proofs.laws.pass_settles.Goals as goal

pub returns : goal.returns
returns c = settled
