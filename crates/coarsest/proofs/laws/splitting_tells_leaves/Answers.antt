use Rattle.coarsest.proofs.Leaves.{same-leaves}
use Rattle.coarsest.proofs.laws.splitting_tells_leaves.Goals as goal

pub returns : goal.returns
returns c = same-leaves
