use Rattle.even.proofs.Later.{ends-same}
use Rattle.even.proofs.laws.later_splits_same_mesh.Goals as goal

pub returns : goal.returns
returns c = ends-same
