use Rattle.even.proofs.Later.{finer-mesh}
use Rattle.even.proofs.laws.more_splits_finer_mesh.Goals as goal

pub returns : goal.returns
returns c = finer-mesh
