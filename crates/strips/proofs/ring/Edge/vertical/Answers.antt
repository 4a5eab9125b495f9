use Rattle.std.proofs.Common.{refl}
use Rattle.strips.specs.Rings.{vertical}
use Rattle.strips.proofs.ring.Edge.vertical.Goals as goal

pub returns : goal.returns
unfolding vertical
returns c = refl
