use Rattle.checks.proofs.ByLayer.{none_means_joined}
use Rattle.checks.proofs.laws.none_means_joined.Goals as goal

pub returns : goal.returns
returns c = none_means_joined
