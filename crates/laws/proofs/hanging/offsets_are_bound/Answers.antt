use Rattle.laws.proofs.Offsets.{offsets-bound}
use Rattle.laws.proofs.hanging.offsets_are_bound.Goals as goal

pub returns : goal.returns
returns c = offsets-bound
