use Rattle.even.proofs.One.{one-evening}
use Rattle.even.proofs.laws.one_evening.Goals as goal

pub returns : goal.returns
returns c = one-evening
