use Rattle.power.proofs.Never.{none-negative}
use Rattle.power.proofs.laws.powers_are_non_negative.Goals as goal

pub returns : goal.returns
returns c = none-negative
