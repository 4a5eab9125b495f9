use Rattle.power.proofs.One.{one-power, one-row}
use Rattle.power.proofs.laws.one_outcome.Goals as goal

pub returns-clause-answer : goal.returns-clause-answer
returns-clause-answer c = one-power

pub returns-clause-row : goal.returns-clause-row
returns-clause-row c = one-row
