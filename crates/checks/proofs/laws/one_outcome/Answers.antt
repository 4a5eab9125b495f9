use Rattle.checks.proofs.One.{one-answer, one-content}
use Rattle.checks.proofs.laws.one_outcome.Goals as goal

pub returns-clause-answer : goal.returns-clause-answer
returns-clause-answer c = one-answer

pub returns-clause-row : goal.returns-clause-row
returns-clause-row c = one-content
