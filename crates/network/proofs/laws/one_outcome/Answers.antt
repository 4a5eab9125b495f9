use Rattle.network.proofs.Accepted.{one-answer, one-content, one-count}
use Rattle.network.proofs.laws.one_outcome.Goals as goal

pub returns-clause-answer : goal.returns-clause-answer
returns-clause-answer c = one-answer

pub returns-clause-rows : goal.returns-clause-rows
returns-clause-rows c = one-content

pub returns-clause-edge_rows : goal.returns-clause-edge_rows
returns-clause-edge_rows c = one-count
