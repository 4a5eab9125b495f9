use Rattle.net.proofs.Every.{edges-conduct, none-negative}
use Rattle.net.proofs.laws.edges_conduct.Goals as goal

pub returns-clause-conducting : goal.returns-clause-conducting
returns-clause-conducting c = edges-conduct

pub returns-clause-proper : goal.returns-clause-proper
returns-clause-proper c = none-negative
