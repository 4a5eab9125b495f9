use Rattle.leafmesh.proofs.One.{one-exported}
use Rattle.leafmesh.specs.Outcome.{outcome_of, border_outcome_of, head_outcome_of, evening_outcome_of}
use Rattle.leafmesh.specs.Reads.{read_outcome_of}
use Rattle.leafmesh.specs.Nets.{net_outcome_of, check_outcome_of}
use Rattle.leafmesh.proofs.laws.one_outcome.Goals as goal

pub returns-clause-outcome : goal.returns-clause-outcome
returns-clause-outcome c what r q = one-exported (outcome_of what) r q

pub returns-clause-border : goal.returns-clause-border
returns-clause-border c what r q = one-exported (border_outcome_of what) r q

pub returns-clause-table : goal.returns-clause-table
returns-clause-table c what r q = (one-exported (head_outcome_of what) r q, one-exported (evening_outcome_of what) r q)

pub returns-clause-read : goal.returns-clause-read
returns-clause-read c what r q = one-exported (read_outcome_of what) r q

pub returns-clause-net : goal.returns-clause-net
returns-clause-net c what r q = one-exported (net_outcome_of what) r q

pub returns-clause-check : goal.returns-clause-check
returns-clause-check c what r q = one-exported (check_outcome_of what) r q
