use Rattle.checks.proofs.ByLayer.{middle_is_enough, middles_are_enough}
use Rattle.checks.proofs.laws.middles_are_enough.Goals as goal

pub returns-clause-side : goal.returns-clause-side
returns-clause-side c = middle_is_enough

pub returns-clause-table : goal.returns-clause-table
returns-clause-table c = middles_are_enough
