use Rattle.laws.proofs.SampleBoards.{samples-fit, samples-joined}
use Rattle.laws.proofs.samples.samples_fit.Goals as goal

pub returns-clause-fit : goal.returns-clause-fit
returns-clause-fit c = samples-fit

pub returns-clause-joined : goal.returns-clause-joined
returns-clause-joined c = samples-joined
