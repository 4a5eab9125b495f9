use Rattle.laws.proofs.Fitting.{grid-fits, apart-fits}
use Rattle.laws.proofs.hanging.roots_fit.Goals as goal

pub returns-clause-grid : goal.returns-clause-grid
returns-clause-grid c = grid-fits

pub returns-clause-apart : goal.returns-clause-apart
returns-clause-apart c = apart-fits
