use Rattle.laws.proofs.BordersBuilt.{built-full, built-fill}
use Rattle.laws.proofs.borders.strips_are_filled.Goals as goal

pub returns-clause-grid : goal.returns-clause-grid
returns-clause-grid c = built-full

pub returns-clause-filled : goal.returns-clause-filled
returns-clause-filled c = built-fill
