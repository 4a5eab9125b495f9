use Rattle.cell.proofs.Borders.{border-turned}
use Rattle.cell.proofs.OneContact.{answer-turned}
use Rattle.cell.proofs.laws.border_turned.Goals as goal

pub returns-clause-boxes : goal.returns-clause-boxes
returns-clause-boxes c = border-turned

pub returns-clause-answers : goal.returns-clause-answers
returns-clause-answers c = answer-turned
