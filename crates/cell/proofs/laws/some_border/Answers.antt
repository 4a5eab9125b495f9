use Rattle.cell.proofs.Contact.{some-border}
use Rattle.cell.proofs.laws.some_border.Goals as goal

pub returns : goal.returns
returns c = some-border
