use Rattle.cell.proofs.Borders.{has-length}
use Rattle.cell.proofs.laws.border_has_length.Goals as goal

pub returns : goal.returns
returns c = has-length
