use Rattle.cell.proofs.Contact.{corner-apart}
use Rattle.cell.proofs.laws.corners_do_not_touch.Goals as goal

pub returns : goal.returns
returns c = corner-apart
