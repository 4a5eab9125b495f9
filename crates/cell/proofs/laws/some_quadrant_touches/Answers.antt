use Rattle.cell.proofs.Contact.{shares-quadrant}
use Rattle.cell.proofs.laws.some_quadrant_touches.Goals as goal

pub returns : goal.returns
returns c = shares-quadrant
