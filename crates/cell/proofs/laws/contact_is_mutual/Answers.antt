use Rattle.cell.proofs.Contact.{shares-sym}
use Rattle.cell.proofs.laws.contact_is_mutual.Goals as goal

pub returns : goal.returns
returns c = shares-sym
