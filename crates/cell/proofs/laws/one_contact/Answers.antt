use Rattle.cell.proofs.OneContact.{one-contact}
use Rattle.cell.proofs.laws.one_contact.Goals as goal

pub returns : goal.returns
returns c = one-contact
