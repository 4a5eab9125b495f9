use Rattle.leafnet_text.proofs.Unread.{unread}
use Rattle.leafnet_text.proofs.laws.front_is_enough.Goals as goal

pub returns : goal.returns
returns c = unread
