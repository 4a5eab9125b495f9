use Rattle.even.proofs.Parts.{parts-fit}
use Rattle.even.proofs.laws.room_for_parts.Goals as goal

pub returns : goal.returns
returns c = parts-fit
