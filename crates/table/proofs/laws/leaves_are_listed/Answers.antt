use Rattle.table.proofs.Listed.{leaves-listed}
use Rattle.table.proofs.laws.leaves_are_listed.Goals as goal

pub returns : goal.returns
returns c = leaves-listed
