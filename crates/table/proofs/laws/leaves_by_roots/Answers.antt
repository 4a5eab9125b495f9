use Rattle.table.proofs.Listed.{leaves-by-roots}
use Rattle.table.proofs.laws.leaves_by_roots.Goals as goal

pub returns : goal.returns
returns c = leaves-by-roots
