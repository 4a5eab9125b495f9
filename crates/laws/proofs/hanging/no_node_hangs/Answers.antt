use Rattle.laws.proofs.Tables.{conform-meets}
use Rattle.laws.proofs.hanging.no_node_hangs.Goals as goal

pub returns-clause-after_conform : goal.returns-clause-after_conform
returns-clause-after_conform c = conform-meets
