use Rattle.record.proofs.Back.{reads_back}
use Rattle.record.proofs.laws.read_write.Goals as goal

pub returns : goal.returns
returns c b out fits room = reads_back b fits out room
