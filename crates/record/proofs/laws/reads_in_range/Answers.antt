use Rattle.record.proofs.Rounds.{record_found}
use Rattle.record.proofs.laws.reads_in_range.Goals as goal

pub returns : goal.returns
returns c = record_found
