use Rattle.laws.proofs.Taken.{build-takes}
use Rattle.laws.proofs.records.build_takes_records.Goals as goal

pub returns : goal.returns
returns c = build-takes
