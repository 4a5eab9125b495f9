use Rattle.std.proofs.Common.{true, false, ◌/◌, arith}
use lib.ListN.{get_or-replicate}
use Rattle.refusals.specs.Limits.{max_slots}
use Rattle.search.proofs.marks.Marks.all.Goals as goal

pub returns : goal.returns
returns c a h = get_or-replicate (max_slots / 8) (a / 8) true false (omega arith)
