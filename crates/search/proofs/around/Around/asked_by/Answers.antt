use Rattle.std.proofs.Common.{sym}
use Rattle.search.specs.Around.{asks}
use Rattle.search.proofs.Found.{found-own}
use Rattle.search.proofs.around.Around.asked_by.Goals as goal

pub returns-then-c-stop : goal.returns-then-c-stop
returns-then-c-stop c = found-own (asks c.args.self.now c.args.difference) _ _ _ c.if-c-stop.true (sym c.is_due.ensures)
