use Rattle.refusals.proofs.Settled.{one-said}
use Rattle.refusals.proofs.laws.one_promise_one_answer.Goals as goal

pub returns : goal.returns
returns g c = one-said
