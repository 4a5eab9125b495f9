use Rattle.coarsest.proofs.Ends.{balance-evens}
use Rattle.even.proofs.laws.balance_evens.Goals as goal

pub returns : goal.returns
returns c = balance-evens
