use Rattle.laws.proofs.Joined.{sides-joined, balance-joins}
use Rattle.laws.proofs.hanging.sides_are_joined.Goals as goal

pub returns-clause-balanced : goal.returns-clause-balanced
returns-clause-balanced c = sides-joined

pub returns-clause-after_balance : goal.returns-clause-after_balance
returns-clause-after_balance c = balance-joins
