use Rattle.laws.proofs.BuiltHangs.{built-none-hangs, built-joins-sides}
use Rattle.laws.proofs.built.no_node_hangs.Goals as goal

pub returns-clause-balanced : goal.returns-clause-balanced
returns-clause-balanced c = built-none-hangs

pub returns-clause-joined : goal.returns-clause-joined
returns-clause-joined c = built-joins-sides
