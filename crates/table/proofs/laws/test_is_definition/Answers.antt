use Rattle.table.proofs.Wellformed.{formed-facts, facts-formed}
use Rattle.table.proofs.laws.test_is_definition.Goals as goal

pub returns : goal.returns
returns c = λ row head. (formed-facts row head, facts-formed row head)
