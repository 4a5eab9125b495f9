use Rattle.even.proofs.Held.{definitions-agree}
use Rattle.even.proofs.laws.definitions_agree.Goals as goal

pub returns : goal.returns
returns c = definitions-agree
