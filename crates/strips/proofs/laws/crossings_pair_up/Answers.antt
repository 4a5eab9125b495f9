use Rattle.strips.proofs.Evenness.{pairs-up}
use Rattle.strips.proofs.laws.crossings_pair_up.Goals as goal

pub returns : goal.returns
returns c = λ points lo hi below above. pairs-up points lo hi below above
