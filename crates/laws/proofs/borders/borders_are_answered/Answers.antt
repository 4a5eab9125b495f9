use Rattle.laws.proofs.BordersAnswered.{borders-answered}
use Rattle.laws.proofs.borders.borders_are_answered.Goals as goal

pub returns : goal.returns
returns c = borders-answered
