use Rattle.laws.proofs.BordersFill.{borders-fill}
use Rattle.laws.proofs.borders.borders_fill_sides.Goals as goal

pub returns : goal.returns
returns c = borders-fill
