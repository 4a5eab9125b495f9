use Rattle.build.proofs.Tiled.{strips-tiled}
use Rattle.build.proofs.laws.strips_are_tiled.Goals as goal

pub returns : goal.returns
returns c = strips-tiled
