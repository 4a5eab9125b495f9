use Rattle.net.proofs.Every.{halves-hang-not}
use Rattle.net.proofs.laws.no_half_hangs.Goals as goal

pub returns : goal.returns
returns c = halves-hang-not
