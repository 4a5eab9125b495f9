use Rattle.network.proofs.Accepted.{edges-conduct, cells-rectangles}
use Rattle.network.proofs.laws.accepted_nets_conduct.Goals as goal

pub returns-clause-edges : goal.returns-clause-edges
returns-clause-edges c = edges-conduct

pub returns-clause-cells : goal.returns-clause-cells
returns-clause-cells c = cells-rectangles
