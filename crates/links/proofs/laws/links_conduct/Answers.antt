use Rattle.links.proofs.Conducting.{links-conduct, linked-conduct}
use Rattle.links.proofs.laws.links_conduct.Goals as goal

pub returns-clause-links : goal.returns-clause-links
returns-clause-links c = links-conduct

pub returns-clause-edges : goal.returns-clause-edges
returns-clause-edges c = linked-conduct
