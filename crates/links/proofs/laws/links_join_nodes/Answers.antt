use Rattle.links.proofs.Ends.{contact-polygons}
use Rattle.links.proofs.laws.links_join_nodes.Goals as goal

pub returns-clause-contacts : goal.returns-clause-contacts
returns-clause-contacts c = contact-polygons
