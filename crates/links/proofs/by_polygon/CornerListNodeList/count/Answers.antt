use Rattle.std.proofs.Common.{sym}
use Rattle.links.proofs.Parts.{corners-long}
use Rattle.links.proofs.by_polygon.CornerListNodeList.count.Goals as goal

pub returns : goal.returns
returns c = sym (corners-long c.args.self.now.cells.now)
