use Rattle.std.proofs.Common.{arith}
use Rattle.links.proofs.Parts.{corner-of}
use Rattle.links.proofs.by_polygon.CornerListNodeList.number.Goals as goal

pub returns-in-0 : goal.returns-in-0
returns-in-0 c = corner-of c.args.self.now.cells.now c.args.k 0 c.requires c.in-0.is

pub returns-in-1 : goal.returns-in-1
returns-in-1 c = corner-of c.args.self.now.cells.now c.args.k 1 c.requires c.in-1.is

pub returns-in-2 : goal.returns-in-2
returns-in-2 c = corner-of c.args.self.now.cells.now c.args.k 2 c.requires c.in-2.is

pub returns-in_default : goal.returns-in_default
returns-in_default c = corner-of c.args.self.now.cells.now c.args.k 3 c.requires (omega arith)
