use Rattle.table.proofs.Listed.{leaves-listed}
use Rattle.table.proofs.view.Table.leaf_count.Goals as goal

pub returns : goal.returns
returns c = let s = c.args.self.now in leaves-listed s.row.now s.head s.formed
