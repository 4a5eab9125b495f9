use Rattle.std.proofs.Common.{◌≡◌}
use Rattle.table.specs.Tables.{cells}
use Rattle.search.proofs.Boxes.{Blocks}
use Rattle.search.proofs.roots.Roots.index.Given as goal

abbrev pub invariant-loop-block : goal.invariant-loop-block
invariant-loop-block l = (l.self.end ≡ l.end) × Blocks (cells l.table) l.self l.block
