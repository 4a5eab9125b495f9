-- Nothing that the roots before this one hold asks.
use Rattle.std.proofs.Common.{◌-◌, false}
use Rattle.table.specs.Tables.{cells}
use Rattle.search.specs.Search.{Found}
use Rattle.search.specs.Around.{asks}
use Rattle.search.proofs.Rooted.{Seen}
use Rattle.search.proofs.around.Around.is_asked.Given as goal

abbrev pub invariant-loop-root : goal.invariant-loop-root
invariant-loop-root l = Found (asks l.self l.difference) (Seen (cells l.self.table) l.root) l.stop false

abbrev pub decreases-loop-root : goal.decreases-loop-root
decreases-loop-root l = l.self.roots.now.end - l.root
