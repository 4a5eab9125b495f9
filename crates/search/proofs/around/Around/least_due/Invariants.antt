-- The best so far is the least of all that the roots before this one hold.
use Rattle.std.proofs.Common.{◌-◌}
use Rattle.table.specs.Tables.{cells}
use Rattle.search.specs.Search.{Least}
use Rattle.search.specs.Around.{owes}
use Rattle.search.proofs.Rooted.{Seen}
use Rattle.search.proofs.around.Around.least_due.Given as goal

abbrev pub invariant-loop-root : goal.invariant-loop-root
invariant-loop-root l = Least (owes l.self l.difference) (Seen (cells l.self.table) l.root) l.from l.stop l.best

abbrev pub decreases-loop-root : goal.decreases-loop-root
decreases-loop-root l = l.self.roots.now.end - l.root
