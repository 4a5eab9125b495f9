-- Every root's id is below the next one.
use Rattle.table.specs.Tables.{cells}
use Rattle.search.specs.Search.{RootsBelow}
use Rattle.search.proofs.roots.roots_end.Given as goal

abbrev pub invariant-loop-id : goal.invariant-loop-id
invariant-loop-id l = RootsBelow (cells l.table) l.id
