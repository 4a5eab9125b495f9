use Rattle.table.specs.Tables.{cells}
use Rattle.search.specs.Roots.{HoldsRoots, bounds_box}
use Rattle.search.proofs.roots.Bounds.of_roots.Given as goal

abbrev pub invariant-loop-id : goal.invariant-loop-id
invariant-loop-id l = HoldsRoots (cells l.table) l.from l.id (bounds_box l.bounds)
