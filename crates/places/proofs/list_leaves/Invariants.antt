use Rattle.std.proofs.Common.{◌≡◌, ℕ, ◌<◌, [], get_or}
use Rattle.table.specs.Mesh.{at}
use Rattle.table.specs.Tables.{cells}
use Rattle.places.specs.Leaves.{leaf_entry}
use Rattle.places.proofs.list_leaves.Given as goal

abbrev pub invariant-loop-v : goal.invariant-loop-v
invariant-loop-v l = (j : ℕ) → j < l.v → get_or l.entries j [] ≡ leaf_entry (at (cells l.table) (get_or l.ids j 0))
