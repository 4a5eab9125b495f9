-- The walk has found every cell below i to be right, no four of them ends past i, and so many of them are roots.
use Rattle.std.proofs.Common.{ℕ, ◌-◌, ◌<◌, ◌≤◌, ◌≡◌}
use Rattle.table.specs.Mesh.{table, root_count}
use Rattle.table.proofs.Walk.{Found}
use Rattle.table.proofs.formed.leaves_of.Given as goal

abbrev pub invariant-loop-i : goal.invariant-loop-i
invariant-loop-i l = (l.i ≤ l.n) × ((j : ℕ) → j < l.i → Found l.t l.n l.m l.i j) × (l.roots ≡ root_count (table l.t l.i))

abbrev pub decreases-loop-i : goal.decreases-loop-i
decreases-loop-i l = l.n - l.i
