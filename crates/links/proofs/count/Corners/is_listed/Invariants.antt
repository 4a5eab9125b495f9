-- No cell of the list so far is a leaf with that corner.
use Rattle.std.proofs.Common.{◌≡◌, ◌<◌, ℕ, false, get_or}
use Rattle.table.specs.Tables.{cells}
use Rattle.links.specs.Count.{meets}
use Rattle.links.proofs.count.Corners.is_listed.Given as goal

abbrev pub invariant-loop-place : goal.invariant-loop-place
invariant-loop-place l = (j : ℕ) → j < l.place → meets (cells l.self.table) l.self.polygons l.node (get_or l.near.ids j 0) ≡ false
