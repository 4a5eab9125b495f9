-- No leaf from here to the leaf has that corner.
use Rattle.std.proofs.Common.{◌≡◌, ◌<◌, ◌≤◌, ℕ, false}
use Rattle.table.specs.Tables.{cells}
use Rattle.links.specs.Count.{meets}
use Rattle.links.proofs.count.Corners.is_anywhere.Given as goal

abbrev pub invariant-loop-earlier : goal.invariant-loop-earlier
invariant-loop-earlier l = (l.earlier ≤ l.id) × ((i : ℕ) → l.earlier ≤ i → i < l.id → meets (cells l.self.table) l.self.polygons l.node i ≡ false)

abbrev pub decreases-loop-earlier : goal.decreases-loop-earlier
decreases-loop-earlier l = l.earlier
