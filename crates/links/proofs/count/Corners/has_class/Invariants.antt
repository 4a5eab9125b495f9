-- No polygon so far is of the class and has a leaf.
use Rattle.std.proofs.Common.{◌≡◌, ◌<◌, ℕ, false, ◌&&◌}
use Rattle.table.specs.Tables.{cells}
use Rattle.links.specs.Count.{is_class, has_leaf}
use Rattle.links.proofs.count.Corners.has_class.Given as goal

abbrev pub invariant-loop-polygon : goal.invariant-loop-polygon
invariant-loop-polygon l = (k : ℕ) → k < l.polygon → (is_class l.self.polygons l.layer l.component k && has_leaf (cells l.self.table) k) ≡ false
