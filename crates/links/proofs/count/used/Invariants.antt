-- The polygons of the leaves so far are marked.
use Rattle.std.proofs.Common.{◌≡◌, length}
use Rattle.refusals.specs.Limits.{max_polygons}
use Rattle.table.specs.Tables.{cells}
use Rattle.links.proofs.Marks.{Marked}
use Rattle.links.proofs.count.used.Given as goal

abbrev pub invariant-loop-id : goal.invariant-loop-id
invariant-loop-id l = (length l.used ≡ max_polygons) × Marked (cells l.table) l.used l.id
