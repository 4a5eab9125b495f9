-- The links so far are counted.
use Rattle.std.proofs.Common.{take}
use Rattle.std.specs.List.{sum_by}
use Rattle.table.specs.Tables.{cells}
use Rattle.links.specs.Count.{via_count, IsTotal}
use Rattle.links.proofs.count.Corners.count_vias.Given as goal

abbrev pub invariant-loop-via : goal.invariant-loop-via
invariant-loop-via l = IsTotal l.counting (sum_by (via_count (cells l.self.table) l.self.polygons) (take l.via-index l.vias)) l.sum
