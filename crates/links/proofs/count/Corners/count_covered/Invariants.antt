-- The corners of the cells so far are counted on both layers, and those near are listed.
use Rattle.std.proofs.Common.{◌*◌, ◌≤◌}
use Rattle.table.specs.Tables.{cells}
use Rattle.links.specs.Count.{IsCount, inside_below}
use Rattle.links.specs.Listed.{AreListed}
use Rattle.links.specs.Windows.{IsWindow}
use Rattle.links.proofs.count.Corners.count_covered.Given as goal

abbrev pub invariant-loop-id : goal.invariant-loop-id
invariant-loop-id l =
    record {
      below : IsCount l.counting (inside_below (cells l.self.table) l.self.polygons l.via.footprint l.via.bottom l.via.component l.id) l.below;
      above : IsCount l.counting (inside_below (cells l.self.table) l.self.polygons l.via.footprint l.via.top l.via.component l.id) l.above;
      few_below : l.below ≤ 4 * l.id;
      few_above : l.above ≤ 4 * l.id;
      listed : AreListed (cells l.self.table) l.near l.id;
      window : IsWindow l.via.footprint l.near.window;
    }
