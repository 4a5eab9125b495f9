-- the polygons so far, and where they stand
use Rattle.std.proofs.Common.{◌≡◌, ◌≤◌, ◌*◌, List, length}
use Rattle.fields.proofs.Loop.{IsAt}
use Rattle.record.specs.declared.board.Version.TheVariants.{One}
use Rattle.record.specs.Board.{Polygon, limits_of, polygon}
use Rattle.record.specs.Rows.{rings}
use Rattle.record.specs.Walks.{PolygonsStored}
use Rattle.record.proofs.copy.copy_polygons.Given as goal

abbrev pub invariant-loop-i : goal.invariant-loop-i
invariant-loop-i l =
    (front : List Polygon) × IsAt (λ (_ : Unit {0}). polygon (limits_of One)) (λ _. tt) tt l.count l.initial.reader l.i front tt l.reader
    × PolygonsStored l.initial.heads l.heads l.initial.sheets l.sheets l.initial.points l.points front
    × (l.first ≡ length (rings front)) × (l.first ≤ 65536 * l.i)
