-- the polygons so far, and where they stand
use Rattle.std.proofs.Common.{◌≡◌, ◌≤◌, ◌*◌, List, length}
use Rattle.fields.proofs.Loop.{IsAt}
use Rattle.record.specs.Board.{Polygon, polygon}
use Rattle.record.specs.Rows.{rings}
use Rattle.record.proofs.walk.read_polygons.Given as goal

abbrev pub invariant-loop : goal.invariant-loop
invariant-loop l =
    (front : List Polygon) × IsAt (λ (_ : Unit {0}). polygon l.limits) (λ _. tt) tt l.count l.initial.reader l.counter front tt l.reader
    × (l.points ≡ length (rings front)) × (l.points ≤ 65536 * l.counter)
