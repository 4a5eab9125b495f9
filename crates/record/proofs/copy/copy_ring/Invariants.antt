-- the points so far, and where they stand
use Rattle.std.proofs.Common.{◌≡◌, List, map, length}
use Rattle.std.proofs.lemmas.List.Edits.{sets}
use Rattle.fields.proofs.Loop.{IsAt}
use Rattle.record.specs.Board.{Point, point}
use Rattle.record.specs.Rows.{point_row}
use Rattle.record.proofs.copy.copy_ring.Given as goal

abbrev pub invariant-loop-place : goal.invariant-loop-place
invariant-loop-place l =
    (front : List Point) × IsAt (λ (_ : Unit {0}). point) (λ _. tt) tt (length l.fn.row) l.fn.reader l.place-index front tt l.reader
    × (l.place-items ≡ sets l.fn.row 0 (map point_row front))
