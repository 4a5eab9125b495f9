-- the points so far, and where they stand
use Rattle.std.proofs.Common.{List}
use Rattle.fields.proofs.Loop.{IsAt}
use Rattle.record.specs.Board.{Point, point}
use Rattle.record.proofs.walk.read_ring.Given as goal

abbrev pub invariant-loop : goal.invariant-loop
invariant-loop l = (front : List Point) × IsAt (λ (_ : Unit {0}). point) (λ _. tt) tt l.count l.initial.reader l.counter front tt l.reader
