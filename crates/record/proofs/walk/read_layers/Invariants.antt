-- the entries so far, and where they stand
use Rattle.std.proofs.Common.{List, Some, None}
use Rattle.fields.proofs.Loop.{IsAt}
use Rattle.record.specs.Board.{Entry, entry}
use Rattle.record.proofs.walk.read_layers.Given as goal

abbrev pub invariant-loop : goal.invariant-loop
invariant-loop l = (front : List Entry) × IsAt (entry l.limits) (λ e. Some e.layer) None l.count l.initial.reader l.counter front l.last l.reader
