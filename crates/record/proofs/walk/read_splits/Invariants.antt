-- the ids so far, and where they stand
use Rattle.std.proofs.Common.{ℕ, List}
use Rattle.std.specs.Int.{w32}
use Rattle.fields.specs.Codec.{any}
use Rattle.fields.proofs.Loop.{IsAt}
use Rattle.record.proofs.walk.read_splits.Given as goal

abbrev pub invariant-loop : goal.invariant-loop
invariant-loop l = (front : List ℕ) × IsAt (λ (_ : Unit {0}). any w32) (λ _. tt) tt l.count l.initial.reader l.counter front tt l.reader
