-- the ids so far, and where they stand
use Rattle.std.proofs.Common.{◌≡◌, ℕ, List, map}
use Rattle.std.specs.Int.{w32}
use Rattle.std.proofs.lemmas.List.Edits.{sets}
use Rattle.fields.specs.Codec.{any}
use Rattle.fields.proofs.Loop.{IsAt}
use Rattle.record.proofs.copy.copy_splits.Given as goal

abbrev pub invariant-loop-split : goal.invariant-loop-split
invariant-loop-split l =
    (front : List ℕ) × IsAt (λ (_ : Unit {0}). any w32) (λ _. tt) tt l.count l.initial.reader l.split-index front tt l.reader
    × (l.split-items ≡ sets l.initial.split-items 0 (map (λ id. id) front))
