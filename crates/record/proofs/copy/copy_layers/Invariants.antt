-- the entries so far, and where they stand
use Rattle.std.proofs.Common.{◌≡◌, ℕ, List, map, Option, Some, None}
use Rattle.std.proofs.lemmas.List.Edits.{sets}
use Rattle.fields.proofs.Loop.{IsAt}
use Rattle.record.specs.declared.board.Version.TheVariants.{One}
use Rattle.record.specs.Board.{Entry, limits_of, entry}
use Rattle.record.specs.Rows.{entry_row}
use Rattle.record.proofs.copy.copy_layers.Given as goal

abbrev pub invariant-loop-entry : goal.invariant-loop-entry
invariant-loop-entry l =
    (front : List Entry) × (last : Option ℕ) × IsAt (entry (limits_of One)) (λ e. Some e.layer) None l.count l.initial.reader l.entry-index front last l.reader
    × (l.entry-items ≡ sets l.initial.entry-items 0 (map entry_row front))
