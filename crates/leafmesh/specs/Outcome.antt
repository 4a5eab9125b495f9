-- An Outcome of what a call says: every field is settled, and one that does not apply is 0.
use Rattle.std.specs.Prelude.{ℕ, List, [], ◌∷◌, slice_index, ℤ}
use Rattle.refusals.specs.Said.{Said, accepted, refused}
use Rattle.build.specs.declared.Settings as Cutting
use Rattle.record.specs.declared.board.Settings as Recorded
use Rattle.cell.specs.declared.rectangles.Rect.{Rect}
use Rattle.leafmesh.specs.declared.Outcome.{Outcome}
use Rattle.leafmesh.specs.declared.BorderOutcome.{BorderOutcome}
use Rattle.leafmesh.specs.declared.TableOutcome.{TableOutcome}

-- an Outcome has one value, 0 where the answer has none
abbrev pub outcome_of : Said → Outcome
outcome_of (accepted vs) = record { number = 0; place = 0; value = slice_index vs 0 }
outcome_of (refused n p) = record { number = n; place = p; value = 0 }

-- the side and the length of a border; none has neither
abbrev pub border_outcome_of : Said → BorderOutcome
border_outcome_of (accepted vs) = record { number = 0; place = 0; side = slice_index vs 0; length = slice_index vs 1 }
border_outcome_of (refused n p) = record { number = n; place = p; side = 0; length = 0 }

abbrev table_with : ℕ → ℕ → ℕ → List ℕ → TableOutcome
table_with n p splits head =
    record {
      number = n;
      place = p;
      splits = splits;
      count = slice_index head 0;
      leaves = slice_index head 1;
      max_level = slice_index head 2;
    }

-- of an answer whose values are a head: there are no splits to tell of
abbrev pub head_outcome_of : Said → TableOutcome
head_outcome_of (accepted head) = table_with 0 0 0 head
head_outcome_of (refused n p) = table_with n p 0 []

-- of one whose values are the splits and a head
abbrev pub evening_outcome_of : Said → TableOutcome
evening_outcome_of (accepted []) = table_with 0 0 0 []
evening_outcome_of (accepted (splits ∷ head)) = table_with 0 0 splits head
evening_outcome_of (refused n p) = table_with n p 0 []

abbrev pub rect_of : ℤ → ℤ → ℤ → ℤ → Rect
rect_of x0 y0 x1 y1 = record { x0 = x0; y0 = y0; x1 = x1; y1 = y1 }

abbrev pub cut_settings : ℕ → ℕ → ℕ → Cutting.Settings
cut_settings level cap target = record { max_level = level; cap = cap; target = target }

abbrev pub board_settings : ℕ → ℕ → ℕ → Recorded.Settings
board_settings level cap target = record { level = level; cap = cap; target = target }
