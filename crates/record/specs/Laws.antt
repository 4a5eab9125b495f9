-- What the record's definitions come to: the laws that src/laws.rt promises. Definitions only.
use Rattle.std.specs.Prelude.{◌≡◌, ℕ, ◌<◌, ◌≤◌, List, [], ◌∷◌, ◌++◌, length, take, slice_index_or, IsTrue, Result, Ok}
use Rattle.refusals.specs.declared.Refusal.{Refusal}
use Rattle.refusals.specs.Said.{Said, accepted}
use Rattle.record.specs.declared.board.Read.{Read}
use Rattle.record.specs.Board.{Board, is_in_range, board}
use Rattle.record.specs.Rows.{Rows, filled, rows_for}
use Rattle.record.specs.Reading.{counts_of, read_said, has_room, read_leaves}
use Rattle.record.specs.Writing.{size_of, write_said, write_says, write_leaves}

-- the bytes that `write` puts of a board's rows
abbrev pub written : Board → List ℕ → List ℕ
written b out = take (size_of (rows_for b)) (write_leaves b.settings (rows_for b) out)

-- the rows of a board are written; what was put is a record that reads as the board, and is read to rows with room
pub record ReadsBack (b : Board) (out : List ℕ) : Type 0 where
  pub said : write_says (rows_for b) (length out) ≡ accepted (size_of (rows_for b) ∷ [])
  pub judged : board (written b out) ≡ Ok b
  pub read : (rows : Rows) → IsTrue (has_room rows (counts_of b)) → read_leaves (written b out) rows ≡ filled rows b

-- for every board in range
abbrev pub ReadWrite : Type 0
ReadWrite = (b : Board) (out : List ℕ) → IsTrue (is_in_range b) → size_of (rows_for b) ≤ length out → ReadsBack b out

-- and no record is read as a board that is not in range
abbrev pub ReadsInRange : Type 0
ReadsInRange =
    (bytes : List ℕ) (b : Board)
    → ((i : ℕ) → slice_index_or bytes i 0 < 256) → board bytes ≡ Ok b → IsTrue (is_in_range b)

-- byte 5 has max_level, behind the version and the length: a record that has 255 there is read as the one that has 4,
-- to the same board or to the same refusal
abbrev pub DefaultIsFour : Type 0
DefaultIsFour = (front behind : List ℕ) → length front ≡ 5 → board (front ++ 255 ∷ behind) ≡ board (front ++ 4 ∷ behind)

-- whatever is to be said, two answers that are permitted are one
abbrev pub OneRead : Type 0
OneRead =
    (what : Said) (answer other : Result Read Refusal)
    → read_said answer ≡ what → read_said other ≡ what → answer ≡ other

abbrev pub OneWritten : Type 0
OneWritten =
    (what : Said) (answer other : Result ℕ Refusal)
    → write_said answer ≡ what → write_said other ≡ what → answer ≡ other
