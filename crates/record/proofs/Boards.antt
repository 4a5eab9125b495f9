-- A whole record, step by step.
use Rattle.std.proofs.Common.{◌≡◌, ℕ, List, length, Result, Ok, Err, eqb, true, false, refl, sym, ap, ◌∙◌, eq-eqb}
use Rattle.std.specs.Int.{w8, w32}
use Rattle.refusals.specs.declared.Refusal.{Refusal}
use Rattle.refusals.specs.declared.Refusal.TheVariants.{NoRoom}
use Rattle.fields.specs.Cursor.{Cursor, start, number}
use Rattle.record.specs.declared.board.Read.{Read}
use Rattle.record.specs.declared.board.Version.{Version}
use Rattle.record.specs.Board.{Board, version_of, limits_of, body, board}
use Rattle.record.specs.Rows.{Rows}
use Rattle.record.specs.Reading.{counts_of, summary_of, checked, has_room, reading}

-- what its parts are read as, it is read as
pub board_is : (bytes : List ℕ) (first : ℕ × Cursor) (v : Version) (n : ℕ × Cursor) (b : Board × Cursor) → number w8 (start bytes) ≡ Ok first → version_of first.0 ≡ Ok v
    → number w32 first.1 ≡ Ok n → n.0 ≡ length n.1.rest → (body (limits_of v)).reading n.1 ≡ Ok b → length b.1.rest ≡ 0 → board bytes ≡ Ok b.0
unfolding board
board_is bytes first v n b read_first known read_length whole read_body nothing =
    let same : eqb n.0 (length n.1.rest) ≡ true = eq-eqb n.0 (length n.1.rest) whole in
    let ended : eqb (length b.1.rest) 0 ≡ true = eq-eqb (length b.1.rest) 0 nothing in
    rw (read_first, known, read_length, same, read_body, ended) refl

-- ---- what `read` comes to

checked_err : (r : Result Board Refusal) (e : Refusal) → Err e ≡ checked r → r ≡ Err e
checked_err (Ok b) e h = absurd cc
checked_err (Err d) e h = cc

checked_ok : (b : Board) (s : Read) → Ok s ≡ checked (Ok b) → s ≡ summary_of b
checked_ok b s h = cc

pub found : (r : Result Board Refusal) (s : Read) → Ok s ≡ checked r → (b : Board) × (r ≡ Ok b) × (s ≡ summary_of b)
found (Ok b) s h = (b, refl, checked_ok b s h)
found (Err d) s h = absurd cc

module _ (bytes : List ℕ) (rows : Rows) where
  pub reading_refused : (e : Refusal) → Err e ≡ checked (board bytes) → reading bytes rows ≡ Err e
  unfolding reading
  reading_refused e h = rw (checked_err (board bytes) e h) refl

  pub reading_full : (s : Read) → Ok s ≡ checked (board bytes) → has_room rows s.counts ≡ false → reading bytes rows ≡ Err NoRoom
  unfolding reading
  reading_full s h full =
      let b = found (board bytes) s h in
      let none : has_room rows (counts_of b.0) ≡ false = ap (λ (x : Read). has_room rows x.counts) (sym b.2) ∙ full in
      rw (b.1, none) refl

  pub reading_done : (s : Read) (b : Board) → Ok s ≡ checked (board bytes) → has_room rows s.counts ≡ true → board bytes ≡ Ok b → reading bytes rows ≡ Ok b
  unfolding reading
  reading_done s b h room is =
      let same : s ≡ summary_of b = checked_ok b s (h ∙ ap checked is) in
      let enough : has_room rows (counts_of b) ≡ true = ap (λ (x : Read). has_room rows x.counts) (sym same) ∙ room in
      rw (is, enough) refl
