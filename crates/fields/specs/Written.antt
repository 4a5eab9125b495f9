-- Lent bytes that are written from left to right.
use Rattle.std.specs.Prelude.{◌≡◌, ◌≤◌, ℕ, ◌+◌, List, length}
use Rattle.std.proofs.lemmas.List.Edits.{sets}
use Rattle.fields.specs.declared.writer.Writer.{Writer}

-- so many bytes are left
abbrev pub HasRoom : ℕ → Writer → Type 0
HasRoom n w = w.at + n ≤ length w.bytes.now

-- so many bytes were written where the writer stood, in the same lent row, and it stands behind them
pub record Writes (n : ℕ) (what : List ℕ) (old new : Writer) : Type 0 where
  pub next : new.at ≡ old.at + n
  pub stored : new.bytes.now ≡ sets old.bytes.now old.at what
  pub row_length : length new.bytes.now ≡ length old.bytes.now
  pub same_reference : new.bytes.ghost_name ≡ old.bytes.ghost_name
