-- What balance and conform say, what the row then holds, and the coarsest splitting by names.
use Rattle.std.specs.Prelude.{ℕ, ◌+◌, ◌*◌, ◌-◌, ◌/◌, ◌<◌, ◌≤◌, ◌≡◌, if◌then◌else◌, nat_le, List, [], ◌∷◌, ℤ, length}
use Rattle.std.specs.Prelude.{Result}
use Rattle.refusals.specs.Said.{Said, accepted, refused, refusal, said}
use Rattle.refusals.specs.declared.Refusal.{Refusal}
use Rattle.refusals.specs.declared.Refusal.TheVariants.{BadTable, NoRoom}
use Rattle.table.specs.declared.Head.{Head}
use Rattle.table.specs.Mesh.{Cell, table, leaf_count}
use Rattle.table.specs.Formed.{WellFormed, well_formed}
use Rattle.table.specs.Rows.{cells_in, head_of, head_values}
use Rattle.refusals.specs.Said.{is_accepted}
use Rattle.coarsest.specs.declared.Engine.{Engine}
use Rattle.coarsest.specs.Passes.{evened, difference}
use Rattle.coarsest.specs.Names.{Evens, Needs}
use Rattle.even.specs.declared.Evening.{Evening}
use Rattle.even.specs.Rows.{row_of}

-- an answer's values: the number of splits, and the new head
abbrev pub evening_said : Result Evening Refusal → Said
evening_said = said (λ e. e.splits ∷ head_values e.head)

-- the cells that the passes of the rules end in, with unlimited room
abbrev pub even_cells : Engine → List ℤ → Head → List Cell
even_cells e row head = evened e (difference e) head.max_level (cells_in row head)

-- the head of the table that holds them
abbrev pub even_head : Engine → List ℤ → Head → Head
even_head e row head =
    let cells = even_cells e row head in head_of (length cells) (leaf_count cells) head.max_level

-- three leaves more a split
abbrev pub even_splits : Engine → List ℤ → Head → ℕ
even_splits e row head = (leaf_count (even_cells e row head) - head.leaves) / 3

-- 7, then 6 where they are more than the slots
unfoldable pub even_says : Engine → List ℤ → Head → Said
even_says e row head =
    if well_formed row head then
    (if nat_le (length (even_cells e row head)) (length row / 8) then
    accepted (even_splits e row head ∷ head_values (even_head e row head))
    else refusal NoRoom)
    else refusal BadTable

-- exactly those cells, id for id, padded with zeros; a refused call changes nothing
unfoldable pub even_row : Engine → List ℤ → Head → List ℤ
even_row e row head =
    if is_accepted (even_says e row head) then row_of (even_cells e row head) (length row) else row

-- The promise with no word of passes. A well-formed table has a coarsest splitting; if that has no more cells than
-- there are slots the call is accepted with exactly that count, and what was done is that splitting, four cells and
-- three leaves more a split; if it has more, the answer is 6. A table that is not well formed: 7. Refused, the row is
-- as it was
pub record EndsCoarsest (e : Engine) (head : Head) (old new : List ℤ) (said : Said) : Type 0 where
  pub exists : WellFormed old head
      → (cells : ℕ) × Needs (difference e) head.max_level (cells_in old head) cells
  pub fits : WellFormed old head
      → (cells : ℕ) → Needs (difference e) head.max_level (cells_in old head) cells
      → cells ≤ length old / 8 → (splits leaves : ℕ) × (said ≡ accepted (splits ∷ cells ∷ leaves ∷ head.max_level ∷ []))
  pub done : (splits count leaves : ℕ) → said ≡ accepted (splits ∷ count ∷ leaves ∷ head.max_level ∷ [])
      → Evens (difference e) head.max_level (cells_in old head) (table new count)
      × (count ≡ head.count + 4 * splits) × (leaves ≡ head.leaves + 3 * splits)
  pub over : WellFormed old head
      → (cells : ℕ) → Needs (difference e) head.max_level (cells_in old head) cells
      → length old / 8 < cells → (said ≡ refused 6 0) × (new ≡ old)
  pub bad : (WellFormed old head → ⊥) → (said ≡ refused 7 0) × (new ≡ old)
