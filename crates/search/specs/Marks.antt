-- Marks on ids, one mark for each eight of them: which leaves a search marked.
use Rattle.std.specs.Prelude.{ℕ, ◌+◌, ◌/◌, ◌<◌, ◌≤◌, ◌≡◌, Bool, true, false, List, slice_index_or, None, ⊤}
use Rattle.table.specs.Mesh.{Cell, at}
use Rattle.search.specs.declared.marks.Marks.{Marks}
use Rattle.search.specs.declared.marks.Levels.{Levels}
use Rattle.search.specs.Search.{meet}

abbrev pub mark_at : Marks → ℕ → Bool
mark_at m a = slice_index_or m.groups (a / 8) false

-- no mark is taken away
abbrev pub KeepsMarks : Marks → Marks → Type 0
KeepsMarks old new = (a : ℕ) → mark_at old a ≡ true → mark_at new a ≡ true

-- every mark stays, and what is `seen` and `wanted` has one
pub record Marked (seen wanted : ℕ → Type 0) (old new : Marks) : Type 0 where
  pub kept : KeepsMarks old new
  pub marked : (a : ℕ) → seen a → wanted a → mark_at new a ≡ true

-- every mark stays, and each of these ids has one
abbrev pub MarksEach : (ℕ → Type 0) → Marks → Marks → Type 0
MarksEach ids old new = Marked ids (λ a. ⊤) old new

-- one of the four ids from `first` on
abbrev pub IsOfFour : ℕ → ℕ → Type 0
IsOfFour first a = (first ≤ a) × (a < first + 4)

-- no id from a below r has a mark
abbrev pub Unmarked : Marks → ℕ → ℕ → Type 0
Unmarked m a r = (i : ℕ) → a ≤ i → i < r → mark_at m i ≡ false

-- a is a leaf of a level from low to high that meets the cell p
pub record Wanted (t : List Cell) (p : ℕ) (levels : Levels) (a : ℕ) : Type 0 where
  pub leaf : (at t a).kids ≡ None
  pub fine : levels.low ≤ (at t a).level
  pub coarse : (at t a).level ≤ levels.high
  pub meets : meet (at t p).box (at t a).box ≡ true
