-- Laws of the strips. Each is the contract of a function of src/laws.rt.
use Rattle.std.specs.Prelude.{ℕ, ◌%◌, ◌≡◌, false, List, ◌∷◌, ◌++◌, length, ℤ, Result}
use Rattle.refusals.specs.declared.Refusal.{Refusal}
use Rattle.strips.specs.Rings.{ring_slants}
use Rattle.strips.specs.Strips.{levels, crossings}
use Rattle.strips.specs.Said.{stripped_said, strips_says, strips_leave}

-- what a call of `strips` comes to: its answer, and what the lent row holds then
pub record Outcome : Type 0 where
  pub answer : Result ℕ Refusal
  pub row : List (List ℤ)

-- the contract of `strips` allows it for these points and this row
pub record IsAllowed (points row : List (List ℤ)) (outcome : Outcome) : Type 0 where
  pub said : stripped_said outcome.answer ≡ strips_says points (length row)
  pub left : outcome.row ≡ strips_leave points row

abbrev pub OneOutcome : Type 0
OneOutcome = (points row : List (List ℤ)) (a b : Outcome) → IsAllowed points row a → IsAllowed points row b → a ≡ b

-- "pair up into strips": between neighbouring levels of a ring that isn't slanted the crossings come in an even number
abbrev pub CrossingsPairUp : Type 0
CrossingsPairUp =
    (points : List (List ℤ)) (lo hi : ℕ) (below above : List ℕ)
    → ring_slants points ≡ false → levels points ≡ below ++ (lo ∷ hi ∷ above) → length (crossings points lo hi) % 2 ≡ 0
