-- What balance and conform come to, and that their promises leave one answer. crates/even/src/laws.rt promises each.
use Rattle.std.specs.Prelude.{ℕ, ◌≡◌, List, ℤ, Result}
use Rattle.refusals.specs.Said.{Said}
use Rattle.refusals.specs.declared.Refusal.{Refusal}
use Rattle.table.specs.declared.Head.{Head}
use Rattle.table.specs.Mesh.{Cell}
use Rattle.table.specs.Formed.{Formed}
use Rattle.coarsest.specs.declared.Engine.{Engine}
use Rattle.coarsest.specs.Passes.{balance, conform}
use Rattle.coarsest.specs.Names.{Evens}
use Rattle.even.specs.declared.Evening.{Evening}
use Rattle.even.specs.Even.{evening_said, even_says, even_row, EndsCoarsest}

-- balance gives the coarsest splitting in which no two leaves that share an edge differ by more than one level
abbrev pub BalanceEvens : Type 0
BalanceEvens = (M : ℕ) (t : List Cell) → Formed M t → Evens 1 M t (balance M t)

-- conform, in which none differ
abbrev pub ConformEvens : Type 0
ConformEvens = (M : ℕ) (t : List Cell) → Formed M t → Evens 0 M t (conform M t)

-- what is said and done by the passes, word for word, is what the coarsest splitting by names asks for, of every row
abbrev pub DefinitionsAgree : Type 0
DefinitionsAgree =
    (e : Engine) (head : Head) (row : List ℤ) → EndsCoarsest e head row (even_row e row head) (even_says e row head)

-- two answers that say the same are the same
abbrev pub OneEvening : Type 0
OneEvening = (what : Said) (r q : Result Evening Refusal) → evening_said r ≡ what → evening_said q ≡ what → r ≡ q
