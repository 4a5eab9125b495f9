-- What the form of every contract of this project comes to.
use Rattle.std.specs.Prelude.{ℕ, ◌≡◌, List, Result}
use Rattle.refusals.specs.declared.Refusal.{Refusal}
use Rattle.refusals.specs.Said.{Said, said}

-- A contract of this project says `said values result ≡ what`. Where an answer can be told from its values (`told`
-- takes it back out of them), any two answers that such a contract permits are one.
abbrev pub PermitsOneAnswer : Type 0 → Type 0
PermitsOneAnswer A =
    (values : A → List ℕ) (told : List ℕ → A) → ((a : A) → told (values a) ≡ a)
    → (what : Said) (a b : Result A Refusal) → said values a ≡ what → said values b ≡ what → a ≡ b
