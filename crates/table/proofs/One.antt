-- The contracts permit one answer each. Assumes nothing.
use Rattle.std.proofs.Common.{ℕ, ◌≡◌, refl, [], ◌∷◌, get_or, Result}
use Rattle.refusals.specs.Said.{Said}
use Rattle.refusals.specs.declared.Refusal.{Refusal}
use Rattle.refusals.proofs.Settled.{one-said}
use Rattle.table.specs.declared.Head.{Head}
use Rattle.table.specs.Rows.{head_of, head_values}
use Rattle.table.specs.Leaves.{listed_said}
use Rattle.table.specs.Refine.{refined_said}

pub one_list : (what : Said) (r q : Result ℕ Refusal) → listed_said r ≡ what → listed_said q ≡ what → r ≡ q
one_list = one-said (λ n. n ∷ []) (λ vs. get_or vs 0 0) (λ n. refl)

pub one-refined : (what : Said) (r q : Result Head Refusal) → refined_said r ≡ what → refined_said q ≡ what → r ≡ q
one-refined =
    one-said head_values (λ vs. head_of (get_or vs 0 0) (get_or vs 1 0) (get_or vs 2 0)) (λ h. refl)
