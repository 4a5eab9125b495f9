-- The contracts of balance and conform permit one answer each. Assumes nothing.
use Rattle.std.proofs.Common.{ℕ, ◌≡◌, refl, List, ◌∷◌, get_or, Result}
use Rattle.refusals.specs.Said.{Said}
use Rattle.refusals.specs.declared.Refusal.{Refusal}
use Rattle.refusals.proofs.Settled.{one-said}
use Rattle.table.specs.Rows.{head_of, head_values}
use Rattle.even.specs.declared.Evening.{Evening}
use Rattle.even.specs.Even.{evening_said}

abbrev evened : List ℕ → Evening
evened vs = record { splits = get_or vs 0 0; head = head_of (get_or vs 1 0) (get_or vs 2 0) (get_or vs 3 0) }

pub one-evening : (what : Said) (r q : Result Evening Refusal) → evening_said r ≡ what → evening_said q ≡ what → r ≡ q
one-evening = one-said (λ e. e.splits ∷ head_values e.head) evened (λ e. refl)
