-- The contracts of the exported calls permit one answer each, since each gives the whole answer. Assumes nothing.
use Rattle.std.proofs.Common.{◌≡◌, sym, ◌∙◌}

-- where the contract is `r ≡ outcome_of ..` or the like
pub one-exported : {A : Type 0} (what r q : A) → r ≡ what → q ≡ what → r ≡ q
one-exported what r q p s = p ∙ sym s
