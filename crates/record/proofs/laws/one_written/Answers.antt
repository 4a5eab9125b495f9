use Rattle.std.proofs.Common.{ℕ, [], ◌∷◌, get_or, refl}
use Rattle.refusals.proofs.Settled.{one-said}
use Rattle.record.proofs.laws.one_written.Goals as goal

pub returns : goal.returns
returns c = one-said (λ (n : ℕ). n ∷ []) (λ vs. get_or vs 0 0) (λ n. refl)
