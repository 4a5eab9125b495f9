-- The contract of `cell_power` permits one answer and one content of the row of answers. Assumes nothing.
use Rattle.std.proofs.Common.{refl, sym, ◌∙◌, []}
use Rattle.refusals.proofs.Settled.{one-said}
use Rattle.power.specs.Powers.{power_says}
use Rattle.power.specs.Laws.{OneAnswer, OneContent}

pub one-power : OneAnswer
one-power nodes edges cells us lent = one-said (λ u. []) (λ vs. tt) (λ u. refl) (power_says nodes edges cells us lent)

pub one-row : OneContent
one-row nodes edges cells us lent left other p q = p ∙ sym q
