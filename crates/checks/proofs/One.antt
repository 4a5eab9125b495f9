-- The contracts of the two checks permit one answer and one content of the row each. Assumes nothing.
use Rattle.std.proofs.Common.{ℕ, ◌≡◌, refl, sym, ◌∙◌, List, [], ◌∷◌, Option, None, Some}
use Rattle.refusals.proofs.Settled.{one-said}
use Rattle.checks.specs.declared.asked.Hanging.{Hanging}
use Rattle.checks.specs.Checks.{fault_values}
use Rattle.checks.specs.Laws.{OneAnswer, OneContent}

abbrev told : List ℕ → Option Hanging
told [] = None
told (m ∷ []) = None
told (m ∷ a ∷ []) = None
told (m ∷ a ∷ b ∷ vs) = Some (record { node = m; start = a; end = b })

pub one-answer : OneAnswer
one-answer = one-said fault_values told back
  where
    back : (r : Option Hanging) → told (fault_values r) ≡ r
    back None = refl
    back (Some h) = refl

pub one-content : OneContent
one-content n e accepted w u v a b = a ∙ sym b
