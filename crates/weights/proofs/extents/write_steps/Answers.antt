use Rattle.std.proofs.Common.{[], ◌∷◌, ℕ, ◌≡◌, ◌+◌, ◌-◌, ◌<◌, List, length, ◌∙◌, ap, set, sym, subst, arith}
use Rattle.weights.specs.Lines.{at}
use Rattle.weights.proofs.Order.{num}
use Rattle.weights.proofs.Steps.{Stepping, stepped_on, stepped_away, stepped_all}
use Rattle.weights.proofs.extents.write_steps.Goals.{then-not-shares_place, else-not-shares_place}
use Rattle.weights.proofs.extents.write_steps.Goals as goal

pub loop-k-init : goal.loop-k-init
loop-k-init c = λ ns L. record { done = λ l h g. absurd (omega arith); at-hand = λ h. absurd (omega arith); ends = λ h. absurd (omega arith) }

pub loop-k-preserved : goal.loop-k-preserved
loop-k-preserved c = λ ns L.
    let row = c.args.row.now in
    let steps = c.loop-k.steps in
    let k = c.loop-k.k in
    let j = k - 1 in
    let above : k ≡ j + 1 = omega arith in
    let here : j < length row = omega arith in
    let there = c.requires.numbers j [] here in
    let i = num (at row j) 3 in
    elim c.if-not-shares_place.branch [
      | then-not-shares_place w ↦
          subst (λ (n : ℕ). Stepping ns row (set steps i c.if-not-shares_place.step) c.if-not-shares_place.step n j) (sym w.last-is)
          (subst (λ (s : List ℕ). Stepping ns row (set steps i s) s i j) (sym (w.step-is ∙ ap (λ (r : ℕ). r ∷ c.loop-k.last ∷ []) w.rise_at.ensures))
          (stepped_away ns row L steps c.loop-k.step c.loop-k.last k j above here (omega arith) (c.loop-k.invariant ns L) (sym c.shares_place.ensures ∙ w.if-not-shares_place.true)))
      | else-not-shares_place w ↦
          subst (λ (n : ℕ). Stepping ns row (set steps i c.if-not-shares_place.step) c.if-not-shares_place.step n j) (sym w.last-is)
          (subst (λ (s : List ℕ). Stepping ns row (set steps i s) s c.loop-k.last j) (sym w.step-is)
          (stepped_on ns row L steps c.loop-k.step c.loop-k.last k j above here (omega arith) (c.loop-k.invariant ns L) (sym c.shares_place.ensures ∙ w.if-not-shares_place.false)))
    ]

pub returns : goal.returns
returns c = λ ns L. stepped_all ns c.args.row.now L _ _ _ _ (omega arith) (c.loop-k.invariant ns L)
