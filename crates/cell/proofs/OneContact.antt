-- The contract of `between` permits one answer; and of the two exchanged the same, turned. Assumes nothing.
use Rattle.std.proofs.Common.{ℕ, zero, suc, ◌≡◌, refl, ap, ◌∙◌, Bool, true, false, ◌&&◌, List, [], ◌∷◌, Option, None, Some, Result, Ok, Err}
use Rattle.refusals.specs.declared.Refusal.{Refusal}
use Rattle.refusals.specs.declared.Refusal.TheVariants.{OutOfRange}
use Rattle.refusals.proofs.Settled.{one-said}
use Rattle.cell.specs.declared.border.Border.{Border}
use Rattle.cell.specs.declared.border.Side.{Side}
use Rattle.cell.specs.declared.border.Side.TheVariants.{South, East, North, West}
use Rattle.cell.specs.declared.rectangles.Rect.{Rect}
use Rattle.std.specs.Int.Signed.{lt_z}
use Rattle.cell.specs.Ticks.{in_range}
use Rattle.cell.specs.Boxes.{HasArea, side_number, border}
use Rattle.cell.specs.Contact.{sound_rect, moved, border_values, contact_said, contact_says}
use Rattle.cell.specs.Laws.{answer_turned}
use Rattle.cell.proofs.Borders.{border-turned}
use Rattle.cell.proofs.Contact.{and_left, and_right}
use Rattle.cell.proofs.Offsets.{off-rises}

abbrev numbered : ℕ → Side
numbered zero = South
numbered (suc zero) = East
numbered (suc (suc zero)) = North
numbered (suc (suc (suc n))) = West

abbrev pub told-border : List ℕ → Option Border
told-border [] = None
told-border (s ∷ []) = None
told-border (s ∷ length ∷ vs) = Some (record { side = numbered s; length = length })

number-back : (s : Side) → numbered (side_number s) ≡ s
number-back South = refl
number-back East = refl
number-back North = refl
number-back West = refl

border-back : (o : Option Border) → told-border (border_values o) ≡ o
border-back None = refl
border-back (Some b) = rw (number-back b.side) refl

pub one-contact : (a b : Rect) (r q : Result (Option Border) Refusal) → contact_said r ≡ contact_says a b → contact_said q ≡ contact_says a b → r ≡ q
one-contact a b = one-said border_values told-border border-back (contact_says a b)

-- ---- the two exchanged

-- the answer that the contract asks for, where both are sound and where one is not
abbrev due : Rect → Rect → Bool → Result (Option Border) Refusal
due a b true = Ok (border (moved a) (moved b))
due a b false = Err (OutOfRange 0)

due-said : (a b : Rect) (s : Bool) → (sound_rect a && sound_rect b) ≡ s → contact_said (due a b s) ≡ contact_says a b
unfolding contact_says
due-said a b true e = rw e refl
due-said a b false e = rw e refl

has-area : (a : Rect) → sound_rect a ≡ true → HasArea (moved a)
unfolding sound_rect
has-area a e =
    let e1 = and_left _ (lt_z a.y0 a.y1) e in
    let e2 = and_left _ (lt_z a.x0 a.x1) e1 in
    let e3 = and_left _ (in_range a.y1) e2 in
    let e4 = and_left _ (in_range a.x1) e3 in
    let high = and_right _ (lt_z a.y0 a.y1) e in
    let wide = and_right _ (lt_z a.x0 a.x1) e1 in (
      off-rises a.x0 a.x1 (and_left _ (in_range a.y0) e4) (and_right _ (in_range a.x1) e3) wide,
      off-rises a.y0 a.y1 (and_right _ (in_range a.y0) e4) (and_right _ (in_range a.y1) e2) high,
    )

due-turned : (a b : Rect) (s : Bool) → (sound_rect a && sound_rect b) ≡ s → due b a s ≡ answer_turned (due a b s)
due-turned a b true e =
    ap Ok (border-turned (moved a) (moved b) (has-area a (and_left _ _ e)) (has-area b (and_right (sound_rect a) _ e)))
due-turned a b false e = refl

and-turned : (s t : Bool) → (t && s) ≡ (s && t)
and-turned true true = refl
and-turned true false = refl
and-turned false true = refl
and-turned false false = refl

pub answer-turned : (a b : Rect) (r q : Result (Option Border) Refusal) → contact_said r ≡ contact_says a b → contact_said q ≡ contact_says b a
    → q ≡ answer_turned r
answer-turned a b r q p h =
    let both = sound_rect a && sound_rect b in
    let e = due-said b a both (and-turned (sound_rect a) (sound_rect b)) in
    one-contact b a q (due b a both) h e
    ∙ due-turned a b both refl
    ∙ ap answer_turned (one-contact a b (due a b both) r (due-said a b both refl) p)
