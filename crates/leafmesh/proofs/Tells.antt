-- What contact says is told back from its outcome: a border is never of length 0. Assumes nothing.
use Rattle.std.proofs.Common.{ℕ, zero, suc, ◌<◌, ◌≡◌, refl, sym, ap, ◌∙◌, Bool, true, false, ◌&&◌, List, [], ◌∷◌, Option, None, Some, arith}
use Rattle.refusals.specs.Said.{Said, accepted, refused}
use Rattle.cell.specs.declared.border.Border.{Border}
use Rattle.cell.specs.declared.rectangles.Rect.{Rect}
use Rattle.cell.specs.Boxes.{side_number, border}
use Rattle.cell.specs.Contact.{sound_rect, moved, border_values, contact_says}
use Rattle.cell.proofs.Borders.{has-length}
use Rattle.leafmesh.specs.declared.BorderOutcome.{BorderOutcome}
use Rattle.leafmesh.specs.Outcome.{border_outcome_of}

-- by number, place, side and length
abbrev told-by : ℕ → ℕ → ℕ → ℕ → Said
told-by zero p s zero = accepted []
told-by zero p s (suc l) = accepted (s ∷ suc l ∷ [])
told-by (suc n) p s l = refused (suc n) p

abbrev told : BorderOutcome → Said
told o = told-by o.number o.place o.side o.length

told-positive : (s l : ℕ) → 0 < l → told-by 0 0 s l ≡ accepted (s ∷ l ∷ [])
told-positive s zero h = absurd (omega (arith, h))
told-positive s (suc l) h = refl

border-told : (a b : Rect) (o : Option Border) → border (moved a) (moved b) ≡ o → told (border_outcome_of (accepted (border_values o))) ≡ accepted (border_values o)
border-told a b None e = refl
border-told a b (Some c) e = told-positive (side_number c.side) c.length (has-length (moved a) (moved b) c e).1

told-back : (a b : Rect) → told (border_outcome_of (contact_says a b)) ≡ contact_says a b
unfolding contact_says
told-back a b = by (sound_rect a && sound_rect b) refl
  where
    by : (t : Bool) → (sound_rect a && sound_rect b) ≡ t → told (border_outcome_of (contact_says a b)) ≡ contact_says a b
    by true e = rw e (border-told a b (border (moved a) (moved b)) refl)
    by false e = rw e refl

pub border-tells : (a b c d : Rect) → border_outcome_of (contact_says a b) ≡ border_outcome_of (contact_says c d) → contact_says a b ≡ contact_says c d
border-tells a b c d e = sym (told-back a b) ∙ ap told e ∙ told-back c d
