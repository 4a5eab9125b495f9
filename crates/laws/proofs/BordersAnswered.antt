-- What contact answers on a side is the length there: the law that src/borders.rt promises. Assumes nothing.
use mathlib.Core.Bool.{false≢true}
use mathlib.Core.Logic.{by_cases}
use native.Mathlib.Decide.{dec_lt}
use borrow.Author.Tests.{eqb-false}
use Rattle.std.proofs.Common.{◌≡◌, refl, sym, ap, ◌∙◌, Bool, true, false, cond, Option, None, Some, [], ◌∷◌, ℕ, ◌<◌, arith, eqb, eqb-true}
use Rattle.std.specs.Option.{is_some, unwrap_or}
use Rattle.cell.specs.declared.border.Border.{Border}
use Rattle.cell.specs.declared.border.Side.{Side}
use Rattle.cell.specs.declared.border.Side.TheVariants.{South, East, North, West}
use Rattle.cell.specs.Boxes.{side_number, length_on, border}
use Rattle.cell.proofs.OneContact.{told-border}
use Rattle.cell.proofs.Borders.{on-side, one-side, on-any-side, has-length}
use Rattle.laws.specs.Borders.{answered_on, BordersAreAnswered}

-- sides of one number are the same: a border is told back from its values
told : (s : Side) → told-border (side_number s ∷ 1 ∷ []) ≡ Some (record { side = s; length = 1 })
told South = refl
told East = refl
told North = refl
told West = refl

side-same : (s t : Side) → side_number s ≡ side_number t → s ≡ t
side-same s t e =
    ap (λ (o : Option Border). (unwrap_or {T = Border} o (record { side = t; length = 1 })).side) (sym (told s) ∙ ap (λ n. told-border (n ∷ 1 ∷ [])) e ∙ told t)

none-there : (n : ℕ) → (0 < n → ⊥) → 0 ≡ n
none-there n h = by_cases (dec_lt 0 n) (λ p. absurd (h p)) (λ p. omega arith)

pub borders-answered : BordersAreAnswered
borders-answered a b i j s = by (border a b) refl
  where
    by : (o : Option Border) → border a b ≡ o → answered_on s o ≡ length_on s a b
    by None e = none-there (length_on s a b) (λ p. false≢true (ap is_some (sym e ∙ on-any-side a b i j s p)))
    by (Some c) e = test (eqb (side_number c.side) (side_number s)) refl (has-length a b c e)
      where
        test : (u : Bool) → eqb (side_number c.side) (side_number s) ≡ u → (c.length ≡ length_on c.side a b) × (0 < c.length)
            → cond u c.length 0 ≡ length_on s a b
        test true d h = h.0 ∙ ap (λ (z : Side). length_on z a b) (side-same c.side s (eqb-true (side_number c.side) (side_number s) d))
        test false d h =
            let there : 0 < length_on c.side a b = omega (arith, h.0, h.1) in
            none-there (length_on s a b)
            (λ p. eqb-false (side_number c.side) (side_number s) d (ap side_number (one-side a b i j c.side s (on-side c.side a b there) (on-side s a b p))))
