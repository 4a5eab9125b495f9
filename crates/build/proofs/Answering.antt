-- From the survey of a board, or the number of its roots, to the answer of a cut. Assumes nothing.
use Rattle.std.proofs.Common.{ℕ, zero, suc, ◌/◌, ◌<◌, ◌≤◌, ◌≡◌, refl, sym, ◌∙◌, List, [], ◌∷◌, arith, ltb, ℤ, length, Result, Ok, Err, lt-ltb, le-ltb}
use Rattle.refusals.specs.declared.Refusal.{Refusal}
use Rattle.refusals.specs.declared.Refusal.TheVariants.{NoRoom}
use Rattle.refusals.specs.Said.{accepted, refused, if_accepted}
use Rattle.refusals.proofs.Settled.{as-refused}
use Rattle.table.specs.Rows.{head_values}
use Rattle.strips.proofs.Picking.{split}
use Rattle.build.specs.Grid.{all_even}
use Rattle.build.specs.Board.{Board, polygons, unit, size_at, strips_at, roots_of}
use Rattle.build.specs.Says.{roots_head, even_from, room_for, filled}
use Rattle.build.specs.Steps.{IsSurvey, Surveyed, roots_said, room_in, counted_said, IsCut}
use Rattle.build.proofs.Fitting.{refused-accepted}

module _ (b : Board) (t : List ℤ) where
  pub cut-uneven : (slots : ℕ) (why : Refusal) → Surveyed b slots (Err why) → IsCut b t t (Err why)
  cut-uneven slots why s = record { says = sym (s (room_for b (length t / 8) (length (roots_of b)))); slots = rw (as-refused why).2 refl }

  module _ (n : ℕ) (s : IsSurvey b (length t / 8) n) where
    pub cut-full : length t / 8 < n → IsCut b t t (Err NoRoom)
    cut-full h =
        let c = s.counted in
        record { says = sym (s.even _ ∙ rw (lt-ltb (length t / 8) (length (roots_of b)) (omega arith)) refl); slots = refl }

    pub cut-done : (u : List ℤ) (k : ℕ) → n ≤ length t / 8 → k ≡ length (roots_of b) → u ≡ filled b (length t) → IsCut b t u (Ok k)
    cut-done u k h e f =
        let c = s.counted in
        record { says = rw e (sym (s.even _ ∙ rw (le-ltb (length t / 8) (length (roots_of b)) (omega arith)) refl)); slots = f }

-- the number of a board's roots tells their head
module _ (b : Board) where
  refused-too : (answer : Result ℕ Refusal) (number place : ℕ) → roots_said answer ≡ refused number place → counted_said b answer ≡ refused number place
  refused-too (Ok k) number place e = absurd (refused-accepted number place (k ∷ []) (sym e))
  refused-too (Err why) number place e = e

  accepted-too : (answer : Result ℕ Refusal) (n : ℕ) → roots_said answer ≡ accepted (n ∷ []) → counted_said b answer ≡ accepted (head_values (roots_head b n))
  accepted-too (Ok k) n e = let same : k ≡ n = cc in rw same refl
  accepted-too (Err why) n e = let no = as-refused why in absurd (refused-accepted no.0 no.1 (n ∷ []) (sym no.2 ∙ e))

  module _ (answer : Result ℕ Refusal) (slots : ℕ) where
    said-too : (p n : ℕ) → roots_said answer ≡ even_from b p n (room_in slots (length (roots_of b)))
        → counted_said b answer ≡ even_from b p n (room_for b slots (length (roots_of b)))
    unfolding even_from
    said-too p zero e =
        split (ltb slots (length (roots_of b)))
        (λ q. rw q (refused-too answer 6 0 (rw q at e)))
        (λ q. rw q (accepted-too answer (length (roots_of b)) (rw q at e)))
    said-too p (suc n) e =
        split (all_even (unit b) b.settings.cap (size_at b p) (strips_at b p))
        (λ q. rw q (said-too (suc p) n (rw q at e)))
        (λ q. rw q (refused-too answer 5 p (rw q at e)))

  left-too : (answer : Result ℕ Refusal) (t u : List ℤ) → if_accepted (roots_said answer) u t ≡ if_accepted (counted_said b answer) u t
  left-too (Ok k) t u = refl
  left-too (Err why) t u = refl

  pub cut-counted : (t u : List ℤ) (answer : Result ℕ Refusal) → roots_said answer ≡ even_from b 0 (polygons b) (room_in (length t / 8) (length (roots_of b)))
      → u ≡ if_accepted (roots_said answer) (filled b (length t)) t → IsCut b t u answer
  cut-counted t u answer e f = record { says = said-too answer (length t / 8) 0 (polygons b) e; slots = f ∙ left-too answer t (filled b (length t)) }
