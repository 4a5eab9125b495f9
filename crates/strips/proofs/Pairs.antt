-- What a search over a ring's edges finds are the crossings of a band. Assumes nothing.
use Rattle.std.proofs.Common.{ℕ, suc, ◌+◌, ◌%◌, ◌/◌, ◌<◌, ◌≤◌, ◌≡◌, refl, sym, ap, ap₂, subst, map, ◌∙◌, Bool, true, false, not, List, [], ◌∷◌, arith, ℤ, Some, None, length, drop, get_or, ltb, ltb-true, ltb-false, lt-ltb, length-drop, get_or-drop, drop-drop, drop_of_length-le}
use Rattle.std.specs.List.{filter, position, prefix_len}
use Rattle.cell.specs.Ticks.{on}
use Rattle.refusals.specs.Limits.{max_points}
use Rattle.strips.specs.Strips.{pair_up}
use Rattle.strips.specs.Walk.{spans, crossed, crosses_at, IsBand, BeginAtPoints, IsNextPair, FindsPair}
use Rattle.strips.proofs.Levels.{spans-is}
use Rattle.strips.proofs.Picking.{split}

-- the first number of a list that passes a test p, where q tests as p does
module _ (p q : ℕ → Bool) where
  abbrev Same : List ℕ → Type 0
  Same es = (k : ℕ) → k < length es → q (get_or es k 0) ≡ p (get_or es k 0)

  abbrev before : List ℕ → ℕ
  before es = prefix_len (λ x. not (p x)) es

  passed_first : (es : List ℕ) → Same es → before es < length es → filter q es ≡ get_or es (before es) 0 ∷ filter q (drop (suc (before es)) es)
  passed_first [] s h = absurd (omega arith)
  passed_first (x ∷ es) s h =
      let z : 1 + before es ≡ suc (before es) = omega arith in
      split (p x)
      (λ e. let f : q x ≡ true = s 0 (omega arith) ∙ e in rw (e, f) refl)
      (λ e.
      let f : q x ≡ false = s 0 (omega arith) ∙ e in
      let g = rw (e, z) at h in
      rw (e, f, z) (passed_first es (λ k i. s (suc k) (omega arith)) (omega arith)))

  passed_none : (es : List ℕ) → Same es → length es ≤ before es → filter q es ≡ []
  passed_none [] s h = refl
  passed_none (x ∷ es) s h =
      let z : 1 + before es ≡ suc (before es) = omega arith in
      split (p x)
      (λ e. let g = rw e at h in absurd (omega arith))
      (λ e.
      let f : q x ≡ false = s 0 (omega arith) ∙ e in
      let g = rw (e, z) at h in
      rw f (passed_none es (λ k i. s (suc k) (omega arith)) (omega arith)))

  at_some : (es : List ℕ) (r : ℕ) → position p es ≡ Some r → (before es ≡ r) × (before es < length es)
  at_some es r e =
      split (ltb (before es) (length es))
      (λ t. let d = rw t at e in (cc, ltb-true (before es) (length es) t))
      (λ t. let d = rw t at e in let z : ◌≡◌ {A = ℕ} 0 1 = cc in absurd (omega arith))

  at_none : (es : List ℕ) → position p es ≡ None → length es ≤ before es
  at_none es e =
      split (ltb (before es) (length es))
      (λ t. let d = rw t at e in let z : ◌≡◌ {A = ℕ} 0 1 = cc in absurd (omega arith))
      (λ t. ltb-false (before es) (length es) t)

module _ (ps : List (List ℤ)) (lo hi : ℕ) (band : IsBand ps lo hi) (es : List ℕ) (begin : BeginAtPoints (length ps) es) where
  same : (j k : ℕ) → k < length (drop j es) → spans ps lo hi (get_or (drop j es) k 0) ≡ crosses_at ps (on lo) (get_or (drop j es) k 0)
  unfolding spans
  same j k h =
      let l = length-drop j es in
      rw (get_or-drop j es k 0, lt-ltb lo hi band.tall)
      (sym (spans-is ps (get_or es (j + k) 0 % max_points) lo hi band (begin (j + k) (omega arith))))

  pub found : (j r : ℕ) → position (crosses_at ps (on lo)) (drop j es) ≡ Some r
      → (j + r < length es) × (crossed ps lo hi (drop j es) ≡ get_or es (j + r) 0 / max_points ∷ crossed ps lo hi (drop (j + r + 1) es))
  unfolding crossed
  found j r e =
      let p = crosses_at ps (on lo) in
      let q = spans ps lo hi in
      let s = at_some p q (drop j es) r e in
      let l = length-drop j es in
      let f : filter q (drop j es) ≡ get_or (drop j es) r 0 ∷ filter q (drop (suc r) (drop j es)) =
      subst (λ (n : ℕ). filter q (drop j es) ≡ get_or (drop j es) n 0 ∷ filter q (drop (suc n) (drop j es))) s.0 (passed_first p q (drop j es) (same j) s.1) in
      let n : j + suc r ≡ j + r + 1 = omega arith in (
        omega (arith, s.0, s.1, l),
        ap (map (λ e. e / max_points)) f
            ∙ ap₂ (λ (x : ℕ) (t : List ℕ). x / max_points ∷ map (λ e. e / max_points) (filter q t)) (get_or-drop j es r 0)
            (drop-drop (suc r) j es ∙ ap (λ (m : ℕ). drop m es) n),
      )

  pub missed : (j : ℕ) → position (crosses_at ps (on lo)) (drop j es) ≡ None → crossed ps lo hi (drop j es) ≡ []
  unfolding crossed
  missed j e = rw (passed_none (crosses_at ps (on lo)) (spans ps lo hi) (drop j es) (same j) (at_none (crosses_at ps (on lo)) (spans ps lo hi) (drop j es) e)) refl

  pub none_left : (j : ℕ) → length es < j → FindsPair ps lo hi es j None
  unfolding crossed pair_up
  none_left j h = rw (drop_of_length-le es {i = j} (omega arith)) refl

  pub none_found : (j : ℕ) → position (crosses_at ps (on lo)) (drop j es) ≡ None → FindsPair ps lo hi es j None
  unfolding pair_up
  none_found j e = ap (pair_up lo hi) (missed j e)

  pub one_found : (j r : ℕ) → position (crosses_at ps (on lo)) (drop j es) ≡ Some r
      → position (crosses_at ps (on lo)) (drop (j + r + 1) es) ≡ None → FindsPair ps lo hi es j None
  unfolding pair_up
  one_found j r e d =
      ap (pair_up lo hi) ((found j r e).1 ∙ ap (λ (t : List ℕ). get_or es (j + r) 0 / max_points ∷ t) (missed (j + r + 1) d))

  pub both_found : (j r s : ℕ) → position (crosses_at ps (on lo)) (drop j es) ≡ Some r
      → position (crosses_at ps (on lo)) (drop (j + r + 1) es) ≡ Some s → IsNextPair ps lo hi es j (j + r) (j + r + 1 + s)
  both_found j r s e d =
      let f = found j r e in
      let g = found (j + r + 1) s d in
      record {
        later = omega arith;
        rising = omega arith;
        within = g.0;
        same = f.1 ∙ ap (λ (t : List ℕ). get_or es (j + r) 0 / max_points ∷ t) g.1;
      }
