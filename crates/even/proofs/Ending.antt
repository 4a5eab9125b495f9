-- The coarsest splitting, for each thing that can be said: what was done is the one coarsest splitting, where there was no room it needs more cells
-- than slots, and what is not well formed has none to keep. Assumes nothing.
use Rattle.std.proofs.Common.{ℕ, ◌+◌, ◌*◌, ◌/◌, ◌<◌, ◌≤◌, ◌≡◌, refl, sym, ap, subst, ◌∙◌, List, [], ◌∷◌, arith, ℤ, length}
use Rattle.refusals.specs.Said.{accepted, refused}
use Rattle.table.specs.declared.Head.{Head}
use Rattle.table.specs.Mesh.{Cell, table, leaf_count}
use Rattle.table.specs.Formed.{WellFormed}
use Rattle.table.proofs.Cells.{length-table}
use Rattle.coarsest.specs.declared.Engine.{Engine}
use Rattle.coarsest.specs.Passes.{evened, difference}
use Rattle.coarsest.specs.Names.{Evens}
use Rattle.coarsest.proofs.Evened.{evened-leaves}
use Rattle.coarsest.proofs.Ends.{evened-evens, evened-needs, needs-one}
use Rattle.coarsest.proofs.Room.{over-needs, needs-over}
use Rattle.even.specs.Even.{EndsCoarsest}

not-refused : (vs : List ℕ) (n p : ℕ) → accepted vs ≡ refused n p → ⊥
not-refused vs n p e = let z : ◌≡◌ {A = ℕ} 0 1 = cc in omega arith

same-values : (a b c x y z M : ℕ) → accepted (a ∷ b ∷ c ∷ M ∷ []) ≡ accepted (x ∷ y ∷ z ∷ M ∷ []) → (a ≡ x) × (b ≡ y) × (c ≡ z)
same-values a b c x y z M e = (cc, cc, cc)

module _ (e : Engine) (head : Head) (t u : List ℤ) (w : WellFormed t head) where
  abbrev k : ℕ
  k = difference e

  abbrev n : ℕ
  n = head.count

  abbrev M : ℕ
  M = head.max_level

  abbrev cells : List Cell
  cells = evened e k M (table t n)

  -- a split is four cells more, and three leaves
  abbrev pub Spent : ℕ → Type 0
  Spent splits = (length cells ≡ n + 4 * splits) × (leaf_count cells ≡ head.leaves + 3 * splits)

  pub spent : (splits : ℕ) × Spent splits
  spent =
      let a = evened-leaves e k M (table t n) in
      let more = a.leaves in
      let longer = a.cells in
      let l = w.leaves in
      (a.splits, (omega (arith, length-table t n), omega arith))

  -- by whichever growth the splits are counted
  pub ends-done : (splits count leaves : ℕ) → Spent splits → table u count ≡ cells → leaves ≡ leaf_count cells
      → count ≤ length t / 8 → EndsCoarsest e head t u (accepted (splits ∷ count ∷ leaves ∷ M ∷ []))
  ends-done splits count leaves spent-so c f room =
      let l : count ≡ length cells = sym (length-table u count) ∙ ap length c in
      record {
        exists = λ f. (length cells, evened-needs e k M (table t n) w.cells);
        done = λ x y z s.
            let d = same-values splits count leaves x y z M s in
            let g = subst Spent d.0 spent-so in (
              subst (λ (v : ℕ). Evens k M (table t n) (table u v)) d.1
                  (subst (Evens k M (table t n)) (sym c) (evened-evens e k M (table t n) w.cells)),
              sym d.1 ∙ l ∙ g.0,
              sym d.2 ∙ f ∙ g.1,
            );
        fits = λ f many needs h.
            (splits, leaves, ap (λ (x : ℕ). accepted (splits ∷ x ∷ leaves ∷ M ∷ [])) (l ∙ sym (needs-one e k M (table t n) w.cells many needs)));
        bad = λ f. absurd (f w);
        over = λ f many needs h. absurd (let q = needs-over e k (table t n) M w.cells (length t / 8) many needs h in omega arith);
      }

  pub ends-full : length t / 8 < length cells → u ≡ t → EndsCoarsest e head t u (refused 6 0)
  ends-full h same =
      record {
        exists = λ f. (length cells, evened-needs e k M (table t n) w.cells);
        done = λ splits count leaves s. absurd (not-refused (splits ∷ count ∷ leaves ∷ M ∷ []) 6 0 (sym s));
        fits = λ f many needs l. absurd (let q = over-needs e k (table t n) M w.cells (length t / 8) many needs h in omega arith);
        over = λ f many needs l. (refl, same);
        bad = λ f. absurd (f w);
      }

pub ends-bad : (e : Engine) (head : Head) (t : List ℤ) → (WellFormed t head → ⊥) → EndsCoarsest e head t t (refused 7 0)
ends-bad e head t bad =
    record {
      exists = λ f. absurd (bad f);
      done = λ splits count leaves s. absurd (not-refused (splits ∷ count ∷ leaves ∷ head.max_level ∷ []) 7 0 (sym s));
      fits = λ f cells needs h. absurd (bad f);
      over = λ f cells needs h. absurd (bad f);
      bad = λ f. (refl, refl);
    }
