-- A well-formed table's tree: the children of a cell, and what the subtree of a cell apart from another can't hold. Assumes nothing.
use Rattle.std.proofs.Common.{◌≡◌, ℕ, ◌+◌, ◌-◌, ◌<◌, ◌≤◌, true, false, true≢false, List, Some, length, sym, ap, ◌∙◌, arith}
use mathlib.Core.Logic.{by_cases}
use native.Mathlib.Decide.{dec_lt}
use Rattle.cell.specs.Boxes.{num, quad_at}
use Rattle.table.specs.Mesh.{Cell, at}
use Rattle.table.specs.Formed.{Formed}
use Rattle.table.proofs.Wellformed.{num-quad}
use Rattle.coarsest.specs.Passes.{due}
use Rattle.search.specs.Search.{meet, near_cells, Under}
use Rattle.search.proofs.Meeting.{meet-of, near_of, due-past, past-due}

-- a child is in the table, and one level further down
pub record Child (M : ℕ) (t : List Cell) (c j : ℕ) : Type 0 where
  pub inside : j < length t
  pub falls : M - (at t j).level < M - (at t c).level

module _ (M : ℕ) (t : List Cell) (formed : Formed M t) (c : ℕ) where
  pub child : (f j : ℕ) → (at t c).kids ≡ Some f → f ≤ j → j < f + 4 → Child M t c j
  child f j e l h =
      let s = formed.split c f e in
      let b = s.below in
      let m = s.finer in
      let d : f + num (quad_at (j - f)) ≡ j = omega (arith, num-quad (j - f) (omega arith)) in
      let k = ap (λ (x : ℕ). (at t x).level) (sym d) ∙ (s.kid (quad_at (j - f))).level in
      record { inside = omega arith; falls = omega arith }

  module _ (k a : ℕ) (ha : a < length t) where
    -- a cell that is not near holds nothing to be split for a
    pub far-owes : near_cells k (at t a) (at t c) ≡ false → (b : ℕ) → Under t c b → due k t a b ≡ true → ⊥
    far-owes e b u d =
        by_cases (dec_lt b (length t))
        (λ h. true≢false (sym (near_of M t formed k a c b ha h u d) ∙ e))
        (λ h. due-past k t a b (omega arith) d)

    -- a cell that does not meet a holds nothing that asks for it
    pub apart-asks : meet (at t a).box (at t c).box ≡ false → (b : ℕ) → Under t c b → due k t b a ≡ true → ⊥
    apart-asks e b u d =
        by_cases (dec_lt b (length t))
        (λ h. true≢false (sym (meet-of M t formed k a c b ha h u d) ∙ e))
        (λ h. past-due k t a b (omega arith) d)
