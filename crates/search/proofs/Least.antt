-- The least id of a kind, put together from parts of what is to be seen. Assumes nothing.
use mathlib.Core.Logic.{by_cases}
use Rattle.std.proofs.Common.{◌≡◌, sym, ap, subst, ◌∙◌, Bool, true, ◌⊎◌, inl, inr, ⊎_elim, None, Some, List, [], ◌∷◌, ℕ, ◌+◌, ◌<◌, ◌≤◌, arith}
use native.Mathlib.Decide.{dec_lt}
use Rattle.cell.specs.Boxes.{num}
use Rattle.table.specs.Mesh.{Cell, at}
use Rattle.table.proofs.Meshes.{not_some, some_is, num-below}
use Rattle.coarsest.specs.Passes.{due}
use Rattle.coarsest.specs.Names.{Route}
use Rattle.coarsest.proofs.Least.{due-of}
use Rattle.search.specs.Search.{Reach, Under, Least}

module _ (asks : ℕ → Bool) (from : ℕ) where
  -- nothing of what is seen asks
  pub least-none : (seen : ℕ → Type 0) (best : ℕ) → ((b : ℕ) → seen b → from ≤ b → asks b ≡ true → best ≤ b) → Least asks seen from best best
  least-none seen best h = record { most = omega arith; found = λ l. absurd (omega arith); least = h }

  -- c itself
  pub least-own : (c best : ℕ) → from ≤ c → c < best → asks c ≡ true → Least asks (λ (b : ℕ). c ≡ b) from best c
  least-own c best f l e = record { most = omega arith; found = λ g. (f, e); least = λ b s g d. (omega arith) }

  -- more to see, from the best so far on
  pub least-then : (seen more : ℕ → Type 0) (best r s : ℕ) → Least asks seen from best r → Least asks more from r s
      → Least asks (λ (b : ℕ). seen b ⊎ more b) from best s
  least-then seen more best r s x y =
      let a = x.most in
      let b = y.most in
      record {
        most = omega arith;
        found = λ l. by_cases (dec_lt s r) (λ h. y.found h)
            (λ h. (let e : s ≡ r = omega arith in rw e (x.found (omega arith))));
        least = λ i w f d. ⊎_elim (λ v. (let g = x.least i v f d in omega arith)) (λ v. y.least i v f d) w;
      }

  -- the same of less
  pub least-as : (seen less : ℕ → Type 0) (best r : ℕ) → Least asks seen from best r
      → ((b : ℕ) → less b → asks b ≡ true → seen b) → Least asks less from best r
  least-as seen less best r x h = record { most = x.most; found = x.found; least = λ b s f d. x.least b (h b s d) f d }

-- ---- the subtree of a cell

module _ (t : List Cell) (c : ℕ) where
  pub under-leaf : (at t c).kids ≡ None → (b : ℕ) → Under t c b → c ≡ b
  under-leaf e b u = go u.route u.reach
    where
      go : (p : Route) → Reach t p c b → c ≡ b
      go [] r = r
      go (q ∷ p) r = not_some (at t c).kids r.0 e r.1

-- b stands in the subtree of a cell from f on below j
abbrev pub Among : List Cell → ℕ → ℕ → ℕ → Type 0
Among t f j b = (i : ℕ) × (f ≤ i) × (i < j) × Under t i b

pub among_next : (t : List Cell) (f j b : ℕ) → Among t f (j + 1) b → Among t f j b ⊎ Under t j b
among_next t f j b u =
    by_cases (dec_lt u.0 j)
    (λ h. inl (u.0, u.1, h, u.3))
    (λ h. inr (let l = u.2 in let e : u.0 ≡ j = omega arith in subst (λ (x : ℕ). Under t x b) e u.3))

-- a leaf in the subtree of a split cell stands in the subtree of one of its four
pub among_kids : (t : List Cell) (c f j : ℕ) → (at t c).kids ≡ Some f → f + 4 ≤ j → (b : ℕ) → Under t c b → (at t b).kids ≡ None → Among t f j b
among_kids t c f j kids h b u d = go u.route u.reach
  where
    go : (p : Route) → Reach t p c b → Among t f j b
    go [] r = not_some (at t b).kids f d (ap (λ (x : ℕ). (at t x).kids) (sym r) ∙ kids)
    go (q ∷ p) r =
        let g = some_is (at t c).kids r.0 f r.1 kids in
        let l = num-below q in
        (f + num q, omega arith, omega arith, subst (λ (x : ℕ). Under t (x + num q) b) g (record { route = p; reach = r.2 }))

-- the least of the four subtrees
pub least-kids : (t : List Cell) (f k a from best c j r : ℕ) → (at t c).kids ≡ Some f → f + 4 ≤ j
    → Least (due k t a) (Among t f j) from best r → Least (due k t a) (Under t c) from best r
least-kids t f k a from best c j r kids h x =
    least-as (due k t a) from (Among t f j) (Under t c) best r x
    (λ b u d. among_kids t c f j kids h b u (due-of k t a b d).coarse)

-- what the test of one leaf needs
pub ruleset own_least = (least-none, least-own)
