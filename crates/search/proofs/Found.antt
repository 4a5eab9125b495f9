-- Whether anything asks, put together from parts of what is to be seen. Assumes nothing.
use mathlib.Core.Bool.{false≢true}
use Rattle.std.proofs.Common.{◌≡◌, sym, ap, ◌∙◌, Bool, true, false, true≢false, Some, List, ℕ, ◌+◌, ◌<◌, ◌≤◌}
use Rattle.table.specs.Mesh.{Cell, at}
use Rattle.coarsest.specs.Passes.{due}
use Rattle.coarsest.proofs.Least.{due-of}
use Rattle.search.specs.Search.{Under, Found}
use Rattle.search.proofs.Least.{Among, among_kids}

module _ (asks : ℕ → Bool) (stop : ℕ) where
  pub found_none : (seen : ℕ → Type 0) → ((b : ℕ) → seen b → b < stop → asks b ≡ true → ⊥) → Found asks seen stop false
  found_none seen h = record { yes = λ e. absurd (false≢true e); no = λ e. h }

  -- c itself
  pub found-own : (c : ℕ) (r : Bool) → c < stop → asks c ≡ r → Found asks (λ (b : ℕ). c ≡ b) stop r
  found-own c r h e =
      record {
        yes = λ d. (c, h, e ∙ d);
        no = λ d b s l f. true≢false (sym f ∙ ap asks (sym s) ∙ e ∙ d);
      }

  pub found_as : (seen less : ℕ → Type 0) (r : Bool) → Found asks seen stop r → ((b : ℕ) → less b → asks b ≡ true → seen b) → Found asks less stop r
  found_as seen less r x h = record { yes = x.yes; no = λ d b s l f. x.no d b (h b s f) l f }

-- nothing in the four subtrees
pub found-kids : (t : List Cell) (f k a stop c j : ℕ) → (at t c).kids ≡ Some f → f + 4 ≤ j
    → Found (λ (b : ℕ). due k t b a) (Among t f j) stop false → Found (λ (b : ℕ). due k t b a) (Under t c) stop false
found-kids t f k a stop c j kids h x =
    found_as (λ (b : ℕ). due k t b a) stop (Among t f j) (Under t c) false x
    (λ b u d. among_kids t c f j kids h b u (due-of k t b a d).fine)
