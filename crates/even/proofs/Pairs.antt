-- Tests of all ids below a bound, and what a search found. Assumes nothing.
use Rattle.std.proofs.Common.{ℕ, ◌<◌, ◌≤◌, ◌≡◌, refl, sym, ap, ◌∙◌, Bool, true, false, length, get_or, arith}
use Rattle.std.specs.List.{list_any, range_with_len}
use Rattle.std.proofs.lemmas.List.Folds.{list_any_at, list_any_none}
use Rattle.std.proofs.lemmas.List.FromFn.{length-range_with_len, get_or-range_with_len}
use Rattle.search.specs.Search.{Found}

-- a test of all below a bound
pub no_true : (b : Bool) → (b ≡ true → ⊥) → b ≡ false
no_true true h = absurd (h refl)
no_true false h = refl

counted : (n i d : ℕ) → i < n → get_or (range_with_len 0 n) i d ≡ i
counted n i d h = omega (arith, get_or-range_with_len 0 n i d h)

-- what a search below the bound found
pub found-any : (f : ℕ → Bool) (n stop : ℕ) (r : Bool) → stop ≤ n → Found f (λ (b : ℕ). b < n) stop r
    → r ≡ list_any f (range_with_len 0 stop)
found-any f n stop true h x =
    let y = x.yes refl in
    let l : y.0 < length (range_with_len 0 stop) = omega (arith, length-range_with_len 0 stop, y.1) in
    sym (list_any_at f (range_with_len 0 stop) y.0 0 l (ap f (counted stop y.0 0 y.1) ∙ y.2))
found-any f n stop false h x =
    sym (list_any_none f (range_with_len 0 stop)
    (λ i d l.
    let k : i < stop = omega (arith, length-range_with_len 0 stop) in
    ap f (counted stop i d k) ∙ no_true (f i) (λ e. x.no refl i (omega arith) k e)))
