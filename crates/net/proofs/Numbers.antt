-- How many places are new, counted in a row of first places. Assumes nothing.
use Rattle.std.proofs.Common.{◌≡◌, sym, ap, ◌∙◌, Bool, List, ℕ, suc, ◌+◌, ◌<◌, arith, length, get_or, eqb, eq-eqb, ne_eqb, add-one}
use Rattle.std.specs.List.{range_with_len}
use Rattle.std.proofs.lemmas.List.Sums.{length-filter}
use Rattle.table.proofs.Ids.{ids_to, ids-yes-length, ids-no, ids-same}
use Rattle.net.specs.First.{first_of, is_new, rank, rank_in}

abbrev own : List ℕ → ℕ → Bool
own fs i = eqb (get_or fs i 0) i

counted : (fs : List ℕ) (n : ℕ) → length (ids_to (own fs) n) ≡ rank_in fs n
unfolding rank_in ids_to
counted fs n = length-filter (own fs) (range_with_len 0 n)

next : (fs : List ℕ) (i : ℕ) → length (ids_to (own fs) (i + 1)) ≡ rank_in fs (suc i)
next fs i = ap (λ n. length (ids_to (own fs) n)) (add-one i) ∙ counted fs (suc i)

pub in-new : (fs : List ℕ) (i : ℕ) → get_or fs i 0 ≡ i → rank_in fs (suc i) ≡ suc (rank_in fs i)
in-new fs i e = omega (arith, counted fs i, next fs i, ids-yes-length (own fs) i (eq-eqb _ _ e))

pub in-old : (fs : List ℕ) (i : ℕ) → (get_or fs i 0 ≡ i → ⊥) → rank_in fs (suc i) ≡ rank_in fs i
in-old fs i e = sym (next fs i) ∙ ap length (ids-no (own fs) i (ne_eqb _ _ e)) ∙ counted fs i

-- the row of first places of keys counts as the keys do
pub rank-in : (ks fs : List ℕ) (n : ℕ) → ((i : ℕ) → i < n → get_or fs i 0 ≡ first_of ks i) → rank_in fs n ≡ rank ks n
unfolding rank ids_to
rank-in ks fs n h = sym (counted fs n) ∙ ap length (ids-same (own fs) (is_new ks) n (λ i p. ap (λ j. eqb j i) (h i p))) ∙ length-filter (is_new ks) (range_with_len 0 n)
