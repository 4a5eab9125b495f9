use Rattle.std.proofs.Common.{rules, tests, ◌≡◌, ◌≤◌, ℕ, ◌+◌, ◌-◌, ◌*◌, ◌/◌, ◌%◌, refl, ◌∙◌, Bool, true, List, ℤ, length, arith}
use Rattle.std.specs.List.{list_all, range_with_len}
use Rattle.std.proofs.lemmas.Iterator.{YieldsList-from_range}
use Rattle.std.proofs.lemmas.Iterator.Search.{all_from_yields_List}
use Rattle.table.specs.Formed.{zero_at, rest_zero}
use Rattle.table.proofs.All.{range-at, range_of, both-ways}
use Rattle.table.proofs.Zeros.{zeros, of-zeros, slot-zeros}
use Rattle.table.proofs.formed.rest_zero.Goals as goal

abbrev slot : List ℤ → ℕ → Bool
slot t j = list_all (λ k. zero_at t (j * 8 + k)) (range_with_len 0 8)

-- all slots from n on, number by number
slots : (t : List ℤ) (n : ℕ) → n * 8 ≤ length t → length t % 8 ≡ 0
    → list_all (slot t) (range_with_len n (length t / 8 - n)) ≡ rest_zero t n
unfolding rest_zero
slots t n within whole =
    both-ways _ _
    (λ e. of-zeros t (n * 8) (length t - n * 8) (λ q l h.
    let j = q / 8 in
    let z = range-at (slot t) n (length t / 8 - n) e j (omega arith) (omega arith) in
    zero-in t j (q % 8) z q (omega arith) (omega arith)))
    (λ e. range_of (slot t) n (length t / 8 - n) (λ j l h.
    slot-zeros t (j * 8) 8 (λ q m g. zeros t (n * 8) (length t - n * 8) e q (omega arith) (omega arith))))
  where
    zero-in : (t : List ℤ) (j r : ℕ) → slot t j ≡ true → (q : ℕ) → r ≤ 7 → q ≡ j * 8 + r → zero_at t q ≡ true
    zero-in t j r z q h e = rw e (range-at (λ k. zero_at t (j * 8 + k)) 0 8 z r (omega arith) (omega arith))

pub returns : goal.returns
returns c =
    let s = c.args in
    all_from_yields_List (slot s.t.now) _ _ _ c.all.ensures.ran
    (YieldsList-from_range s.n (length s.t.now / 8) (length s.t.now / 8 - s.n) refl refl)
    (λ x b q k. search (rules, tests))
    ∙ slots s.t.now s.n c.requires.slots c.requires.whole
