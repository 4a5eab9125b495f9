-- Laws of the last number that passes a test. Assumes nothing.
use Rattle.std.proofs.Common.{ℕ, zero, suc, ◌+◌, ◌<◌, ◌≡◌, refl, sym, ap, ◌∙◌, Bool, true, false, None, Some, cond, ◌∷◌, [], ⊎_elim, eq-or-lt_of_le, arith}
use Rattle.std.specs.List.{range_with_len}
use Rattle.std.proofs.lemmas.List.{map-id, reverse-append}
use Rattle.std.proofs.lemmas.List.FromFn.{map-range_with_len_more}
use Rattle.checks.specs.Nodes.{last_below}

-- one number more
pub last_more : (p : ℕ → Bool) (n : ℕ) → last_below p (n + 1) ≡ cond (p n) (Some n) (last_below p n)
last_more p n =
    let e = simp map-id at (map-range_with_len_more (λ (i : ℕ). i) 0 n n (omega arith)) in
    rw (e, reverse-append (range_with_len 0 n) (n ∷ [])) refl

last-next : (p : ℕ → Bool) (n m : ℕ) → m ≡ n + 1 → last_below p m ≡ cond (p n) (Some n) (last_below p n)
last-next p n m e = ap (last_below p) e ∙ last_more p n

hit : (p : ℕ → Bool) (n : ℕ) → p n ≡ true → last_below p (suc n) ≡ Some n
hit p n e = last-next p n (suc n) (omega arith) ∙ ap (λ b. cond b (Some n) (last_below p n)) e

miss : (p : ℕ → Bool) (n : ℕ) → p n ≡ false → last_below p (suc n) ≡ last_below p n
miss p n e = last-next p n (suc n) (omega arith) ∙ ap (λ b. cond b (Some n) (last_below p n)) e

pub last-is : (p : ℕ → Bool) (n r : ℕ) → r < n → p r ≡ true → ((j : ℕ) → r < j → j < n → p j ≡ false) → last_below p n ≡ Some r
last-is p zero r h e f = absurd (omega arith)
last-is p (suc n) r h e f =
    ⊎_elim
    (λ (k : r ≡ n). hit p n (ap p (sym k) ∙ e) ∙ ap Some (sym k))
    (λ (l : r < n). miss p n (f n l (omega arith)) ∙ last-is p n r l e (λ j a b. f j a (omega arith)))
    (eq-or-lt_of_le (omega arith))

pub last-not : (p : ℕ → Bool) (n : ℕ) → ((j : ℕ) → j < n → p j ≡ false) → last_below p n ≡ None
last-not p zero f = refl
last-not p (suc n) f = miss p n (f n (omega arith)) ∙ last-not p n (λ j h. f j (omega arith))
