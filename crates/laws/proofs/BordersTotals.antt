-- Sums over the ids below n; and the lengths that ranges have in common with one that they fill. Assumes nothing.
use Rattle.std.proofs.Common.{◌≡◌, refl, sym, ap, ap₂, ◌∙◌, Bool, true, false, cond, List, ℕ, zero, suc, ◌+◌, ◌-◌, ◌<◌, ◌≤◌, arith, length, take, take_all, get_or, add-one}
use mathlib.Core.Logic.{by_cases}
use native.Mathlib.Decide.{ℕ_discrete, dec_lt, dec_le}
use Rattle.std.specs.List.{sum_by}
use Rattle.std.proofs.lemmas.List.Sums.{sum_by_more}
use Rattle.cell.specs.Boxes.{common}

-- f 0 + .. + f (n - 1)
unfoldable pub total : (ℕ → ℕ) → ℕ → ℕ
total f zero = 0
total f (suc n) = total f n + f n

pub total-same : (f g : ℕ → ℕ) (n : ℕ) → ((i : ℕ) → i < n → f i ≡ g i) → total f n ≡ total g n
unfolding total
total-same f g zero h = refl
total-same f g (suc n) h = ap₂ (λ (x y : ℕ). x + y) (total-same f g n (λ i l. h i (omega arith))) (h n (omega arith))

total-add : (f g : ℕ → ℕ) (n : ℕ) → total (λ i. f i + g i) n ≡ total f n + total g n
unfolding total
total-add f g zero = refl
total-add f g (suc n) = let h = total-add f g n in omega arith

pub total-none : (f : ℕ → ℕ) (n : ℕ) → ((i : ℕ) → i < n → f i ≡ 0) → total f n ≡ 0
unfolding total
total-none f zero h = refl
total-none f (suc n) h = let a = total-none f n (λ i l. h i (omega arith)) in let b = h n (omega arith) in omega arith

-- one id has a 1, and the others nothing
total-one : (f : ℕ → ℕ) (j n : ℕ) → j < n → f j ≡ 1 → ((i : ℕ) → i < n → (i ≡ j → ⊥) → f i ≡ 0) → total f n ≡ 1
unfolding total
total-one f j zero l e h = absurd (omega arith)
total-one f j (suc n) l e h =
    by_cases (ℕ_discrete n j)
    (λ d.
    let a = total-none f n (λ i k. h i (omega arith) (λ c. omega arith)) in
    let b : f n ≡ 1 = ap f d ∙ e in
    omega arith)
    (λ d.
    let k : j < n = by_cases (dec_lt j n) (λ y. y) (λ y. absurd (d (omega arith))) in
    let a = total-one f j n k e (λ i l. h i (omega arith)) in
    let b = h n (omega arith) d in
    omega arith)

-- the sum over a list is the sum over its places
pub total-list : {A : Type 0} (g : A → ℕ) (d : A) (xs : List A) → sum_by g xs ≡ total (λ i. g (get_or xs i d)) (length xs)
unfolding total
total-list g d xs = sym (ap (sum_by g) (take_all (length xs) xs (omega arith))) ∙ to (length xs) (omega arith)
  where
    to : (n : ℕ) → n ≤ length xs → sum_by g (take n xs) ≡ total (λ i. g (get_or xs i d)) n
    to zero h = refl
    to (suc n) h =
        let a = to n (omega arith) in
        let b = sum_by_more g xs n d h in
        let c = ap (λ (k : ℕ). sum_by g (take k xs)) (add-one n) in
        omega arith

-- ---- ranges that fill one

-- the i-th range is from lo i to hi i, and counts where `on i` says so
module _ (n : ℕ) (on : ℕ → Bool) (lo hi : ℕ → ℕ) (a : ℕ) where
  -- what it has in common with the range from a to b
  abbrev pub part : ℕ → ℕ → ℕ
  part b i = cond (on i) (common a b (lo i) (hi i)) 0

  -- just one range that counts holds the unit from y on
  pub record Held (y : ℕ) : Type 0 where
    pub one : ℕ
    pub below : one < n
    pub counts : on one ≡ true
    pub low : lo one ≤ y
    pub high : y < hi one
    pub only : (i : ℕ) → i < n → on i ≡ true → lo i ≤ y → y < hi i → i ≡ one

  grows : (m c d : ℕ) → common a (a + m) c d + (common a (a + suc m) c d - common a (a + m) c d) ≡ common a (a + suc m) c d
  grows m c d = omega arith

  unit-in : (m c d : ℕ) → c ≤ a + m → a + m < d → common a (a + suc m) c d - common a (a + m) c d ≡ 1
  unit-in m c d l h = omega arith

  unit-out : (m c d : ℕ) → (c ≤ a + m → a + m < d → ⊥) → common a (a + suc m) c d - common a (a + m) c d ≡ 0
  unit-out m c d o = by_cases (dec_le c (a + m)) (λ l. by_cases (dec_lt (a + m) d) (λ h. absurd (o l h)) (λ h. omega arith)) (λ l. omega arith)

  -- what one unit more adds to the i-th part
  more : ℕ → ℕ → ℕ
  more m i = part (a + suc m) i - part (a + m) i

  more-all : (m i : ℕ) → part (a + m) i + more m i ≡ part (a + suc m) i
  unfolding more
  more-all m i = by (on i)
    where
      by : (b : Bool) → cond b (common a (a + m) (lo i) (hi i)) 0 + (cond b (common a (a + suc m) (lo i) (hi i)) 0 - cond b (common a (a + m) (lo i) (hi i)) 0) ≡ cond b (common a (a + suc m) (lo i) (hi i)) 0
      by true = grows m (lo i) (hi i)
      by false = refl

  more-in : (m i : ℕ) → on i ≡ true → lo i ≤ a + m → a + m < hi i → more m i ≡ 1
  unfolding more
  more-in m i e l h = rw e (unit-in m (lo i) (hi i) l h)

  more-out : (m i : ℕ) → (on i ≡ true → lo i ≤ a + m → a + m < hi i → ⊥) → more m i ≡ 0
  unfolding more
  more-out m i o = by (on i) refl
    where
      by : (b : Bool) → on i ≡ b → cond b (common a (a + suc m) (lo i) (hi i)) 0 - cond b (common a (a + m) (lo i) (hi i)) 0 ≡ 0
      by true e = unit-out m (lo i) (hi i) (o e)
      by false e = refl

  -- if each unit of a range of length m is held so, the parts add up to m
  pub filled : (m : ℕ) → ((y : ℕ) → a ≤ y → y < a + m → Held y) → total (part (a + m)) n ≡ m
  filled zero h = total-none (part (a + 0)) n (λ i l. by (on i) i)
    where
      by : (b : Bool) (i : ℕ) → cond b (common a (a + 0) (lo i) (hi i)) 0 ≡ 0
      by true i = omega arith
      by false i = refl
  filled (suc m) h =
      let o = h (a + m) (omega arith) (omega arith) in
      let rest = filled m (λ y l g. h y l (omega arith)) in
      let one = total-one (more m) o.one n o.below (more-in m o.one o.counts o.low o.high) (λ i l d. more-out m i (λ e p q. d (o.only i l e p q))) in
      let both = total-same (part (a + suc m)) (λ i. part (a + m) i + more m i) n (λ i l. sym (more-all m i)) in
      let sum = total-add (part (a + m)) (more m) n in
      omega arith
