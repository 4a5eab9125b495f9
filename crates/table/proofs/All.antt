-- Tests of every index of a range. Assumes nothing.
use Rattle.std.proofs.Common.{ℕ, zero, suc, ◌+◌, ◌<◌, ◌≤◌, ◌≡◌, refl, sym, Bool, true, false, ◌&&◌, ◌⊎◌, inl, inr, ⊎_elim, arith, eqb, eqb-true}
use mathlib.Core.Bool.{false≢true}
use borrow.Author.Tests.{eqb-false}
use Rattle.std.specs.List.{list_all, range_with_len}

pub and_left : (x y : Bool) → (x && y) ≡ true → x ≡ true
and_left true y e = refl
and_left false y e = e

pub and_right : (x y : Bool) → (x && y) ≡ true → y ≡ true
and_right true y e = e
and_right false y e = absurd (false≢true e)

pub and_both : (x y : Bool) → x ≡ true → y ≡ true → (x && y) ≡ true
and_both true y e h = h
and_both false y e h = e

-- a test that cannot hold
pub never : (x : Bool) → (x ≡ true → ⊥) → x ≡ false
never true h = absurd (h refl)
never false h = refl

-- two tests of which each follows from the other
pub both-ways : (x y : Bool) → (x ≡ true → y ≡ true) → (y ≡ true → x ≡ true) → x ≡ y
both-ways true y f g = sym (f refl)
both-ways false true f g = g refl
both-ways false false f g = refl

-- an index below n + 1 is below n, or n
pub top? : (i n : ℕ) → i < suc n → (i < n) ⊎ (i ≡ n)
top? i n h = by (eqb i n) refl
  where
    by : (b : Bool) → eqb i n ≡ b → (i < n) ⊎ (i ≡ n)
    by true e = inr (eqb-true i n e)
    by false e = inl (let d = eqb-false i n e in omega arith)

-- an index of a range that begins at a is a, or one of the others
first? : (a i : ℕ) → a ≤ i → (i ≡ a) ⊎ (a + 1 ≤ i)
first? a i h = by (eqb i a) refl
  where
    by : (b : Bool) → eqb i a ≡ b → (i ≡ a) ⊎ (a + 1 ≤ i)
    by true e = inl (eqb-true i a e)
    by false e = inr (let d = eqb-false i a e in omega arith)

module _ (f : ℕ → Bool) where
  pub range-at : (a n : ℕ) → list_all f (range_with_len a n) ≡ true → (i : ℕ) → a ≤ i → i < a + n → f i ≡ true
  range-at a zero e i l h = absurd (omega arith)
  range-at a (suc n) e i l h =
      ⊎_elim
      (λ (d : i ≡ a). rw d (and_left (f a) (list_all f (range_with_len (a + 1) n)) e))
      (λ (g : a + 1 ≤ i). range-at (a + 1) n (and_right (f a) (list_all f (range_with_len (a + 1) n)) e) i g (omega arith))
      (first? a i l)

  pub range_of : (a n : ℕ) → ((i : ℕ) → a ≤ i → i < a + n → f i ≡ true) → list_all f (range_with_len a n) ≡ true
  range_of a zero h = refl
  range_of a (suc n) h =
      and_both (f a) (list_all f (range_with_len (a + 1) n)) (h a (omega arith) (omega arith))
      (range_of (a + 1) n (λ i l g. h i (omega arith) (omega arith)))

  pub all-at : (n : ℕ) → list_all f (range_with_len 0 n) ≡ true → (i : ℕ) → i < n → f i ≡ true
  all-at n e i h = range-at 0 n e i (omega arith) (omega arith)

  pub all_of : (n : ℕ) → ((i : ℕ) → i < n → f i ≡ true) → list_all f (range_with_len 0 n) ≡ true
  all_of n h = range_of 0 n (λ i l g. h i (omega arith))
