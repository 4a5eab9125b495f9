-- `position_of`, the number of the first that is the same: what it says, and where two of them agree. Assumes nothing.
use Rattle.std.proofs.Common.{◌≡◌, refl, Bool, true, false, ◌⊎◌, List, [], ◌∷◌, ◌++◌, ℕ, suc, ◌+◌, ◌≤◌, ◌<◌, arith, length, get_or, ltb, lt-ltb, ◌∙◌}
use Rattle.std.proofs.lemmas.Bool.Decides.{nat_tests}
use Rattle.std.proofs.lemmas.List.Sums.{position_or_len_is, fails_before_first, passes_at_first}
use Rattle.net.specs.Net.{position_of, has}

pub test : (b : Bool) → (b ≡ true) ⊎ (b ≡ false)
test b = grind arith

one-more : (n : ℕ) → 1 + n ≡ suc n
one-more n = omega arith

module _ {A : Type 0} (same : A → A → Bool) where
  pub position-nil : (x : A) → position_of same [] x ≡ 0
  unfolding position_of
  position-nil x = refl

  pub position-yes : (a : A) (l : List A) (x : A) → same a x ≡ true → position_of same (a ∷ l) x ≡ 0
  unfolding position_of
  position-yes a l x e = rw e

  pub position-no : (a : A) (l : List A) (x : A) → same a x ≡ false → position_of same (a ∷ l) x ≡ suc (position_of same l x)
  unfolding position_of
  position-no a l x e = rw e (one-more (position_of same l x))

  -- it is there, exactly if its number is one of the list's
  pub has-at : (l : List A) (x : A) → has same l x ≡ ltb (position_of same l x) (length l)
  unfolding has
  has-at [] x = grind (arith, nat_tests, position-nil x)
  has-at (a ∷ l) x = grind (arith, nat_tests, position-yes a l x, position-no a l x, has-at l x)

  pub has-yes : (l : List A) (x : A) → position_of same l x < length l → has same l x ≡ true
  has-yes l x h = has-at l x ∙ lt-ltb (position_of same l x) (length l) h

  -- what stands there is the same
  pub position-hit : (l : List A) (x d : A) → position_of same l x < length l → same (get_or l (position_of same l x) d) x ≡ true
  unfolding position_of
  position-hit l x d h = passes_at_first (λ a. same a x) l d h

  -- and nothing before it
  pub position-before : (l : List A) (x d : A) (k : ℕ) → k < position_of same l x → same (get_or l k d) x ≡ false
  unfolding position_of
  position-before l x d k h = fails_before_first (λ a. same a x) l k d h

  pub position-at-most : (l : List A) (x d : A) (k : ℕ) → same (get_or l k d) x ≡ true → position_of same l x ≤ k
  position-at-most l x d k e = grind (arith, position-before l x d k)

  pub position-is : (l : List A) (x d : A) (k : ℕ) → same (get_or l k d) x ≡ true → ((j : ℕ) → j < k → same (get_or l j d) x ≡ false) → k < length l → position_of same l x ≡ k
  unfolding position_of
  position-is l x d k e b h = position_or_len_is (λ a. same a x) l k d (omega arith) b (λ l. e)

  -- a list behind it
  pub position-left : (l m : List A) (x : A) → position_of same l x < length l → position_of same (l ++ m) x ≡ position_of same l x
  position-left [] m x h = absurd (omega (arith, h))
  position-left (a ∷ l) m x h = grind (arith, position-yes a l x, position-no a l x, position-yes a (l ++ m) x, position-no a (l ++ m) x, position-left l m x)

  pub position-right : (l m : List A) (x : A) → length l ≤ position_of same l x → position_of same (l ++ m) x ≡ length l + position_of same m x
  position-right [] m x h = omega arith
  position-right (a ∷ l) m x h = grind (arith, position-yes a l x, position-no a l x, position-no a (l ++ m) x, position-right l m x)

pub ruleset positions = (position-nil, position-yes, position-no, position-left, position-right, has-at)

-- two lists that are the same to x and to y in the same places
pub position-same : {A B : Type 0} (s : A → A → Bool) (t : B → B → Bool) (l : List A) (m : List B) (x d : A) (y e : B) → length l ≡ length m
    → ((i : ℕ) → i < length l → s (get_or l i d) x ≡ t (get_or m i e) y) → position_of s l x ≡ position_of t m y
position-same s t [] [] x d y e n h = cc (position-nil s x, position-nil t y)
position-same s t [] (b ∷ m) x d y e n h = absurd (omega arith)
position-same s t (a ∷ l) [] x d y e n h = absurd (omega arith)
position-same s t (a ∷ l) (b ∷ m) x d y e n h = grind (arith, positions, h 0, position-same s t l m x d y e (omega arith) (λ i q. h (suc i) (omega arith)))
