-- Rows of entries in order, by their numbers.
use Rattle.std.proofs.Common.{◌≡◌, ℕ, ◌<◌, ◌≤◌, false, List, [], ◌∷◌, length, get_or, refl, subst, arith, IsSorted}
use Rattle.std.specs.Ordering.{is_lt, nat_cmp}
use Rattle.std.specs.Cmp.Lexicographic.{slice_cmp}
use Rattle.std.proofs.lemmas.Cmp.{nat_list_cmp_total}
use Rattle.std.proofs.lemmas.Bool.Decides.{nat_tests}
use Rattle.std.proofs.lemmas.List.Sorted.{ranks_by, sorted_far}

abbrev pub num : List ℕ → ℕ → ℕ
num e q = get_or e q 0

-- e stands no later than f
pub record Upto (e f : List ℕ) : Type 0 where
  pub layer : num e 0 ≤ num f 0
  pub line : num e 0 ≡ num f 0 → num e 1 ≤ num f 1
  pub place : num e 0 ≡ num f 0 → num e 1 ≡ num f 1 → num e 2 ≤ num f 2
  pub number : num e 0 ≡ num f 0 → num e 1 ≡ num f 1 → num e 2 ≡ num f 2 → num e 3 ≤ num f 3

pub four : (e : List ℕ) → length e ≡ 4 → e ≡ num e 0 ∷ num e 1 ∷ num e 2 ∷ num e 3 ∷ []
four [] h = absurd (omega arith)
four (a ∷ []) h = absurd (omega arith)
four (a ∷ (b ∷ [])) h = absurd (omega arith)
four (a ∷ (b ∷ (c ∷ []))) h = absurd (omega arith)
four (a ∷ (b ∷ (c ∷ (d ∷ [])))) h = refl
four (a ∷ (b ∷ (c ∷ (d ∷ (e ∷ l))))) h = absurd (omega arith)

upto-numbers : (a b c d x y z w : ℕ) → is_lt (slice_cmp nat_cmp (x ∷ y ∷ z ∷ w ∷ []) (a ∷ b ∷ c ∷ d ∷ [])) ≡ false → Upto (a ∷ b ∷ c ∷ d ∷ []) (x ∷ y ∷ z ∷ w ∷ [])
upto-numbers a b c d x y z w h = record { layer = grind (arith, nat_tests); line = λ p. grind (arith, nat_tests); place = λ p q. grind (arith, nat_tests); number = λ p q r. grind (arith, nat_tests) }

pub upto-entries : (e f : List ℕ) → length e ≡ 4 → length f ≡ 4 → is_lt (slice_cmp nat_cmp f e) ≡ false → Upto e f
upto-entries e f h g s =
    let u = upto-numbers (num e 0) (num e 1) (num e 2) (num e 3) (num f 0) (num f 1) (num f 2) (num f 3) (subst (λ (x : List ℕ). is_lt (slice_cmp nat_cmp (num f 0 ∷ num f 1 ∷ num f 2 ∷ num f 3 ∷ []) x) ≡ false) (four e h) (subst (λ (x : List ℕ). is_lt (slice_cmp nat_cmp x e) ≡ false) (four f g) s)) in
    record { layer = u.layer; line = u.line; place = u.place; number = u.number }

-- in a row in order no entry is greater than a later one
pub ordered : (row : List (List ℕ)) → IsSorted (slice_cmp nat_cmp) row → ((i : ℕ) → i < length row → length (get_or row i []) ≡ 4) → (k l : ℕ) → k ≤ l → l < length row → Upto (get_or row k []) (get_or row l [])
ordered row up long k l h g =
    upto-entries (get_or row k []) (get_or row l []) (long k (omega arith)) (long l g)
    (sorted_far (λ (x y : List ℕ). is_lt (slice_cmp nat_cmp x y)) (ranks_by nat_list_cmp_total (λ (x : List ℕ). x)) row up k l [] h g)
