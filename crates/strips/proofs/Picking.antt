-- Numbers counted up and picked by a test. Assumes nothing.
use Rattle.std.proofs.Common.{ℕ, zero, suc, ◌+◌, ◌<◌, ◌≡◌, refl, ap, ◌∙◌, Bool, true, false, ◌&&◌, ◌||◌, List, [], ◌∷◌, ◌++◌, map, append-nil, arith, add-one, length, take, set, take-suc-set}
use mathlib.Core.Bool.{and-true, or-false}
use Rattle.std.specs.List.{filter, list_all, list_any, range_with_len}
use Rattle.std.proofs.lemmas.List.Folds.{list_all-append, list_any-append}
use Rattle.std.proofs.lemmas.List.Elements.{filter-append}
use Rattle.std.proofs.lemmas.List.{map-append}

-- f of each number that passes the test p
abbrev pub picked : (ℕ → Bool) → (ℕ → ℕ) → List ℕ → List ℕ
picked p f l = map f (filter p l)

-- a test holds of some number below n, and of all of them
abbrev pub some_below : (ℕ → Bool) → ℕ → Bool
some_below p n = list_any p (range_with_len 0 n)

abbrev pub all_below : (ℕ → Bool) → ℕ → Bool
all_below p n = list_all p (range_with_len 0 n)

range_last : (a n j : ℕ) → a + n ≡ j → range_with_len a (suc n) ≡ range_with_len a n ++ (j ∷ [])
range_last a zero j e = let same : a ≡ j = omega arith in ap (λ k. k ∷ []) same
range_last a (suc n) j e = ap (λ l. a ∷ l) (range_last (a + 1) n j (omega arith))

pub range-suc : (i : ℕ) → range_with_len 0 (suc i) ≡ range_with_len 0 i ++ (i ∷ [])
range-suc i = range_last 0 i i (omega arith)

pub range-more : (i : ℕ) → range_with_len 0 (i + 1) ≡ range_with_len 0 i ++ (i ∷ [])
range-more i = ap (range_with_len 0) (add-one i) ∙ range-suc i

pub all-suc : (p : ℕ → Bool) (i : ℕ) → all_below p (suc i) ≡ (all_below p i && p i)
all-suc p i =
    ap (list_all p) (range-suc i) ∙ list_all-append p (range_with_len 0 i) (i ∷ []) ∙ ap (λ b. all_below p i && b) (and-true (p i))

pub some-suc : (p : ℕ → Bool) (i : ℕ) → some_below p (suc i) ≡ (some_below p i || p i)
some-suc p i =
    ap (list_any p) (range-suc i) ∙ list_any-append p (range_with_len 0 i) (i ∷ []) ∙ ap (λ b. some_below p i || b) (or-false (p i))

pub picked-yes : (p : ℕ → Bool) (f : ℕ → ℕ) (i : ℕ) (l : List ℕ) → p i ≡ true → picked p f (i ∷ l) ≡ f i ∷ picked p f l
picked-yes p f i l e = rw e refl

pub picked-no : (p : ℕ → Bool) (f : ℕ → ℕ) (i : ℕ) (l : List ℕ) → p i ≡ false → picked p f (i ∷ l) ≡ picked p f l
picked-no p f i l e = rw e refl

-- by the test's two cases
pub split : {P : Type 0} (t : Bool) → (t ≡ true → P) → (t ≡ false → P) → P
split true f g = f refl
split false f g = g refl

pub picked-append : (p : ℕ → Bool) (f : ℕ → ℕ) (l m : List ℕ) → picked p f (l ++ m) ≡ picked p f l ++ picked p f m
picked-append p f l m = ap (map f) (filter-append p l m) ∙ map-append f (filter p l) (filter p m)

pub more_yes : (p : ℕ → Bool) (f : ℕ → ℕ) (i : ℕ) → p i ≡ true → picked p f (range_with_len 0 (i + 1)) ≡ picked p f (range_with_len 0 i) ++ (f i ∷ [])
more_yes p f i e = rw (range-more i, picked-append p f (range_with_len 0 i) (i ∷ []), e) refl

pub more_no : (p : ℕ → Bool) (f : ℕ → ℕ) (i : ℕ) → p i ≡ false → picked p f (range_with_len 0 (i + 1)) ≡ picked p f (range_with_len 0 i)
more_no p f i e = rw (range-more i, picked-append p f (range_with_len 0 i) (i ∷ []), e, append-nil) refl

-- a row that is written from the front
pub front : (row : List ℕ) (l : List ℕ) (n x : ℕ) → n < length row → take n row ≡ l → take (n + 1) (set row n x) ≡ l ++ (x ∷ [])
front row l n x h e = rw (add-one n, take-suc-set row n x h, e) refl
