-- The first and the last entry of a sorted row that pass a test: of those that pass the least and the greatest.
use Rattle.std.proofs.Common.{◌≡◌, ℕ, zero, suc, ◌-◌, ◌<◌, ◌≤◌, Bool, true, false, List, [], ◌∷◌, length, get_or, filter, slice_get, cond, Option, Some, None, refl, sym, ◌∙◌, subst, ⊎_elim, arith, Contains, IsSorted}
use Rattle.std.specs.Ordering.{is_lt, nat_cmp}
use Rattle.std.specs.Cmp.Lexicographic.{slice_cmp}
use Rattle.std.proofs.lemmas.Bool.{cases_Bool}
use Rattle.std.proofs.lemmas.Cmp.{nat_list_cmp_total}
use Rattle.std.proofs.lemmas.Option.{slice_get-get_or, get_or_from_slice_get}
use Rattle.std.proofs.lemmas.List.{get_or_default}
use Rattle.std.proofs.lemmas.List.Elements.{All-from_get_or, All-filter, filter_passes, Contains-get_or}
use Rattle.std.proofs.lemmas.List.Kept.{IsSortedBy-filter}
use Rattle.std.proofs.lemmas.List.Sorted.{ranks_by, sorted_far}

-- what passes is kept
pub record Kept (xs : List (List ℕ)) (e : List ℕ) : Type 0 where
  pub place : ℕ
  pub inside : place < length xs
  pub is : get_or xs place [] ≡ e

kept : (p : List ℕ → Bool) (xs : List (List ℕ)) (k : ℕ) → k < length xs → p (get_or xs k []) ≡ true → Kept (filter p xs) (get_or xs k [])
kept p [] k h t = absurd (omega arith)
kept p (x ∷ xs) zero h t = rw t (record { place = 0; inside = omega arith; is = refl })
kept p (x ∷ xs) (suc k) h t = go (p x) (kept p xs k (omega arith) t)
  where
    go : (b : Bool) → Kept (filter p xs) (get_or xs k []) → Kept (cond b (x ∷ filter p xs) (filter p xs)) (get_or xs k [])
    go true K = let i = K.inside in record { place = suc K.place; inside = omega arith; is = K.is }
    go false K = K

module _ (row : List (List ℕ)) (up : IsSorted (slice_cmp nat_cmp) row) (p : List ℕ → Bool) where
  abbrev passing : List (List ℕ)
  passing = filter p row

  -- e passes, and stands in the row
  pub record Passes (e : List ℕ) : Type 0 where
    pub there : Kept row e
    pub passes : p e ≡ true

  passes_at : (k : ℕ) → k < length passing → Passes (get_or passing k [])
  passes_at k h =
      let c = All-filter p (Contains row) row (All-from_get_or (Contains row) row [] (λ i g. Contains-get_or row i [] g)) k [] h in
      record {
        there = record { place = c.0; inside = c.1; is = get_or_default row c.0 [] _ c.1 ∙ c.2 };
        passes = filter_passes p row k [] h;
      }

  -- a later one that passes is no less
  rises : (i j : ℕ) → i ≤ j → j < length passing → is_lt (slice_cmp nat_cmp (get_or passing j []) (get_or passing i [])) ≡ false
  rises i j h g =
      sorted_far (λ (x y : List ℕ). is_lt (slice_cmp nat_cmp x y)) (ranks_by nat_list_cmp_total (λ (x : List ℕ). x)) passing
      (IsSortedBy-filter (λ (x y : List ℕ). is_lt (slice_cmp nat_cmp x y)) (ranks_by nat_list_cmp_total (λ (x : List ℕ). x)) p row up) i j [] h g

  inside : (i : ℕ) (e : List ℕ) → slice_get passing i ≡ Some e → i < length passing
  inside i e s = go passing i s
    where
      go : (xs : List (List ℕ)) (i : ℕ) → slice_get xs i ≡ Some e → i < length xs
      go [] i s = cc
      go (x ∷ xs) zero s = omega arith
      go (x ∷ xs) (suc i) s = let h = go xs i s in omega arith

  pub none_passes : (i : ℕ) → i ≤ length passing - 1 → slice_get passing i ≡ None → (k : ℕ) → k < length row → p (get_or row k []) ≡ false
  none_passes i l s k h = ⊎_elim (λ (t : p (get_or row k []) ≡ true). (let K = kept p row k h t in let g = K.inside in no (sym s ∙ slice_get-get_or passing i [] (omega arith)))) (λ f. f) (cases_Bool (p (get_or row k [])))
    where
      no : {x : List ℕ} {q : Type 0} → ◌≡◌ {A = Option (List ℕ)} None (Some x) → q
      no e = cc

  pub found_passes : (i : ℕ) (e : List ℕ) → slice_get passing i ≡ Some e → Passes e
  found_passes i e s = subst Passes (get_or_from_slice_get passing i e [] s) (passes_at i (inside i e s))

  -- the first is the least
  pub first_least : (e : List ℕ) → slice_get passing 0 ≡ Some e → (k : ℕ) → k < length row → p (get_or row k []) ≡ true → is_lt (slice_cmp nat_cmp (get_or row k []) e) ≡ false
  first_least e s k h t =
      let K = kept p row k h t in
      subst (λ x. is_lt (slice_cmp nat_cmp (get_or row k []) x) ≡ false) (get_or_from_slice_get passing 0 e [] s)
      (subst (λ x. is_lt (slice_cmp nat_cmp x (get_or passing 0 [])) ≡ false) K.is (rises 0 K.place (omega arith) K.inside))

  -- the last is the greatest
  pub last_greatest : (e : List ℕ) → slice_get passing (length passing - 1) ≡ Some e → (k : ℕ) → k < length row → p (get_or row k []) ≡ true → is_lt (slice_cmp nat_cmp e (get_or row k [])) ≡ false
  last_greatest e s k h t =
      let K = kept p row k h t in
      let g = K.inside in
      subst (λ x. is_lt (slice_cmp nat_cmp x (get_or row k [])) ≡ false) (get_or_from_slice_get passing (length passing - 1) e [] s)
      (subst (λ x. is_lt (slice_cmp nat_cmp (get_or passing (length passing - 1) []) x) ≡ false) K.is (rises K.place (length passing - 1) (omega arith) (omega arith)))
