-- What a binary search of a row in order found. Assumes nothing.
use Rattle.std.proofs.Common.{ℕ, ◌<◌, ◌≤◌, ◌≡◌, ap, ◌∙◌, true, false, List, length, get_or, arith, Contains, IsSorted, Result, Ok, Err, is_ok, ⊎_elim}
use Rattle.std.specs.declared.cmp.Ordering.TheVariants.{Equal}
use Rattle.std.specs.Ordering.{nat_cmp}
use Rattle.std.specs.Cmp.Lexicographic.{slice_cmp}
use Rattle.std.specs.List.Sorted.{IsSearchInRange, IsBinarySearchResult}
use Rattle.std.proofs.lemmas.Bool.{cases_lt}
use Rattle.std.proofs.lemmas.Cmp.{nat_list_cmp_total, tied_itself}
use Rattle.std.proofs.lemmas.List.Sorted.{searchable_from_sorted}
use Rattle.std.proofs.lemmas.Map.Lookups.{exact_bytes}

module _ (row : List (List ℕ)) (up : IsSorted (slice_cmp nat_cmp) row) (x : List ℕ) where
  pub searched_yes : (r : Result ℕ ℕ) → IsSearchInRange r (length row) → IsBinarySearchResult (λ y. slice_cmp nat_cmp y x) row r → is_ok r ≡ true → Contains row x
  searched_yes (Ok i) b f e = (i, b, exact_bytes (get_or row i x) x (f x))
  searched_yes (Err i) b f e = cc

  pub searched_no : (r : Result ℕ ℕ) → IsSearchInRange r (length row) → IsBinarySearchResult (λ y. slice_cmp nat_cmp y x) row r → is_ok r ≡ false → Contains row x → ⊥
  searched_no (Ok i) b f e c = cc
  searched_no (Err i) b f e c =
      let p = f (searchable_from_sorted nat_list_cmp_total (λ (y : List ℕ). y) row x up) in
      let q : slice_cmp nat_cmp (get_or row c.0 x) x ≡ Equal = ap (λ (y : List ℕ). slice_cmp nat_cmp y x) c.2 ∙ tied_itself nat_list_cmp_total x in
      let h = c.1 in
      ⊎_elim
      (λ (l : c.0 < i). let u = p.0 c.0 x (omega arith) l in cc)
      (λ (l : i ≤ c.0). let u = p.1 c.0 x l h in cc)
      (cases_lt c.0 i)
