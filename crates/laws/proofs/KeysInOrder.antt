-- The six keys' entries in order, computed. Assumes nothing.
use Rattle.std.proofs.Common.{rules, zero, suc, ℕ, ◌≡◌, ◌+◌, ◌<◌, ◌≤◌, List, [], ◌∷◌, map, slice_index_or, true, false, refl, arith}
use Rattle.std.specs.List.{range_with_len}
use Rattle.std.specs.Ordering.{is_lt, nat_cmp}
use Rattle.std.specs.Cmp.Lexicographic.{slice_cmp}
use Rattle.std.specs.List.Sorted.{IsPermutation}
use Rattle.std.proofs.lemmas.List.Sorted.{sum_by-IsPermutation}
use Rattle.sorted.specs.Firsts.{IsInOrder}
use Rattle.laws.specs.Orders.{entry, in_order, exchanged, doubled}

-- no entry is above the next
pub ascending : (k : ℕ) (d : List ℕ) → 0 ≤ k → k + 1 < 6 → is_lt (slice_cmp nat_cmp (slice_index_or in_order (k + 1) d) (slice_index_or in_order k d)) ≡ false
ascending zero d _ _ = refl
ascending (suc zero) d _ _ = refl
ascending (suc (suc zero)) d _ _ = refl
ascending (suc (suc (suc zero))) d _ _ = refl
ascending (suc (suc (suc (suc zero)))) d _ _ = refl
ascending (suc (suc (suc (suc (suc k))))) d _ h = absurd (omega arith)

-- five exchanges
pub same_entries : IsPermutation (map entry (range_with_len 0 6)) in_order
same_entries = record {
  moves = (4, 5) ∷ (3, 4) ∷ (2, 4) ∷ (1, 4) ∷ (0, 1) ∷ [];
  below = search rules;
  is = refl;
}

-- an entry is above the next
pub exchanged-falls : IsInOrder entry 6 exchanged → ⊥
exchanged-falls h = let e : true ≡ false = h.sorted 2 [] (omega arith) (omega arith) in cc

-- the numbers don't add up to those of all entries
pub doubled-lacks : IsInOrder entry 6 doubled → ⊥
doubled-lacks h = let e : ◌≡◌ {A = ℕ} 13 15 = sum_by-IsPermutation (λ (x : List ℕ). slice_index_or x 1 0) (map entry (range_with_len 0 6)) doubled h.same in absurd (omega arith)
