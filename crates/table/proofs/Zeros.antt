-- Runs of zeros in a row.
use Rattle.std.proofs.Common.{ℕ, ◌+◌, ◌<◌, ◌≤◌, ◌≡◌, true, List, arith, ℤ}
use Rattle.std.specs.List.{list_all, range_with_len}
use Rattle.table.specs.Formed.{zero_at}
use Rattle.table.proofs.All.{range-at, range_of, all_of}

-- from index b on, k numbers are zero
abbrev pub Zeros : List ℤ → ℕ → ℕ → Type 0
Zeros t b k = (q : ℕ) → b ≤ q → q < b + k → zero_at t q ≡ true

module _ (t : List ℤ) (b k : ℕ) where
  pub zeros : list_all (zero_at t) (range_with_len b k) ≡ true → Zeros t b k
  zeros e = range-at (zero_at t) b k e

  pub of-zeros : Zeros t b k → list_all (zero_at t) (range_with_len b k) ≡ true
  of-zeros f = range_of (zero_at t) b k f

  -- the same of a slot's numbers, which are read from its first on
  pub slot-zeros : Zeros t b k → list_all (λ j. zero_at t (b + j)) (range_with_len 0 k) ≡ true
  slot-zeros f = all_of (λ j. zero_at t (b + j)) k (λ j h. f (b + j) (omega arith) (omega arith))
