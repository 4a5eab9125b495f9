-- The cells that a row holds, one by one: the table has them, and sees no number past its slots. Assumes nothing.
use Rattle.std.proofs.Common.{ℕ, ◌+◌, ◌<◌, ◌≡◌, List, [], ◌∷◌, ◌++◌, arith, ℤ, length}
use Rattle.std.proofs.lemmas.List.FromFn.{length-map-range_with_len, get_or-map-range_with_len, map-range_with_len_more}
use Rattle.table.specs.Slots.{cell_at}
use Rattle.table.specs.Mesh.{past, at, mesh_cell, table}

module _ (t : List ℤ) where
  pub length-table : (n : ℕ) → length (table t n) ≡ n
  unfolding table
  length-table n = length-map-range_with_len _ 0 n

  pub at_table : (n i : ℕ) → i < n → at (table t n) i ≡ mesh_cell (cell_at t i)
  unfolding table
  at_table n i h = get_or-map-range_with_len _ 0 n i i past h (omega arith)

  -- one cell more
  pub table_more : (n : ℕ) → table t (n + 1) ≡ table t n ++ (mesh_cell (cell_at t n) ∷ [])
  unfolding table
  table_more n = map-range_with_len_more _ 0 n n (omega arith)
