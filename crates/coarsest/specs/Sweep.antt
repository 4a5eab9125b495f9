-- A pass as the code's loops make it, over all ids below the pass's starting count. It is `pass` (proofs/Passes.antt):
-- a cell that is no leaf at the pass's start is none later on, and nothing is due for it.
use Rattle.std.specs.Prelude.{ℕ, List, length, fold}
use Rattle.std.specs.List.{range_with_len}
use Rattle.table.specs.Mesh.{Cell}
use Rattle.coarsest.specs.declared.Engine.{Engine}
use Rattle.coarsest.specs.Passes.{with_each}

-- the table after the pairs (a, 0) to (a, b - 1)
unfoldable pub row : Engine → ℕ → List Cell → ℕ → ℕ → List Cell
row e k t a b = with_each e k t a (range_with_len 0 b)

-- the table after the rows 0 to a - 1, each of n pairs
unfoldable pub rows : Engine → ℕ → ℕ → List Cell → ℕ → List Cell
rows e k n t a = fold (λ u i. row e k u i n) t (range_with_len 0 a)

unfoldable pub sweep : Engine → ℕ → List Cell → List Cell
sweep e k t = rows e k (length t) t (length t)
