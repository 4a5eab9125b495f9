-- The ids so far stand in front of the row.
use Rattle.std.proofs.Common.{◌≡◌, ℕ, ◌++◌, length, drop, map}
use Rattle.table.proofs.view.Table.list_leaves.Given as goal

abbrev pub invariant-loop-place : goal.invariant-loop-place
invariant-loop-place l = l.out ≡ map (λ (x : ℕ × ℕ). x.1) l.yielded ++ drop (length l.yielded) l.initial.out
