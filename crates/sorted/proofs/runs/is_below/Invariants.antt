-- What has been seen of the columns, and what is left of them, tell whether the entry is below.
use Rattle.std.proofs.Common.{◌≡◌, ◌&&◌, ◌||◌, drop}
use Rattle.std.specs.Ordering.{is_lt, nat_cmp}
use Rattle.std.specs.Cmp.Lexicographic.{slice_cmp}
use Rattle.sorted.proofs.runs.is_below.Given as goal

abbrev pub invariant-loop-c : goal.invariant-loop-c
invariant-loop-c g l =
    is_lt (slice_cmp nat_cmp l.entry l.key) ≡ (l.below || (l.equal && is_lt (slice_cmp nat_cmp (drop l.c l.entry) (drop l.c l.key))))
