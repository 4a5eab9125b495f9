-- What is left and the counts passed add up to the total.
use Rattle.std.proofs.Common.{sum, take, ◌+◌, ◌≡◌}
use Rattle.build.proofs.outlines.adds_up.Given as goal

abbrev pub invariant-loop-count : goal.invariant-loop-count
invariant-loop-count l = record { whole : sum (take l.count-index l.counts) + l.left ≡ l.total }
