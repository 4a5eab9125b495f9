-- No node passed lies there.
use Rattle.std.proofs.Common.{◌≡◌}
use Rattle.net_rows.specs.Nets.{nth_node}
use Rattle.checks.specs.Nodes.{here, last_below, last_at}
use Rattle.checks.proofs.lookup.last_at.Given as goal

abbrev pub invariant-loop-n : goal.invariant-loop-n
invariant-loop-n l = last_at l.nodes l.class l.x l.y ≡ last_below (λ n. here l.class l.x l.y (nth_node l.nodes n)) l.n
