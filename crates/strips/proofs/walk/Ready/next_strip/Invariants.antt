-- The strips that are left stay the same until one is found. Each turn goes to a later edge, or to a later band.
use Rattle.std.proofs.Common.{length, drop, ◌+◌, ◌-◌, ◌*◌, ◌≡◌}
use Rattle.strips.specs.Walk.{left}
use Rattle.strips.proofs.walk.Ready.next_strip.Given as goal

abbrev pub invariant-loop-k : goal.invariant-loop-k
invariant-loop-k l =
    let r = l.self in
    left r.points.now r.edges.now l.j (drop l.k r.heights.now)
    ≡ left r.points.now r.edges.now l.edge (drop l.band r.heights.now)

abbrev pub decreases-loop-k : goal.decreases-loop-k
decreases-loop-k l = (l.last - l.k) * (length l.self.edges.now + 1) + (length l.self.edges.now - l.j)
