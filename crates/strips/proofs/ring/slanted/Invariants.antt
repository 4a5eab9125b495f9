-- So far some edge passed is slanted, or none is.
use Rattle.std.proofs.Common.{◌≡◌}
use Rattle.strips.proofs.Picking.{some_below}
use Rattle.strips.specs.Rings.{slants_at}
use Rattle.strips.proofs.ring.slanted.Given as goal

abbrev pub invariant-loop-i : goal.invariant-loop-i
invariant-loop-i l = l.found ≡ some_below (slants_at l.points) l.i
