use Rattle.bare_net.proofs.Listing.{ListedTo}
use Rattle.bare_net.proofs.sides.Sides.list_slots.Given as goal

abbrev pub invariant-loop-j : goal.invariant-loop-j
invariant-loop-j l = ListedTo l.self l.slots l.count l.j
