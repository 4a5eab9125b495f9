-- The new ones of the corners so far are written.
use Rattle.std.proofs.Common.{◌≡◌, ◌≤◌}
use Rattle.refusals.specs.Said.{written}
use Rattle.net.specs.First.{rank}
use Rattle.places.specs.Places.{places_in, firsts}
use Rattle.places.proofs.Numbers.{nodes_to}
use Rattle.places.proofs.Leaves.write_nodes.Given as goal

abbrev pub invariant-loop-i : goal.invariant-loop-i
invariant-loop-i l = record {
  counted : l.count ≡ rank (firsts (places_in l.self)) l.i;
  few : l.count ≤ l.i;
  nodes : l.nodes ≡ written (nodes_to (places_in l.self) l.i) l.fn.nodes;
}
