-- The first places so far are numbers, and the others stand as they did.
use Rattle.std.proofs.Common.{◌≡◌, ◌≤◌, ◌++◌, map, take, drop}
use Rattle.net.specs.First.{rank_in}
use Rattle.places.proofs.nodes.number_firsts.Given as goal

abbrev pub invariant-loop-i : goal.invariant-loop-i
invariant-loop-i l = record {
  counted : l.count ≡ rank_in l.fn.row l.i;
  few : l.count ≤ l.i;
  row : l.row ≡ map (rank_in l.fn.row) (take l.i l.fn.row) ++ drop l.i l.fn.row;
}
