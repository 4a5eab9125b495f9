use Rattle.std.proofs.Common.{◌≡◌, ◌<◌, length, get_or, drop, fold}
use Rattle.net_rows.specs.Nets.{nth_node}
use Rattle.links.specs.Made.{distance, lead}
use Rattle.links.proofs.nearest.nearest.Given as goal

-- from the best so far, over what is left, as from the first over the others
abbrev pub invariant-loop-k : goal.invariant-loop-k
invariant-loop-k g l = record {
  known : l.best < length l.nodes;
  so_far : l.least ≡ distance l.x l.y (nth_node l.nodes l.best);
  rest : fold (lead l.nodes l.x l.y) l.best (drop l.k (g.L.NodeList.numbers l.list)) ≡ fold (lead l.nodes l.x l.y) (get_or (g.L.NodeList.numbers l.list) 0 0) (drop 1 (g.L.NodeList.numbers l.list));
}
