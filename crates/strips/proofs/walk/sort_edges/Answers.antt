-- The edges gathered are put in order at the front of the row.
use Rattle.strips.specs.Walk.{edges_of}
use Rattle.strips.proofs.Orders.{sort-sorted}
use Rattle.strips.proofs.Walks.{resorted}
use Rattle.strips.proofs.walk.sort_edges.Goals as goal

pub returns : goal.returns
unfolding edges_of
returns c =
    let s = c.sort_unstable in
    resorted c.gather_edges-n.new.row _ s.new.self _ c.gather_edges-n.ensures
    (sort-sorted _ _ s.ensures.permutation s.ensures.sorted)
