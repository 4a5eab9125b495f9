use Rattle.net_rows.specs.declared.axis.Axis.TheVariants.{Column, Row}
use Rattle.weights.specs.Bare.{nodes_of, faced}
use Rattle.weights.proofs.Gaps.{up-gaps, down-gaps, right-gaps, left-gaps}
use Rattle.weights.proofs.room.Room.weigh.Goals as goal

pub raise_hanging-requires-clause-own_gaps : goal.raise_hanging-requires-clause-own_gaps
raise_hanging-requires-clause-own_gaps c = up-gaps (nodes_of c.args.net.now) _ _ (c.write_gaps-2.ensures (faced c.args.net.now Column) c.sort_nodes-columns.ensures.lined)

pub raise_hanging-requires-2-clause-own_gaps : goal.raise_hanging-requires-2-clause-own_gaps
raise_hanging-requires-2-clause-own_gaps c = down-gaps (nodes_of c.args.net.now) _ _ (c.write_gaps-2.ensures (faced c.args.net.now Column) c.sort_nodes-columns.ensures.lined)

pub raise_hanging-requires-3-clause-own_gaps : goal.raise_hanging-requires-3-clause-own_gaps
raise_hanging-requires-3-clause-own_gaps c = right-gaps (nodes_of c.args.net.now) _ _ (c.write_gaps.ensures (faced c.args.net.now Row) c.sort_nodes-rows.ensures.lined)

pub raise_hanging-requires-4-clause-own_gaps : goal.raise_hanging-requires-4-clause-own_gaps
raise_hanging-requires-4-clause-own_gaps c = left-gaps (nodes_of c.args.net.now) _ _ (c.write_gaps.ensures (faced c.args.net.now Row) c.sort_nodes-rows.ensures.lined)
