use Rattle.std.proofs.Common.{sym, ◌∙◌}
use Rattle.checks.proofs.Rooms.{roomy-facts}
use Rattle.checks.proofs.room.find_fault.Goals as goal

pub find_quickly-requires-clause-few_nodes : goal.find_quickly-requires-clause-few_nodes
find_quickly-requires-clause-few_nodes c = (roomy-facts _ _ _ (sym c.has_room.ensures ∙ c.if-has_room.true)).0

pub find_quickly-requires-clause-room : goal.find_quickly-requires-clause-room
find_quickly-requires-clause-room c = (roomy-facts _ _ _ (sym c.has_room.ensures ∙ c.if-has_room.true)).1
