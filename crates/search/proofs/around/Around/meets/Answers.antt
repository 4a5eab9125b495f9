use Rattle.std.proofs.Common.{◌∙◌}
use Rattle.table.proofs.Facts.{formed-cell}
use Rattle.search.proofs.Slots.{meet-slots}
use Rattle.search.proofs.around.Around.meets.Goals as goal

pub slots_meet-requires-clause-a_exact : goal.slots_meet-requires-clause-a_exact
slots_meet-requires-clause-a_exact c =
    let s = c.args.self.now in
    (formed-cell _ _ s.table.formed s.cell s.inside).held

pub slots_meet-requires-clause-c_exact : goal.slots_meet-requires-clause-c_exact
slots_meet-requires-clause-c_exact c =
    let s = c.args.self.now in
    (formed-cell _ _ s.table.formed c.args.c c.requires).held

pub returns : goal.returns
returns c e =
    let s = c.args.self.now in
    meet-slots s.table.row.now s.table.head.count s.cell c.args.c s.inside c.requires ∙ c.slots_meet.ensures e
