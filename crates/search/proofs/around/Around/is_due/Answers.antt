use Rattle.std.proofs.Common.{sym, ◌∙◌}
use Rattle.search.proofs.Slots.{due-slots}
use Rattle.search.proofs.around.Around.is_due.Goals as goal

pub returns : goal.returns
returns c =
    let t = c.args.self.now.table in
    cc c.due.ensures
    ∙ sym (due-slots t.row.now t.head.count c.args.difference c.args.f c.args.c c.requires.fine c.requires.coarse)
