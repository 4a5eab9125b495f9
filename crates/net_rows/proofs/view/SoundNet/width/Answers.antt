use Rattle.net_rows.proofs.Sound.{sound_facts}
use Rattle.net_rows.proofs.Gaps.{sides}
use Rattle.net_rows.proofs.view.SoundNet.width.Goals as goal

pub ticks_east_of-requires : goal.ticks_east_of-requires
ticks_east_of-requires c =
    rw c.cell.ensures.cell (sides _ _ _ (sound_facts _ _ _ c.args.self.now.sound) c.args.c c.requires).width

pub returns : goal.returns
returns c =
    let g = (sides _ _ _ (sound_facts _ _ _ c.args.self.now.sound) c.args.c c.requires).width in
    let e = rw c.cell.ensures.cell at c.ticks_east_of.ensures in
    record { ticks = e; in_range = rw e g.most }
