use Rattle.net_rows.specs.Nets.{blank_cell}
use Rattle.net_rows.proofs.Sound.{sound_facts}
use Rattle.net_rows.proofs.view.SoundNet.cell.Goals as goal

pub returns-clause-known : goal.returns-clause-known
returns-clause-known c = ((sound_facts _ _ _ c.args.self.now.sound).each_cell c.args.c blank_cell c.requires).known
