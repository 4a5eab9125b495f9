use Rattle.std.proofs.Common.{◌∙◌}
use Rattle.table.proofs.Tables.{level_read}
use Rattle.table.proofs.view.Table.level.Goals as goal

pub returns : goal.returns
returns c = c.level_at.ensures ∙ level_read _ _ _ c.requires
