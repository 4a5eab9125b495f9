use Rattle.std.proofs.Common.{◌∙◌}
use Rattle.table.proofs.Tables.{polygon_read}
use Rattle.table.proofs.view.Table.polygon.Goals as goal

pub returns : goal.returns
returns c = c.poly_at.ensures ∙ polygon_read _ _ _ c.requires
