use Rattle.std.proofs.Common.{sym, subst}
use Rattle.links.specs.Lists.{IsLayer}
use Rattle.links.proofs.Runs.{layer-is}
use Rattle.links.proofs.entries.layer_list.Goals as goal

pub returns : goal.returns
returns c = λ nodes o. subst (IsLayer nodes c.args.layer) (sym c.run.ensures) (layer-is nodes c.args.layer c.args.row.now c.requires o)
