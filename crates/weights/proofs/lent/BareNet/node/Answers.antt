use Rattle.std.proofs.Common.{◌∙◌, ap, sym}
use Rattle.weights.specs.Lines.{facing}
use Rattle.weights.proofs.Facing.{faced_at, line-narrow}
use Rattle.weights.proofs.lent.BareNet.node.Goals as goal

pub returns-clause-value : goal.returns-clause-value
returns-clause-value c = c.facing.ensures ∙ (ap (facing c.args.axis) c.in_mesh.ensures ∙ sym (faced_at c.args.self.now c.args.axis c.args.node _ c.requires))

pub returns-clause-line_narrow : goal.returns-clause-line_narrow
returns-clause-line_narrow c = rw (c.facing.ensures, c.in_mesh.ensures) (line-narrow c.args.axis _)
