use Rattle.std.proofs.Common.{◌∙◌}
use Rattle.weights.specs.Bare.{nodes_of}
use Rattle.weights.proofs.Middles.{size-is}
use Rattle.weights.proofs.extents.size.Goals as goal

pub returns : goal.returns
returns c =
    let a = c.args in
    c.saturating_sub.ensures ∙ size-is a.way (nodes_of a.net.now) a.cell.now _ c.axis-axis.ensures _ _ c.node-near.ensures.value c.node-far.ensures.value
