use Rattle.std.proofs.Common.{◌∙◌}
use Rattle.std.specs.Int.{abs_diff}
use Rattle.weights.proofs.weigh.distance.Goals as goal

pub returns : goal.returns
returns c = c.abs_diff.ensures ∙ (λ t. abs_diff (c.node.ensures.value t).x (c.node-2.ensures.value t).x)
