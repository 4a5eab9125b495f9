use Rattle.std.proofs.Common.{sym, ◌∙◌}
use Rattle.power.proofs.Verdict.{ranged}
use Rattle.power.proofs.cell_power.Goals as goal

pub fill-requires-clause-a_potential_each : goal.fill-requires-clause-a_potential_each
fill-requires-clause-a_potential_each c = (ranged _ _ _ (sym c.in_ranges.ensures ∙ c.if-not-in_ranges.false)).count
