-- The test says yes exactly if the row holds a well-formed table.
use Rattle.std.proofs.Common.{sym, ◌∙◌}
use Rattle.table.proofs.Wellformed.{formed-facts, facts-formed}
use Rattle.table.proofs.view.Table.new.Goals as goal

pub returns-then-well_formed-clause-formed : goal.returns-then-well_formed-clause-formed
returns-then-well_formed-clause-formed c =
    (λ _. formed-facts _ _ (sym c.well_formed-2.ensures ∙ c.if-well_formed.true), λ _. cc)

pub returns-else-well_formed-clause-formed : goal.returns-else-well_formed-clause-formed
returns-else-well_formed-clause-formed c =
    (λ e. cc, λ w. sym c.if-well_formed.false ∙ c.well_formed-2.ensures ∙ facts-formed _ _ w)
