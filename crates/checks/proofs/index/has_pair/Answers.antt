use Rattle.std.proofs.Common.{sym, ◌∙◌}
use Rattle.checks.proofs.Pairs.{searched_yes, searched_no}
use Rattle.checks.proofs.index.has_pair.Goals as goal

pub returns-clause-found : goal.returns-clause-found
returns-clause-found c =
    let s = c.binary_search.ensures in
    λ e. searched_yes c.args.row.now c.requires c.args.pair _ s.bound s.position (sym c.is_ok.ensures.value ∙ e)

pub returns-clause-absent : goal.returns-clause-absent
returns-clause-absent c =
    let s = c.binary_search.ensures in
    λ e. searched_no c.args.row.now c.requires c.args.pair _ s.bound s.position (sym c.is_ok.ensures.value ∙ e)
