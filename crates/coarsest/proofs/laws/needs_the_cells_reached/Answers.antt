use Rattle.coarsest.proofs.Ends.{evened-needs, needs-one}
use Rattle.std.proofs.Common.{sym, subst}
use Rattle.coarsest.specs.Names.{Needs}
use Rattle.coarsest.proofs.laws.needs_the_cells_reached.Goals as goal

pub returns : goal.returns
returns c = λ e k M t w n.
    (needs-one e k M t w n, λ s. subst (Needs k M t) (sym s) (evened-needs e k M t w))
