use Rattle.std.proofs.Math.Logic.{∥∥₁_elim}
use Rattle.std.proofs.Props.{props}
use Rattle.checks.proofs.Indexed.{pair-found}
use Rattle.checks.proofs.index.IndexLookup.are_joined.Goals as goal

pub has_pair-requires : goal.has_pair-requires
has_pair-requires c = ∥∥₁_elim c.args.self.now.paired.in_order (hlevel props) (λ p. p.sorted)

pub returns : goal.returns
returns c =
    let paired = c.args.self.now.paired in
    let e = rw c.pair_of.ensures at c.has_pair.ensures in
    ∥∥₁_elim paired.in_order (hlevel props)
    (λ p. pair-found paired.net.rows.edges.now paired.pairs.now p c.args.a c.args.b c.has_pair.result e.found e.absent)
