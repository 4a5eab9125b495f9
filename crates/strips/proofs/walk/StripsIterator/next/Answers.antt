use Rattle.std.proofs.Common.{sym, refl, length, arith}
use Rattle.std.proofs.lemmas.List.{drop_all}
use Rattle.strips.specs.Walk.{left}
use Rattle.strips.proofs.walk.StripsIterator.next.Goals as goal

pub returns-in-None-clause-steps : goal.returns-in-None-clause-steps
unfolding left
returns-in-None-clause-steps c =
    let hs = c.args.self.now.ring.heights.now in
    let none = drop_all (length hs) hs (omega arith) in
    (sym c.in-None.ensures, rw none refl)
