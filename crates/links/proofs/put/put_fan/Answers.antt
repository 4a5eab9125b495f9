use Rattle.std.proofs.Common.{ap, map, ◌∙◌, arith, refl}
use Rattle.std.proofs.lemmas.List.{take_all}
use Rattle.net_rows.proofs.Written.{mapped_more}
use Rattle.refusals.specs.Said.{written}
use Rattle.links.specs.Made.{edge}
use Rattle.links.proofs.put.put_fan.Goals as goal

pub loop-k-preserved : goal.loop-k-preserved
loop-k-preserved c =
    let h = c.requires in
    mapped_more (edge c.args.conductance c.args.from) c.args.list.now c.args.edges.now c.loop-k.edges c.loop-k.k 0 _ c.loop-k-test.true (omega arith) c.loop-k.invariant refl

pub returns : goal.returns
returns c =
    c.loop-k.invariant ∙ ap (λ l. written (map (edge c.args.conductance c.args.from) l) c.args.edges.now) (take_all c.loop-k.k c.args.list.now c.loop-k-test.false)
