use Rattle.std.proofs.Common.{arith, sym, ◌∙◌}
use Rattle.sorted.proofs.Below.{upto_on, past_upto}
use Rattle.sorted.proofs.runs.is_upto.Goals as goal

pub loop-c-preserved : goal.loop-c-preserved
loop-c-preserved g c =
    let long = c.told-entry in
    let r = c.requires.key_fits in
    let h = c.loop-c-test.true in
    c.loop-c.invariant ∙ upto_on c.args.entry.now c.args.key.now c.loop-c.c (omega arith) h c.if-entry-c.false

pub returns : goal.returns
returns g c = past_upto c.args.entry.now c.args.key.now c.loop-c.c c.loop-c-test.false ∙ sym c.loop-c.invariant
