use Rattle.std.proofs.Common.{length, get_or, ap, ◌∙◌, sym, arith}
use Rattle.refusals.specs.Said.{written}
use Rattle.links.proofs.Behind.{stands-none, stands-all, next-room, next-stands}
use Rattle.links.proofs.Fans.{fan, fan-long, fans, fans-long}
use Rattle.links.proofs.put.put_pairs.Goals as goal

pub loop-from-init : goal.loop-from-init
loop-from-init c = stands-none _ _ _

pub put_fan-requires : goal.put_fan-requires
put_fan-requires c =
    let a = c.args in
    let l = c.loop-from in
    let r = c.requires.room in
    let e = fans-long a.conductance a.bottom.now a.top.now in
    let n = next-room (fan a.conductance a.top.now) a.bottom.now a.edges.now (omega arith) l.edges l.count l.from-index 0 c.loop-from-test.true l.invariant in
    let f = fan-long a.conductance a.top.now (get_or a.bottom.now l.from-index 0) in
    omega arith

pub loop-from-preserved : goal.loop-from-preserved
unfolding fan
loop-from-preserved c =
    let a = c.args in
    let l = c.loop-from in
    let r = c.requires.room in
    let e = fans-long a.conductance a.bottom.now a.top.now in
    next-stands (fan a.conductance a.top.now) a.bottom.now a.edges.now (omega arith) l.edges l.count l.from-index 0 c.loop-from-test.true l.invariant
    _ _ c.put_fan.ensures (sym (fan-long a.conductance a.top.now (get_or a.bottom.now l.from-index 0)))

pub returns : goal.returns
returns c =
    let a = c.args in
    let s = stands-all (fan a.conductance a.top.now) a.bottom.now a.edges.now c.loop-from.edges c.loop-from.count c.loop-from.from-index c.loop-from-test.false c.loop-from.invariant in
    let e = fans a.conductance a.bottom.now a.top.now in
    record { count = s.0 ∙ ap length e; row = s.1 ∙ ap (λ es. written es a.edges.now) e }
