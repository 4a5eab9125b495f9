use Rattle.std.proofs.Common.{ap, sym, ◌∙◌, arith, length}
use Rattle.refusals.specs.Said.{written}
use Rattle.links.specs.Lists.{numbers_of}
use Rattle.links.proofs.Insides.{none, all, kept-none, kept-few, kept-all, kept-inside, kept-outside}
use Rattle.links.proofs.rows.Footprint.write_inside.Goals.{then-covers, else-covers}
use Rattle.links.proofs.rows.Footprint.write_inside.Goals as goal

pub returns-then-not-has_area-clause-count : goal.returns-then-not-has_area-clause-count
returns-then-not-has_area-clause-count c =
    sym (ap length (none c.args.nodes.now c.args.self.now (numbers_of c.args.candidates.now) (sym c.if-not-has_area.ensures)))

pub returns-then-not-has_area-clause-row : goal.returns-then-not-has_area-clause-row
returns-then-not-has_area-clause-row c =
    sym (ap (λ z. written z c.args.into.now) (none c.args.nodes.now c.args.self.now (numbers_of c.args.candidates.now) (sym c.if-not-has_area.ensures)))

pub loop-entry-init : goal.loop-entry-init
loop-entry-init c = kept-none _ _ _ _

pub bounds-into-count : goal.bounds-into-count
bounds-into-count c =
    let a = c.args in
    let l = c.loop-entry in
    let few = kept-few a.nodes.now a.self.now a.candidates.now a.into.now l.into l.count l.entry-index l.invariant (omega arith) in
    let r = c.requires.room in
    let t = c.loop-entry-test.true in
    omega arith

pub loop-entry-preserved : goal.loop-entry-preserved
loop-entry-preserved c =
    let a = c.args in
    let l = c.loop-entry in
    let r = c.requires.room in
    let t = c.loop-entry-test.true in
    elim c.if-covers.branch [
      | then-covers w ↦ rw (w.into-is, w.count-is) (kept-inside a.nodes.now a.self.now a.candidates.now a.into.now l.into l.count l.entry-index l.invariant r t (sym w.if-covers.ensures))
      | else-covers w ↦ rw (w.into-is, w.count-is) (kept-outside a.nodes.now a.self.now a.candidates.now a.into.now l.into l.count l.entry-index l.invariant r t (sym w.if-covers.ensures))
    ]

pub returns : goal.returns
returns c =
    let a = c.args in
    let l = c.loop-entry in
    let k = kept-all a.nodes.now a.self.now a.candidates.now a.into.now l.into l.count l.entry-index l.invariant c.loop-entry-test.false in
    let e = all a.nodes.now a.self.now (numbers_of a.candidates.now) (sym c.if-not-has_area.ensures) in
    record { count = k.0 ∙ ap length (sym e); row = k.1 ∙ ap (λ z. written z a.into.now) (sym e) }
