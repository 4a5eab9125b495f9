use Rattle.std.proofs.Common.{sym, ap, ◌∙◌, arith}
use Rattle.bare_net.specs.Sides.{repeats}
use Rattle.bare_net.proofs.Listing.{listed_one, listed_again}
use Rattle.bare_net.proofs.sides.Sides.list_slots.Goals.{then-not-repeats, else-not-repeats}
use Rattle.bare_net.proofs.sides.Sides.list_slots.Goals as goal

pub loop-j-preserved : goal.loop-j-preserved
loop-j-preserved c =
    let s = c.args.self.now in
    let i = c.loop-j.invariant in
    let few = i.few in
    let long = c.loop-j.auto.slots in
    let room = c.requires.room in
    let t = c.loop-j-test.true in
    let e = c.slot_count-j-end.ensures in
    elim c.if-not-repeats.branch [
      | then-not-repeats w ↦ rw (w.slots-is, w.count-is) (listed_one s _ _ _ i (omega arith) (omega arith))
      | else-not-repeats w ↦ rw (w.slots-is, w.count-is) (listed_again s _ _ _ i (sym (ap (repeats s) c.of.ensures) ∙ sym c.repeats.ensures ∙ w.if-not-repeats.false))
    ]
