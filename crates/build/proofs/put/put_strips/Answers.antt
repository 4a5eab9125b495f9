use Rattle.std.proofs.Common.{arith, refl, sym, ◌∙◌}
use Rattle.strips.specs.Coming.{coming}
use Rattle.strips.proofs.Bounds.{strips-sound, sound-first, sound-rest}
use Rattle.build.proofs.Cutting.{cuts}
use Rattle.build.proofs.Placing.{placed-none, roots-none, length-roots-cons, strip-placed, room-down}
use Rattle.build.proofs.put.put_strips.Goals as goal

pub loop-strip-init : goal.loop-strip-init
loop-strip-init c =
    rw (c.into_iter-strip-iterator.ensures.into_iter_gives, c.strips-strip-items.ensures)
    (record { sound = strips-sound c.args.ring.now.points.now; counted = refl; put = refl })

pub returns : goal.returns
returns c =
    let a = c.args in
    let s = c.loop-strip in
    let none = roots-none a.poly a.cutter.cap a.cutter.cell in
    let e = c.in-None.ensures.steps.0 in
    record {
      next = omega (arith, rw (e, none) at s.invariant.counted);
      slots = sym (placed-none s.t s.at) ∙ rw (e, none) at s.invariant.put;
    }

pub cut_of-cut-requires : goal.cut_of-cut-requires
cut_of-cut-requires c = sound-first _ _ (rw c.in-Some.ensures.steps at c.loop-strip.invariant.sound)

pub put_grid-at-requires : goal.put_grid-at-requires
put_grid-at-requires c =
    let z = c.requires in
    let a = c.args in
    let g = a.cutter in
    let s = c.loop-strip in
    let e = c.in-Some.ensures.steps in
    let all = rw e at s.invariant.counted in
    let first = length-roots-cons a.poly g.cap g.cell c.in-Some.strip (coming c.next.new.self) in
    rw c.cut_of-cut.ensures
    (record {
      sound = sound-first _ _ (rw e at s.invariant.sound);
      within_cap = cuts g.cap g.cell c.in-Some.strip g.sizes;
      room = record {
        room = room-down _ _ _ _ (omega (arith, all, first)) z.room.room s.auto.t;
        few = omega (arith, s.auto.t, z.room.few);
      };
      polygon_in_range = z.polygon_in_range;
    })

pub loop-strip-preserved : goal.loop-strip-preserved
loop-strip-preserved c =
    let a = c.args in
    let g = a.cutter in
    let s = c.loop-strip in
    let e = c.in-Some.ensures.steps in
    let q = c.in-Some.strip in
    let all = rw e at s.invariant.counted in
    let first = length-roots-cons a.poly g.cap g.cell q (coming c.next.new.self) in
    let k = rw c.cut_of-cut.ensures at c.put_grid-at.ensures in
    record {
      sound = sound-rest _ _ (rw e at s.invariant.sound);
      counted = omega (arith, k.next, all, first);
      put = strip-placed s.t c.put_grid-at.new.t s.at c.put_grid-at.result a.poly g.cap g.cell q _ k.slots k.next
          (room-down _ _ _ _ (omega (arith, all)) c.requires.room.room s.auto.t)
          ∙ rw (← e) s.invariant.put;
    }
