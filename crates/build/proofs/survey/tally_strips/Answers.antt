use Rattle.std.proofs.Common.{◌*◌, arith, refl, sym, ◌∙◌}
use Rattle.strips.proofs.Bounds.{strips-sound, sound-first, sound-rest}
use Rattle.build.specs.Grid.{cut_of}
use Rattle.build.proofs.Cutting.{cuts}
use Rattle.build.proofs.Placing.{roots-none}
use Rattle.build.proofs.Tallying.{even-none, even-first, uneven-first, more_same, length-roots-first}
use Rattle.build.proofs.survey.tally_strips.Goals as goal

pub loop-strip-init : goal.loop-strip-init
loop-strip-init c =
    rw (c.into_iter-strip-iterator.ensures.into_iter_gives, c.strips-strip-items.ensures)
    (record {
      sound = strips-sound c.args.ring.now.points.now;
      even = refl;
      counted = refl;
      fits = c.requires.count_fits;
    })

pub returns : goal.returns
returns c =
    let g = c.args.cutter in
    let i = c.loop-strip.invariant in
    let e = c.in-None.ensures.steps.0 in
    record {
      even = sym (rw (e, even-none g.unit g.cap g.cell) at i.even);
      counted = omega (arith, rw (e, roots-none 0 g.cap g.cell) at i.counted);
      fits = i.fits;
    }

pub cut_of-cut-requires : goal.cut_of-cut-requires
cut_of-cut-requires c = sound-first _ _ (rw c.in-Some.ensures.steps at c.loop-strip.invariant.sound)

pub is_even-requires : goal.is_even-requires
is_even-requires c =
    let g = c.args.cutter in
    record {
      sound = sound-first _ _ (rw c.in-Some.ensures.steps at c.loop-strip.invariant.sound);
      within_cap = rw c.cut_of-cut.ensures (cuts g.cap g.cell c.in-Some.strip g.sizes);
    }

pub returns-then-not-is_even : goal.returns-then-not-is_even
returns-then-not-is_even c =
    let g = c.args.cutter in
    let t = rw c.cut_of-cut.ensures at c.if-not-is_even.ensures in
    let k = rw c.in-Some.ensures.steps at c.loop-strip.invariant.even in
    sym k ∙ uneven-first g.unit g.cap g.cell c.in-Some.strip _ (sym t)

pub more-sum-requires : goal.more-sum-requires
more-sum-requires c =
    let g = c.args.cutter in
    record {
      within_cap = rw c.cut_of-cut.ensures (cuts g.cap g.cell c.in-Some.strip g.sizes);
      slots_fit = c.requires.slots_fit;
      sum_fits = c.loop-strip.invariant.fits;
    }

pub loop-strip-preserved : goal.loop-strip-preserved
loop-strip-preserved c =
    let g = c.args.cutter in
    let s = c.loop-strip in
    let e = c.in-Some.ensures.steps in
    let q = c.in-Some.strip in
    let cut = cut_of g.cap g.cell q in
    let m = rw c.cut_of-cut.ensures at c.more-sum.ensures in
    let t = rw c.cut_of-cut.ensures at c.if-not-is_even.ensures in
    record {
      sound = sound-rest _ _ (rw e at s.invariant.sound);
      even = even-first g.unit g.cap g.cell q _ (sym t) ∙ rw e at s.invariant.even;
      counted = rw m.sum
          (more_same c.args.slots s.sum _ (cut.ny * cut.nx) _ _ (length-roots-first g.cap g.cell q _)
          (rw e at s.invariant.counted));
      fits = m.fits;
    }
