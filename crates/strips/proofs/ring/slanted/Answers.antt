use Rattle.std.proofs.Common.{◌≡◌, length, refl, ◌∙◌, arith, add-one}
use Rattle.strips.specs.Rings.{ring_slants}
use Rattle.strips.proofs.Picking.{some-suc}
use Rattle.strips.proofs.ring.slanted.Goals as goal

pub loop-i-preserved : goal.loop-i-preserved
loop-i-preserved c = rw (c.loop-i.invariant, c.slants_at-found.ensures, add-one c.loop-i.i, some-suc) refl

pub returns : goal.returns
unfolding ring_slants
returns c =
    let e : c.loop-i.i ≡ length c.args.points.now = omega arith in
    c.loop-i.invariant ∙ rw e refl
