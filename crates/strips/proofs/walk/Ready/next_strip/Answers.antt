use Rattle.std.proofs.Common.{get_or, ◌+◌, sym, ◌∙◌, arith}
use Rattle.strips.proofs.Bands.{ready-band}
use Rattle.strips.proofs.Walks.{left_end, left-strip, left-thin, left-on}
use Rattle.strips.proofs.walk.Ready.next_strip.Goals as goal

pub bounds-self-a : goal.bounds-self-a
bounds-self-a c =
    let r = c.args.self.now in
    let s = c.loop-k in
    let hi = get_or r.heights.now (s.k + 1) 0 in
    let band = ready-band r.points.now r.heights.now s.k r.heights_in_order (omega (arith, c.loop-k-test.true)) in
    let pair = c.in-Some.ensures hi band in
    omega (arith, pair.rising, pair.within)

pub offset_bounds-self-a : goal.offset_bounds-self-a
offset_bounds-self-a c =
    let r = c.args.self.now in
    let s = c.loop-k in
    let hi = get_or r.heights.now (s.k + 1) 0 in
    let band = ready-band r.points.now r.heights.now s.k r.heights_in_order (omega (arith, c.loop-k-test.true)) in
    let pair = c.in-Some.ensures hi band in
    omega (arith, pair.rising, pair.within)

pub bounds-self-b : goal.bounds-self-b
bounds-self-b c =
    let r = c.args.self.now in
    let s = c.loop-k in
    let hi = get_or r.heights.now (s.k + 1) 0 in
    let band = ready-band r.points.now r.heights.now s.k r.heights_in_order (omega (arith, c.loop-k-test.true)) in
    let pair = c.in-Some.ensures hi band in
    omega (arith, pair.within)

pub offset_bounds-self-b : goal.offset_bounds-self-b
offset_bounds-self-b c =
    let r = c.args.self.now in
    let s = c.loop-k in
    let hi = get_or r.heights.now (s.k + 1) 0 in
    let band = ready-band r.points.now r.heights.now s.k r.heights_in_order (omega (arith, c.loop-k-test.true)) in
    let pair = c.in-Some.ensures hi band in
    omega (arith, pair.within)

pub overflow_add-j : goal.overflow_add-j
overflow_add-j c =
    let r = c.args.self.now in
    let s = c.loop-k in
    let hi = get_or r.heights.now (s.k + 1) 0 in
    let band = ready-band r.points.now r.heights.now s.k r.heights_in_order (omega (arith, c.loop-k-test.true)) in
    let pair = c.in-Some.ensures hi band in
    omega (arith, pair.within)

pub returns-then-x0-x1 : goal.returns-then-x0-x1
returns-then-x0-x1 c =
    let r = c.args.self.now in
    let s = c.loop-k in
    let hi = get_or r.heights.now (s.k + 1) 0 in
    let band = ready-band r.points.now r.heights.now s.k r.heights_in_order (omega (arith, c.loop-k-test.true)) in
    let pair = c.in-Some.ensures hi band in
    rw (c.x_of-x0.ensures, c.x_of-x1.ensures)
    (sym
    (left-strip r.points.now r.edges.now r.heights.now s.j s.k c.in-Some.a c.in-Some.b
    (omega (arith, c.loop-k-test.true)) pair (rw (c.x_of-x0.ensures, c.x_of-x1.ensures) at c.if-x0-x1.true))
    ∙ s.invariant)

pub loop-k-smaller-else-x0-x1 : goal.loop-k-smaller-else-x0-x1
loop-k-smaller-else-x0-x1 c =
    let r = c.args.self.now in
    let s = c.loop-k in
    let hi = get_or r.heights.now (s.k + 1) 0 in
    let band = ready-band r.points.now r.heights.now s.k r.heights_in_order (omega (arith, c.loop-k-test.true)) in
    let pair = c.in-Some.ensures hi band in
    omega (arith, pair.later, pair.rising, pair.within)

pub loop-k-preserved-else-x0-x1 : goal.loop-k-preserved-else-x0-x1
loop-k-preserved-else-x0-x1 c =
    let r = c.args.self.now in
    let s = c.loop-k in
    let hi = get_or r.heights.now (s.k + 1) 0 in
    let band = ready-band r.points.now r.heights.now s.k r.heights_in_order (omega (arith, c.loop-k-test.true)) in
    let pair = c.in-Some.ensures hi band in
    sym
    (left-thin r.points.now r.edges.now r.heights.now s.j s.k c.in-Some.a c.in-Some.b
    (omega (arith, c.loop-k-test.true)) pair (rw (c.x_of-x0.ensures, c.x_of-x1.ensures) at c.if-x0-x1.false))
    ∙ s.invariant

pub loop-k-preserved : goal.loop-k-preserved
loop-k-preserved c =
    let r = c.args.self.now in
    let s = c.loop-k in
    let hi = get_or r.heights.now (s.k + 1) 0 in
    let band = ready-band r.points.now r.heights.now s.k r.heights_in_order (omega (arith, c.loop-k-test.true)) in
    sym
    (left-on r.points.now r.edges.now r.heights.now s.j s.k (omega (arith, c.loop-k-test.true)) (c.in_default.ensures hi band))
    ∙ s.invariant

pub returns : goal.returns
returns c =
    let r = c.args.self.now in
    sym (left_end r.points.now r.edges.now r.heights.now c.loop-k.j c.loop-k.k (omega arith)) ∙ c.loop-k.invariant
