use Rattle.std.proofs.Common.{ℕ, ap, ◌∙◌, ◌+◌, ◌-◌, length, get_or, drop, take, ◌≡◌, refl, arith, length-drop, length-take-le}
use Rattle.build.proofs.Judging.{sum_more, ring_ends, ring-part}
use Rattle.build.proofs.outlines.Outlines.ring.Goals as goal

pub returns : goal.returns
returns c =
    let o = c.args.self.now in
    let count = get_or o.counts.now c.args.polygon 0 in
    let ends = ring_ends o.counts.now o.points.now c.args.polygon c.requires.inside c.requires.points_fit in
    let left = length-drop c.args.first o.points.now in
    let n : length (take (c.args.first + count - c.args.first) (drop c.args.first o.points.now)) ≡ count =
    ap (λ (m : ℕ). length (take m (drop c.args.first o.points.now))) (omega arith)
    ∙ length-take-le count (drop c.args.first o.points.now) (omega (arith, c.requires.starts_here, ends, left)) in
    record {
      points = ring-part o.counts.now o.points.now c.args.polygon _ _ c.requires.starts_here refl;
      next = omega (arith, n, sum_more o.counts.now c.args.polygon c.requires.inside, c.requires.starts_here);
      next_fits = omega (arith, n, ends, c.requires.starts_here);
    }
