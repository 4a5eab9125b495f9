use Rattle.std.proofs.Common.{rules, ℕ, List, [], ℤ, ◌≡◌, refl, ap, ◌∙◌, length, get_or}
use Rattle.std.specs.List.{list_all, range_with_len}
use Rattle.std.proofs.lemmas.List.Folds.{list_all-map}
use Rattle.std.proofs.lemmas.List.FromFn.{fill_by_all}
use Rattle.strips.specs.Rings.{ring_in_range, both_in_range, point_in_range}
use Rattle.strips.proofs.ring.in_range.Goals as goal

-- a test of each point is one of each number of a point
by-number : (ps : List (List ℤ)) → list_all both_in_range ps ≡ list_all (point_in_range ps) (range_with_len 0 (length ps))
by-number ps =
    let at : ℕ → List ℤ = λ i. get_or ps i [] in
    ap (list_all both_in_range) (fill_by_all at ps (length ps) [] refl (λ k h. refl)) ∙ list_all-map both_in_range at (range_with_len 0 (length ps))

pub returns-then-points-le-RING_POINTS : goal.returns-then-points-le-RING_POINTS
unfolding ring_in_range
returns-then-points-le-RING_POINTS c = rw (c.each_in_range.ensures, by-number c.args.points.now) (search rules)

pub returns-else-points-le-RING_POINTS : goal.returns-else-points-le-RING_POINTS
unfolding ring_in_range
returns-else-points-le-RING_POINTS c = search rules
