-- The rows of a board: point counts that add up, the layer list, and the polygons judged one after another. Assumes nothing.
use lib.Ieee.{Float}
use Rattle.std.proofs.Common.{ℕ, suc, ◌+◌, ◌-◌, ◌<◌, ◌≤◌, ◌≡◌, refl, List, arith, add-one, ℤ, length, get_or, sum, take, drop}
use lib.Ieee.{nan}
use Rattle.std.proofs.lemmas.List.Sums.{sum_by_more, sum_by_more_le}
use Rattle.refusals.specs.Said.{Said}
use Rattle.build.specs.Board.{ring_at}
use Rattle.build.specs.Says.{judge_from, judge_one}

-- the counts taken, one more
pub sum_more : (cs : List ℕ) (p : ℕ) → p < length cs → sum (take (p + 1) cs) ≡ sum (take p cs) + get_or cs p 0
sum_more cs p h = sum_by_more (λ (x : ℕ). x) cs p 0 h

-- polygon p's points end within the row
pub ring_ends : (cs : List ℕ) (ps : List (List ℤ)) (p : ℕ) → p < length cs → sum cs ≡ length ps → sum (take p cs) + get_or cs p 0 ≤ length ps
ring_ends cs ps p h e = rw (← e) (sum_by_more_le (λ (x : ℕ). x) cs p 0 h)

-- one polygon of the judging
pub judge-on : (rs : List Float) (cs : List ℕ) (ps ring : List (List ℤ)) (p n : ℕ) (o : Said) → p < n → ring ≡ ring_at cs ps p
    → judge_one p (get_or rs p nan) ring (judge_from rs cs ps (p + 1) (n - (p + 1)) o) ≡ judge_from rs cs ps p (n - p) o
unfolding judge_from
judge-on rs cs ps ring p n o h e = let rest : n - p ≡ suc (n - (p + 1)) = omega arith in rw (rest, add-one p, e) refl

pub judge-end : (rs : List Float) (cs : List ℕ) (ps : List (List ℤ)) (p n : ℕ) (o : Said) → n ≤ p → judge_from rs cs ps p (n - p) o ≡ o
unfolding judge_from
judge-end rs cs ps p n o h = let e : n - p ≡ 0 = omega arith in rw e refl

-- a part of the points from a start to an end
pub ring-part : (cs : List ℕ) (ps : List (List ℤ)) (p at end : ℕ) → at ≡ sum (take p cs) → end ≡ at + get_or cs p 0 → take (end - at) (drop at ps) ≡ ring_at cs ps p
unfolding ring_at
ring-part cs ps p at end e f = let n : end - at ≡ get_or cs p 0 = omega arith in rw (n, e) refl
