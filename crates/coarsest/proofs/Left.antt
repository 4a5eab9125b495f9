-- The splits that a table can still see: each split takes one of them. Assumes nothing.
use Rattle.std.proofs.Common.{◌≡◌, ap, Option, None, List, ℕ, suc, ◌+◌, ◌*◌, ◌-◌, ◌<◌, arith, length, set, is_none}
use Rattle.std.proofs.lemmas.List.Sums.{sum_by-append, sum_by-set}
use Rattle.table.specs.Mesh.{Cell, past, at, with_kids, brood, split}
use Rattle.coarsest.specs.Passes.{splits_below, left_if, left_of, splits_left}

below_step : (M l : ℕ) → l < M → splits_below (M - l) ≡ suc (4 * splits_below (M - suc l))
below_step M l h = ap splits_below (let e : M - l ≡ suc (M - suc l) = omega arith in e)

pub left_split : (M : ℕ) (t : List Cell) (c : ℕ) → c < length t → (at t c).kids ≡ None → (at t c).level < M → splits_left M (split t c) + 1 ≡ splits_left M t
unfolding split
left_split M t c h leaf finer =
    let a = sum_by-append (left_of M) (set t c (with_kids (at t c) (length t))) (brood c (at t c)) in
    let b = sum_by-set (left_of M) t c (with_kids (at t c) (length t)) past h in
    let d : left_of M (at t c) ≡ splits_below (M - (at t c).level) = ap (λ (o : Option ℕ). left_if (is_none o) (M - (at t c).level)) leaf in
    let e = below_step M (at t c).level finer in
    omega arith
