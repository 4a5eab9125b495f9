-- Strips written one after another from the front of a row. Assumes nothing.
use Rattle.std.proofs.Common.{ℕ, suc, ◌+◌, ◌<◌, ◌≤◌, ◌≡◌, refl, sym, ap, ◌∙◌, List, [], ◌∷◌, map, append_assoc, arith, add-one, ℤ, length, drop, set, take-append-drop, take-suc-set, drop-set-lt, drop-drop, true, leb-true}
use Rattle.strips.proofs.Picking.{all_below}
use Rattle.cell.proofs.Contact.{and_left}
use Rattle.refusals.specs.Limits.{max_points}
use Rattle.strips.specs.Rings.{ring_in_range, point_in_range}
use Rattle.strips.specs.Said.{laid, strip_row, laying}
use Rattle.strips.specs.declared.walk.Strip.{Strip}

pub laid_one : (out : List (List ℤ)) (k : ℕ) (s : Strip) (ss : List Strip) → k < length out → laying (set out k (strip_row s)) (k + 1) ss ≡ laying out k (s ∷ ss)
unfolding laid
laid_one out k s ss h =
    let n = length (map strip_row ss) in
    let q : suc k + n ≡ k + suc n = omega arith in
    let e : drop n (drop (suc k) out) ≡ drop (suc n) (drop k out) = drop-drop n (suc k) out ∙ ap (λ (i : ℕ). drop i out) q ∙ sym (drop-drop (suc n) k out) in
    rw (add-one k, take-suc-set out k (strip_row s) h, drop-set-lt (suc k) out k (strip_row s) (omega arith), append_assoc, e) refl

pub laid_none : (out : List (List ℤ)) (k : ℕ) → laying out k [] ≡ out
unfolding laid
laid_none out k = take-append-drop k out

-- a ring that was judged has no more points than the limit
pub few-points : (ps : List (List ℤ)) → ring_in_range ps ≡ true → length ps ≤ max_points
unfolding ring_in_range
few-points ps e = leb-true _ _ (and_left _ (all_below (point_in_range ps) (length ps)) e)
