-- How many cells have no child: of tables one after the other, after one split, and as a list of ids has them. Assumes nothing.
use Rattle.std.proofs.Common.{ℕ, ◌+◌, ◌<◌, ◌≤◌, ◌≡◌, sym, ap, cond, Option, None, List, ◌∷◌, ◌++◌, filter, length, set, arith, is_none}
use Rattle.std.specs.List.{range_with_len}
use Rattle.std.proofs.lemmas.List.Sums.{sum_by-append, sum_by-cons, sum_by-set, count_by-le-length}
use Rattle.table.specs.Mesh.{Cell, past, at, with_kids, brood, split, is_leaf, leaf_count}
use Rattle.table.proofs.Ids.{ids_to, count-ids}

-- one for a cell that has no child
abbrev pub one_leaf : Cell → ℕ
one_leaf c = cond (is_none c.kids) 1 0

pub leaf_count-cons : (c : Cell) (t : List Cell) → leaf_count (c ∷ t) ≡ one_leaf c + leaf_count t
unfolding leaf_count
leaf_count-cons c t = sum_by-cons one_leaf c t

pub leaf_count-append : (t u : List Cell) → leaf_count (t ++ u) ≡ leaf_count t + leaf_count u
unfolding leaf_count
leaf_count-append t u = sum_by-append one_leaf t u

-- no more than there are cells
pub leaf_count-few : (t : List Cell) → leaf_count t ≤ length t
unfolding leaf_count
leaf_count-few t = count_by-le-length (λ c. is_none c.kids) t

-- a leaf that is split is none any more, and its four children are leaves
pub leaf_count-split : (t : List Cell) (i : ℕ) → i < length t → (at t i).kids ≡ None → leaf_count (split t i) ≡ leaf_count t + 3
unfolding split leaf_count
leaf_count-split t i h leaf =
    let a = sum_by-append one_leaf (set t i (with_kids (at t i) (length t))) (brood i (at t i)) in
    let b = sum_by-set one_leaf t i (with_kids (at t i) (length t)) past h in
    let d : one_leaf (at t i) ≡ 1 = ap (λ (o : Option ℕ). cond (is_none o) 1 0) leaf in
    omega arith

-- as many as the ids of leaves
pub leaf_count-listed : (t : List Cell) → length (filter (is_leaf t) (range_with_len 0 (length t))) ≡ leaf_count t
unfolding leaf_count ids_to
leaf_count-listed t = sym (count-ids (λ (c : Cell). is_none c.kids) past t)
