-- Leaf after leaf: one id more, the first refusal, and the values of the end. Assumes nothing.
use Rattle.std.proofs.Common.{ℕ, ◌+◌, ◌*◌, ◌≡◌, refl, sym, ap, ◌∙◌, true, false, List, [], ◌∷◌, ℤ, length, arith}
use mathlib.Core.Bool.{false≢true}
use Rattle.refusals.specs.Said.{accepted, is_accepted}
use Rattle.table.specs.declared.Head.{Head}
use Rattle.table.specs.Rows.{head_of, head_values, after_split}
use Rattle.table.specs.Refine.{refine_says, refined_row}
use Rattle.table.proofs.Refining.{refine-values}
use Rattle.strips.proofs.Picking.{split}
use Rattle.leafnet_text.specs.Refining.{after_splits, refine_all_says, refine_all_row}

-- an answer's values are those of one head
pub same_head : (h k : Head) → accepted (head_values h) ≡ accepted (head_values k) → h ≡ k
same_head h k e =
    let c : h.count ≡ k.count = cc in
    let l : h.leaves ≡ k.leaves = cc in
    let m : h.max_level ≡ k.max_level = cc in
    λ i. head_of (c i) (l i) (m i)

module _ (row : List ℤ) (head : Head) (id : ℕ) (ids : List ℕ) where
  pub all-go : is_accepted (refine_says row head id) ≡ true
      → (refine_all_says row head (id ∷ ids) ≡ refine_all_says (refined_row row head id) (after_split head) ids)
      × (refine_all_row row head (id ∷ ids) ≡ refine_all_row (refined_row row head id) (after_split head) ids)
  unfolding refine_all_says refine_all_row
  all-go e = (rw e refl, rw e refl)

  pub all-stop : is_accepted (refine_says row head id) ≡ false
      → (refine_all_says row head (id ∷ ids) ≡ refine_says row head id) × (refine_all_row row head (id ∷ ids) ≡ refined_row row head id)
  unfolding refine_all_says refine_all_row
  all-stop e = (rw e refl, rw e refl)

-- the code's step: its answer is the head that the other ids go on with
pub stepped : (row : List ℤ) (head : Head) (id : ℕ) (ids : List ℕ) (u : List ℤ) (next : Head)
    → accepted (head_values next) ≡ refine_says row head id → u ≡ refined_row row head id
    → (refine_all_says u next ids ≡ refine_all_says row head (id ∷ ids)) × (refine_all_row u next ids ≡ refine_all_row row head (id ∷ ids))
stepped row head id ids u next e r =
    let ok : is_accepted (refine_says row head id) ≡ true = ap is_accepted (sym e) in
    let same : next ≡ after_split head = same_head next (after_split head) (e ∙ refine-values row head id ok) in
    let go = all-go row head id ids ok in
    (rw (r, same) (sym go.0), rw (r, same) (sym go.1))

-- no ids left
pub all-done : (row : List ℤ) (head : Head)
    → (refine_all_says row head [] ≡ accepted (head_values head)) × (refine_all_row row head [] ≡ row)
unfolding refine_all_says refine_all_row
all-done row head = (refl, refl)

-- every id that is split makes four cells more, and three leaves
pub all-head : (ids : List ℕ) (row : List ℤ) (head h : Head) → accepted (head_values h) ≡ refine_all_says row head ids → h ≡ after_splits head (length ids)
unfolding refine_all_says
all-head [] row head h e =
    let cells : head.count ≡ head.count + 4 * 0 = omega arith in
    let leaves : head.leaves ≡ head.leaves + 3 * 0 = omega arith in
    same_head h head e ∙ (λ i. head_of (cells i) (leaves i) head.max_level)
all-head (id ∷ ids) row head h e =
    let more = all-head ids (refined_row row head id) (after_split head) h in
    split (is_accepted (refine_says row head id))
    (λ a.
    let cells : head.count + 4 + 4 * length ids ≡ head.count + 4 * length (id ∷ ids) = omega arith in
    let leaves : head.leaves + 3 + 3 * length ids ≡ head.leaves + 3 * length (id ∷ ids) = omega arith in
    more (e ∙ (all-go row head id ids a).0) ∙ (λ i. head_of (cells i) (leaves i) head.max_level))
    (λ a. absurd (false≢true (sym a ∙ ap is_accepted (sym (e ∙ (all-stop row head id ids a).0)))))
