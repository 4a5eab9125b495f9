-- A balanced table's leaf order, where it is accepted. Assumes nothing.
use Rattle.std.proofs.Common.{ℕ, ◌+◌, ◌*◌, ◌≤◌, ◌≡◌, sym, ap, subst, ◌∙◌, cond, List, [], ◌∷◌, ◌++◌, leb, arith, ℤ, length, take, drop, replicate, All}
use Rattle.std.specs.Prelude.{◌==◌}
use Rattle.std.proofs.Math.Seq.{take-append_seam}
use Rattle.std.proofs.lemmas.List.Elements.{All-nil, All-append, All-filter, All-from_get_or}
use Rattle.std.proofs.lemmas.List.FromFn.{length-range_with_len, get_or-range_with_len}
use Rattle.std.specs.List.{flat_map, range_with_len}
use Rattle.refusals.specs.Limits.{max_polygons}
use Rattle.refusals.specs.Said.{accepted, refusal, is_accepted}
use Rattle.refusals.specs.declared.Refusal.{Refusal}
use Rattle.refusals.specs.declared.Refusal.TheVariants.{BadTable, NoRoom}
use Rattle.table.specs.declared.Head.{Head}
use Rattle.table.specs.Rows.{IsTable, cells_in, leaves_in, order_in}
use Rattle.table.specs.Mesh.{at, is_leaf}
use Rattle.table.specs.Formed.{well_formed}
use Rattle.table.specs.Leaves.{list_says, listed_row}
use Rattle.table.proofs.Shape.{formed-within}
use Rattle.leafnet_text.specs.Rooms.{leaf_room}
use Rattle.leafnet_text.specs.Boards.{Given}
use Rattle.leafnet_text.specs.Output.{unless_refused, net_says, table_says}
use Rattle.leafnet_text.proofs.Refusing.{accepted-if, refused-first}

All-flat_map : {A B : Type 0} (P : B → Type 0) (f : A → List B) → ((a : A) → All P (f a)) → (l : List A) → All P (flat_map f l)
All-flat_map P f h [] = All-nil P
All-flat_map P f h (a ∷ l) = All-append P (f a) (flat_map f l) (h a) (All-flat_map P f h l)

-- each leaf is a slot of the table
order-slots : (row : List ℤ) (head : Head) → IsTable row head → All (λ id. id * 8 + 8 ≤ length row) (order_in row head)
unfolding order_in
order-slots row head formed =
    let P = λ (id : ℕ). id * 8 + 8 ≤ length row in
    let ids = range_with_len 0 head.count in
    let slots = All-from_get_or P ids 0
    (λ i h. omega (arith, h, length-range_with_len 0 head.count, get_or-range_with_len 0 head.count i 0, formed-within row head formed)) in
    let leaves = All-filter (λ i. is_leaf (cells_in row head) i) P ids slots in
    All-flat_map P _ (λ p. All-filter (λ i. (at (cells_in row head) i).polygon == p) P (leaves_in row head) leaves) (range_with_len 0 max_polygons)

-- what an accepted list of leaves leaves at the front of its row
pub record Ordered (row : List ℤ) (head : Head) (leaves : ℕ) (order : List ℕ) : Type 0 where
  pub front : take leaves order ≡ order_in row head
  pub slots : All (λ id. id * 8 + 8 ≤ length row) (take leaves order)

pub ordered : (row : List ℤ) (head : Head) (leaves : ℕ) (order : List ℕ) → accepted (leaves ∷ []) ≡ list_says row head (order_in row head) (replicate leaf_room 0)
    → order ≡ listed_row row head (order_in row head) (replicate leaf_room 0) → Ordered row head leaves order
ordered row head leaves order e left =
    let ids = order_in row head in
    let out : List ℕ = replicate leaf_room 0 in
    let formed = accepted-if (well_formed row head) _ BadTable (leaves ∷ []) e in
    let values : accepted (leaves ∷ []) ≡ accepted (length ids ∷ []) = (accepted-if (leb (length ids) (length out)) _ NoRoom (leaves ∷ []) formed.1).1 in
    let count : leaves ≡ length ids = cc values in
    let front : take leaves order ≡ ids =
    ap (take leaves) (left ∙ ap (λ s. cond (is_accepted s) (ids ++ drop (length ids) out) out) (sym e))
    ∙ ap (λ k. take k (ids ++ drop (length ids) out)) count ∙ take-append_seam ids (drop (length ids) out) in
    record { front = front; slots = subst (All (λ id. id * 8 + 8 ≤ length row)) (sym front) (order-slots row head formed.0) }

-- what is said of it, or where it is refused
module _ (g : Given) (row : List ℤ) (head : Head) (splits : ℕ) where
  pub order-accepted : (vs : List ℕ) → accepted vs ≡ list_says row head (order_in row head) (replicate leaf_room 0) → table_says g row head splits ≡ net_says g row head splits
  unfolding table_says
  order-accepted vs e = ap (λ s. unless_refused s (net_says g row head splits)) (sym e)

  pub order-refused : (why : Refusal) → refusal why ≡ list_says row head (order_in row head) (replicate leaf_room 0)
      → table_says g row head splits ≡ refusal why
  unfolding table_says
  order-refused why e = refused-first why _ (net_says g row head splits) e
