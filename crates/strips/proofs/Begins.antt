-- Each vertical edge of a ring begins at a point of the ring.
use Rattle.std.proofs.Common.{subst, sym, ap, ◌∙◌, ℕ, zero, suc, ◌%◌, ◌<◌, ◌≤◌, List, [], ◌∷◌, ◌++◌, ℤ, leb, length, arith}
use Rattle.std.specs.List.{range_with_len}
use Rattle.refusals.specs.Limits.{max_points}
use Rattle.strips.specs.Sorted.{insert, sorted}
use Rattle.strips.specs.Walk.{key_of, vertical_at, unsorted_edges, edges_of, BeginAtPoints}
use Rattle.strips.proofs.Picking.{range-suc, picked, split, picked-append}

-- the same, down the list
Begin : ℕ → List ℕ → Type 0
Begin n [] = Unit
Begin n (e ∷ l) = (e % max_points < n) × Begin n l

begin-append : (n : ℕ) (a b : List ℕ) → Begin n a → Begin n b → Begin n (a ++ b)
unfolding Begin
begin-append n [] b p q = q
begin-append n (e ∷ a) b p q = (p.0, begin-append n a b p.1 q)

begin-insert : (n e : ℕ) (l : List ℕ) → e % max_points < n → Begin n l → Begin n (insert e l)
unfolding Begin insert
begin-insert n e [] h b = (h, tt)
begin-insert n e (d ∷ l) h b =
    let r = begin-insert n e l h b.1 in
    split (leb e d) (λ q. rw q (h, b)) (λ q. rw q (b.0, r))

begin-sorted : (n : ℕ) (l : List ℕ) → Begin n l → Begin n (sorted l)
unfolding Begin sorted
begin-sorted n [] b = tt
begin-sorted n (e ∷ l) b = begin-insert n e (sorted l) b.0 (begin-sorted n l b.1)

begin-one : (ps : List (List ℤ)) (n i : ℕ) → i < n → n ≤ max_points
    → Begin n (picked (vertical_at ps) (key_of ps) (i ∷ []))
unfolding Begin
begin-one ps n i h few =
    let e : key_of ps i % max_points < n = omega arith in
    split (vertical_at ps i) (λ q. rw q (e, tt)) (λ q. rw q tt)

begin-unsorted : (ps : List (List ℤ)) (n m : ℕ) → m ≤ n → n ≤ max_points → Begin n (unsorted_edges ps m)
unfolding Begin unsorted_edges
begin-unsorted ps n zero h few = tt
begin-unsorted ps n (suc m) h few =
    let r = begin-unsorted ps n m (omega arith) few in
    subst (Begin n) (sym (ap (picked (vertical_at ps) (key_of ps)) (range-suc m) ∙ picked-append (vertical_at ps) (key_of ps) (range_with_len 0 m) (m ∷ [])))
    (begin-append n (picked (vertical_at ps) (key_of ps) (range_with_len 0 m)) _ r (begin-one ps n m (omega arith) few))

begin-at : (n : ℕ) (l : List ℕ) → Begin n l → BeginAtPoints n l
unfolding Begin
begin-at n [] b k h = absurd (omega arith)
begin-at n (e ∷ l) b zero h = b.0
begin-at n (e ∷ l) b (suc k) h = begin-at n l b.1 k (omega arith)

pub edges-begin : (ps : List (List ℤ)) → length ps ≤ max_points → BeginAtPoints (length ps) (edges_of ps)
unfolding edges_of
edges-begin ps few =
    let n = length ps in
    begin-at n (edges_of ps) (begin-sorted n (unsorted_edges ps n) (begin-unsorted ps n n (omega arith) few))
