-- How many leaves there are in the polygons up to k, in a list that goes polygon by polygon. Assumes nothing.
use Rattle.std.proofs.lemmas.Bool.Decides.{nat_tests}
use Rattle.std.proofs.Common.{◌≡◌, refl, sym, ap, ◌∙◌, subst, cond, ◌&&◌, List, [], ◌∷◌, ◌++◌, map, append_assoc, ℕ, zero, suc, ◌+◌, ◌*◌, ◌/◌, ◌≤◌, ◌<◌, arith, ltb, leb, length, length-append, le-leb}
use lib.ListN.{length-map}
use borrow.Author.Tests.{lt-leb}
use Rattle.cell.specs.Boxes.{Box}
use Rattle.net.specs.Net.{Poly, Piece}
use Rattle.net.specs.Flat.{Leaf, leaf, leaf_at, leaves_from}
use Rattle.net.proofs.All.{All, all_append, all-by}
use Rattle.net.proofs.Flat.{Upto}

-- the leaves of the polygons up to k
unfoldable pub count_up : List Leaf → ℕ → ℕ
count_up [] k = 0
count_up (x ∷ xs) k = cond (leb x.piece k) 1 0 + count_up xs k

count-append : (a b : List Leaf) (k : ℕ) → count_up (a ++ b) k ≡ count_up a k + count_up b k
unfolding count_up
count-append [] b k = omega arith
count-append (x ∷ a) b k = omega (arith, count-append a b k)

count-all : (a : List Leaf) (k : ℕ) → All (λ (x : Leaf). x.piece ≤ k) a → count_up a k ≡ length a
unfolding count_up All
count-all [] k h = refl
count-all (x ∷ a) k h = omega (arith, ap {B = ℕ} (λ b. cond b 1 0) (le-leb x.piece k h.0), count-all a k h.1)

count_none : (a : List Leaf) (k : ℕ) → All (λ (x : Leaf). k < x.piece) a → count_up a k ≡ 0
unfolding count_up All
count_none [] k h = refl
count_none (x ∷ a) k h = omega (arith, ap {B = ℕ} (λ b. cond b 1 0) (lt-leb x.piece k h.0), count_none a k h.1)

of-piece : (k : ℕ) (p : Poly) (rs : List Box) (Q : ℕ → Type 0) → Q k → All (λ (x : Leaf). Q x.piece) (map (leaf k p) rs)
unfolding All
of-piece k p [] Q q = tt
of-piece k p (r ∷ rs) Q q = (q, of-piece k p rs Q q)

from-piece : (qs : List Piece) (k : ℕ) (m : ℕ) → m ≤ k → All (λ (x : Leaf). m ≤ x.piece) (leaves_from qs k)
unfolding leaves_from All
from-piece [] k m h = tt
from-piece (q ∷ qs) k m h = all_append (λ (x : Leaf). m ≤ x.piece) _ _ (of-piece k q.poly q.leaves (λ z. m ≤ z) h) (from-piece qs (suc k) m (omega arith))

-- the polygons from k on, behind leaves of those before
upto_from : (done : List Leaf) (qs : List Piece) (k : ℕ) → All (λ (x : Leaf). x.piece < k) done → (full : List Leaf) → full ≡ done ++ leaves_from qs k → Upto (count_up full) (length done) qs k
unfolding Upto leaves_from
upto_from done [] k h full e = tt
upto_from done (q ∷ qs) k h full e =
    let here = map (leaf k q.poly) q.leaves in
    let rest = leaves_from qs (suc k) in
    let n = length-map q.leaves (leaf k q.poly) in
    let u : length (done ++ here) ≡ length done + length q.leaves = omega (arith, length-append done here) in
    let a = count-all done k (all-by (λ (x : Leaf). x.piece < k) (λ (x : Leaf). x.piece ≤ k) done (λ x p. omega arith) h) in
    let b = count-all here k (of-piece k q.poly q.leaves (λ z. z ≤ k) (omega arith)) in
    let c = count_none rest k (from-piece qs (suc k) (suc k) (omega arith)) in
    let d = all-by (λ (x : Leaf). x.piece < k) (λ (x : Leaf). x.piece < suc k) done (λ x p. omega arith) h in (
      grind (arith, count-append done (here ++ rest) k, count-append here rest k),
      subst (λ (z : ℕ). Upto (count_up full) z qs (suc k)) u
          (upto_from (done ++ here) qs (suc k) (all_append (λ (x : Leaf). x.piece < suc k) done here d (of-piece k q.poly q.leaves (λ z. z < suc k) (omega arith))) full (e ∙ sym (append_assoc done here rest))),
    )

pub upto_all : (qs : List Piece) → Upto (count_up (leaves_from qs 0)) 0 qs 0
upto_all qs = upto_from [] qs 0 (unfold All in tt) (leaves_from qs 0) refl

-- a list that rises from m on
unfoldable pub Rising : ℕ → List Leaf → Type 0
Rising m [] = Unit {0}
Rising m (x ∷ xs) = (m ≤ x.piece) × Rising x.piece xs

rising-piece : (k m : ℕ) (p : Poly) (rs : List Box) (rest : List Leaf) → m ≤ k → Rising k rest → Rising m (map (leaf k p) rs ++ rest)
unfolding Rising
rising-piece k m p [] [] h r = tt
rising-piece k m p [] (x ∷ xs) h r = let a = r.0 in (omega arith, r.1)
rising-piece k m p (b ∷ rs) rest h r = (h, rising-piece k k p rs rest (omega arith) r)

pub rising-from : (qs : List Piece) (k m : ℕ) → m ≤ k → Rising m (leaves_from qs k)
unfolding Rising leaves_from
rising-from [] k m h = tt
rising-from (q ∷ qs) k m h = rising-piece k m q.poly q.leaves (leaves_from qs (suc k)) h (rising-from qs (suc k) k (omega arith))

rising-at : (m : ℕ) (xs : List Leaf) (u : ℕ) → Rising m xs → u < length xs → m ≤ (leaf_at xs u).piece
unfolding Rising
rising-at m [] u r h = absurd (omega arith)
rising-at m (x ∷ xs) zero r h = r.0
rising-at m (x ∷ xs) (suc u) r h = grind (arith, r.0, rising-at x.piece xs u r.1)

over : (k : ℕ) (ys : List Leaf) (m : ℕ) → Rising m ys → k < m → All (λ (y : Leaf). k < y.piece) ys
unfolding Rising All
over k [] m r h = tt
over k (y ∷ ys) m r h = let a = r.0 in (omega arith, over k ys y.piece r.1 (omega arith))

-- the leaf u is of a polygon up to k if it is one of so many
pub so-many : (xs : List Leaf) (m k u : ℕ) → Rising m xs → ltb u (count_up xs k) ≡ (ltb u (length xs) && leb (leaf_at xs u).piece k)
unfolding count_up Rising
so-many [] m k u r = grind (arith, nat_tests)
so-many (x ∷ xs) m k zero r = grind (arith, nat_tests, count_none xs k, over k xs x.piece r.1)
so-many (x ∷ xs) m k (suc u) r = grind (arith, nat_tests, count_none xs k, over k xs x.piece r.1, rising-at x.piece xs u r.1, so-many xs x.piece k u r.1)

-- four places to a leaf
pub so-far-four : (xs : List Leaf) (m k f : ℕ) → Rising m xs → ltb f (4 * count_up xs k) ≡ (ltb f (4 * length xs) && leb (leaf_at xs (f / 4)).piece k)
so-far-four xs m k f r = grind (arith, nat_tests, so-many xs m k (f / 4) r)
