-- Strips of one ring don't overlap, and their coordinates are coordinates of the ring's points. Assumes nothing.
use Rattle.std.proofs.Common.{ℕ, zero, suc, ◌<◌, ◌≤◌, sym, ap, ◌∙◌, Bool, List, [], ◌∷◌, ◌++◌, map, ◌⊎◌, inl, inr, arith, subst, ℤ, ltb, leb, eqb, length, get_or, AllPairs}
use Rattle.std.specs.Prelude.{◌&&◌}
use Rattle.std.specs.List.{dedup, range_with_len}
use Rattle.std.proofs.lemmas.List.{map-append}
use Rattle.strips.specs.Sorted.{insert, sorted}
use Rattle.strips.specs.Rings.{x_at, y_at, edge_at, vertical, reaches}
use Rattle.strips.specs.Strips.{levels, crossings, pair_up, banded, strips_of}
use Rattle.strips.specs.declared.walk.Strip.{Strip}
use Rattle.strips.proofs.Picking.{range-suc, picked, picked-append, split}
use Rattle.strips.proofs.Orders.{From, Rising, rising-sorted}
use Rattle.strips.proofs.Distinct.{Above, Strict, strict-levels}
use Rattle.net.proofs.All.{All, all_append, all-at, all-by}

-- ---- each element of a list and each later one

unfoldable pub Pairs : {A : Type 0} → (A → A → Type 0) → List A → Type 0
Pairs R [] = Unit {0}
Pairs R (a ∷ l) = All (R a) l × Pairs R l

module _ {A : Type 0} (P : A → Type 0) where
  pub all-from : (l : List A) → ((i : ℕ) (d : A) → i < length l → P (get_or l i d)) → All P l
  unfolding All
  all-from [] h = tt
  all-from (a ∷ l) h = (h 0 a (omega arith), all-from l (λ i d k. h (suc i) d (omega arith)))

module _ {A : Type 0} (R : A → A → Type 0) where
  pub pairs-from : (l : List A) → AllPairs R l → Pairs R l
  unfolding Pairs
  pairs-from [] h = tt
  pairs-from (a ∷ l) h =
      (all-from (R a) l (λ i d k. h 0 (suc i) d (omega arith) (omega arith)), pairs-from l (λ i j d k m. h (suc i) (suc j) d (omega arith) (omega arith)))

  pub pairs-append : (l m : List A) → Pairs R l → Pairs R m → All (λ (a : A). All (R a) m) l → Pairs R (l ++ m)
  unfolding Pairs All
  pairs-append [] m p q c = q
  pairs-append (a ∷ l) m p q c = (all_append (R a) l m p.0 c.0, pairs-append l m p.1 q c.1)

  pub pairs-at : (d : A) (l : List A) (i j : ℕ) → i < j → j < length l → Pairs R l → R (get_or l i d) (get_or l j d)
  unfolding Pairs
  pairs-at d [] i j h k p = absurd (omega arith)
  pairs-at d (a ∷ l) zero zero h k p = absurd (omega arith)
  pairs-at d (a ∷ l) zero (suc j) h k p = all-at (R a) d l j p.0 (omega arith)
  pairs-at d (a ∷ l) (suc i) zero h k p = absurd (omega arith)
  pairs-at d (a ∷ l) (suc i) (suc j) h k p = pairs-at d l i j (omega arith) (omega arith) p.1

-- ---- what holds of the numbers that are put in order, and kept once

module _ (P : ℕ → Type 0) where
  all-insert : (v : ℕ) (l : List ℕ) → P v → All P l → All P (insert v l)
  unfolding All insert
  all-insert v [] h a = (h, tt)
  all-insert v (w ∷ l) h a =
      let r = all-insert v l h a.1 in
      split (leb v w) (λ e. rw e (h, a)) (λ e. rw e (a.0, r))

  all-sorted : (l : List ℕ) → All P l → All P (sorted l)
  unfolding All sorted
  all-sorted [] a = tt
  all-sorted (v ∷ l) a = all-insert v (sorted l) a.0 (all-sorted l a.1)

  all-kept : (v : ℕ) (l : List ℕ) → All P (v ∷ l) → All P (dedup eqb (v ∷ l))
  unfolding All
  all-kept v [] a = a
  all-kept v (w ∷ l) a =
      let r = all-kept v l (a.0, a.1.1) in
      let i = all-kept w l a.1 in
      split (eqb w v) (λ e. rw e r) (λ e. rw e (a.0, i))

  all-dedup : (l : List ℕ) → All P l → All P (dedup eqb l)
  all-dedup [] a = a
  all-dedup (v ∷ l) a = all-kept v l a

  all-map : (f : ℕ → ℕ) (n : ℕ) → ((i : ℕ) → i < n → P (f i)) → All P (map f (range_with_len 0 n))
  unfolding All
  all-map f zero h = tt
  all-map f (suc n) h =
      let r = all-map f n (λ i k. h i (omega arith)) in
      subst (All P) (sym (ap (map f) (range-suc n) ∙ map-append f (range_with_len 0 n) (n ∷ [])))
      (all_append P (map f (range_with_len 0 n)) (f n ∷ []) r (h n (omega arith), tt))

  all-picked : (p : ℕ → Bool) (f : ℕ → ℕ) (n : ℕ) → ((i : ℕ) → i < n → P (f i)) → All P (picked p f (range_with_len 0 n))
  unfolding All
  all-picked p f zero h = tt
  all-picked p f (suc n) h =
      let r = all-picked p f n (λ i k. h i (omega arith)) in
      let one : All P (picked p f (n ∷ [])) = split (p n) (λ e. rw e (h n (omega arith), tt)) (λ e. rw e tt) in
      subst (All P) (sym (ap (picked p f) (range-suc n) ∙ picked-append p f (range_with_len 0 n) (n ∷ [])))
      (all_append P (picked p f (range_with_len 0 n)) (picked p f (n ∷ [])) r one)

-- ---- the coordinates of strips are those of points

-- its x satisfy P, and its y satisfy Q
pub record Of (P Q : ℕ → Type 0) (s : Strip) : Type 0 where
  pub west : P s.x0
  pub south : Q s.y0
  pub east : P s.x1
  pub north : Q s.y1

module _ (P Q : ℕ → Type 0) where
  paired-of : (lo hi : ℕ) (l : List ℕ) → Q lo → Q hi → All P l → All (Of P Q) (pair_up lo hi l)
  unfolding All pair_up
  paired-of lo hi [] u v a = tt
  paired-of lo hi (x ∷ []) u v a = tt
  paired-of lo hi (x ∷ y ∷ l) u v a =
      let r = paired-of lo hi l u v a.1.1 in
      split (ltb x y) (λ e. rw e (record { west = a.0; south = u; east = a.1.0; north = v }, r)) (λ e. rw e r)

  module _ (ps : List (List ℤ)) (across : (i : ℕ) → i < length ps → P (x_at ps i)) where
    crossed-of : (lo hi : ℕ) → All P (crossings ps lo hi)
    unfolding crossings
    crossed-of lo hi = all-sorted P _ (all-picked P (λ i. vertical (edge_at ps i) && reaches lo hi (edge_at ps i)) (x_at ps) (length ps) across)

    banded-of : (ls : List ℕ) → All Q ls → All (Of P Q) (banded ps ls)
    unfolding All banded
    banded-of [] u = tt
    banded-of (lo ∷ []) u = tt
    banded-of (lo ∷ hi ∷ ls) u =
        all_append (Of P Q) (pair_up lo hi (crossings ps lo hi)) (banded ps (hi ∷ ls))
        (paired-of lo hi (crossings ps lo hi) u.0 u.1.0 (crossed-of lo hi))
        (banded-of (hi ∷ ls) u.1)

    pub strips-of : ((i : ℕ) → i < length ps → Q (y_at ps i)) → All (Of P Q) (strips_of ps)
    unfolding All strips_of levels
    strips-of upright =
        let ys = map (y_at ps) (range_with_len 0 (length ps)) in
        let r = banded-of (levels ps) (all-dedup Q (sorted ys) (all-sorted Q ys (all-map Q (y_at ps) (length ps) upright))) in
        split (ltb (length ps) 3) (λ e. rw e tt) (λ e. rw e r)

-- ---- a later strip is above, or to the right

abbrev pub Past : Strip → Strip → Type 0
Past s t = (s.y1 ≤ t.y0) ⊎ (s.x1 ≤ t.x0)

abbrev Any : ℕ → Type 0
Any v = Unit {0}

all-any : (l : List ℕ) → All Any l
unfolding All
all-any [] = tt
all-any (v ∷ l) = (tt, all-any l)

from-all : (v : ℕ) (l : List ℕ) → From v l → All (λ w. v ≤ w) l
unfolding From All
from-all v [] f = tt
from-all v (w ∷ l) f = (f.0, from-all v l f.1)

above-all : (v : ℕ) (l : List ℕ) → Above v l → All (λ w. v ≤ w) l
unfolding Above All
above-all v [] f = tt
above-all v (w ∷ l) f = (let h = f.0 in omega arith, above-all v l f.1)

above-self : (v : ℕ) (l : List ℕ) → Above v l → All (λ w. v ≤ w) (v ∷ l)
unfolding All
above-self v l a = (omega arith, above-all v l a)

paired-past : (lo hi : ℕ) (l : List ℕ) → Rising l → Pairs Past (pair_up lo hi l)
unfolding Pairs pair_up Rising From
paired-past lo hi [] r = tt
paired-past lo hi (x ∷ []) r = tt
paired-past lo hi (x ∷ y ∷ l) r =
    let q = paired-past lo hi l r.1.1 in
    let s : Strip = record { x0 = x; y0 = lo; x1 = y; y1 = hi } in
    let right = all-by (Of (λ w. y ≤ w) Any) (Past s) (pair_up lo hi l) (λ t o. inr o.west) (paired-of (λ w. y ≤ w) Any lo hi l tt tt (from-all y l r.1.0)) in
    split (ltb x y) (λ e. rw e (right, q)) (λ e. rw e q)

module _ (ps : List (List ℤ)) where
  crossed-rise : (lo hi : ℕ) → Rising (crossings ps lo hi)
  unfolding crossings
  crossed-rise lo hi = rising-sorted _

  banded-past : (ls : List ℕ) → Strict ls → Pairs Past (banded ps ls)
  unfolding Pairs banded Strict Above
  banded-past [] s = tt
  banded-past (lo ∷ []) s = tt
  banded-past (lo ∷ hi ∷ ls) s =
      let below = paired-of Any (λ w. w ≤ hi) lo hi (crossings ps lo hi) (let h = s.0.0 in omega arith) (omega arith) (all-any (crossings ps lo hi)) in
      let over = banded-of Any (λ w. hi ≤ w) ps (λ i h. tt) (hi ∷ ls) (above-self hi ls s.1.0) in
      pairs-append Past (pair_up lo hi (crossings ps lo hi)) (banded ps (hi ∷ ls))
      (paired-past lo hi (crossings ps lo hi) (crossed-rise lo hi))
      (banded-past (hi ∷ ls) s.1)
      (all-by (Of Any (λ w. w ≤ hi)) (λ (a : Strip). All (Past a) (banded ps (hi ∷ ls))) (pair_up lo hi (crossings ps lo hi))
      (λ a o. all-by (Of Any (λ w. hi ≤ w)) (Past a) (banded ps (hi ∷ ls)) (λ t q. (let h = o.north in let k = q.south in inl (omega arith))) over) below)

  pub strips-past : Pairs Past (strips_of ps)
  unfolding Pairs strips_of
  strips-past =
      let r = banded-past (levels ps) (strict-levels ps) in
      split (ltb (length ps) 3) (λ e. rw e tt) (λ e. rw e r)
