-- The strips of the rules are those that the code's walk meets: edges that are in order by x, passed by a band's test, give the band's
-- crossings in order. Assumes nothing.
use Rattle.std.proofs.Common.{ap₂, ◌++◌, ℕ, zero, suc, ◌/◌, ◌%◌, ◌<◌, ◌≤◌, ◌≡◌, refl, sym, ap, ◌∙◌, Bool, cond, ◌&&◌, List, [], ◌∷◌, ⊎_elim, arith, ℤ, length, lt-ltb}
use Rattle.std.specs.List.{range_with_len}
use Rattle.cell.proofs.Offsets.{below?}
use Rattle.refusals.specs.Limits.{max_points}
use Rattle.strips.specs.Sorted.{insert, sorted}
use Rattle.strips.specs.Strips.{levels, crossings, banded, strips_of}
use Rattle.strips.specs.Walk.{vertical_at, key_of, unsorted_edges, edges_of, spans, crossed, walked, all_of, Ready}
use Rattle.strips.proofs.Picking.{range-suc, picked, split, picked-yes, picked-no, picked-append}
use Rattle.strips.proofs.Orders.{insert-stop, insert-go, insert-none, insert-low, From, Rising, from_less, rising-sorted}
use Rattle.strips.proofs.Distinct.{Above, Strict, strict-levels}

-- a test and a map that keeps the order, over a list that rises
module _ (p : ℕ → Bool) (f : ℕ → ℕ) (mono : (a b : ℕ) → a ≤ b → f a ≤ f b) where
  from-picked : (v : ℕ) (l : List ℕ) → From v l → From (f v) (picked p f l)
  unfolding From
  from-picked v [] h = tt
  from-picked v (w ∷ l) h =
      let r = from-picked v l h.1 in
      split (p w) (λ e. rw (picked-yes p f w l e) (mono v w h.0, r)) (λ e. rw (picked-no p f w l e) r)

  swapped : (v w : ℕ) (l : List ℕ) → f w ≤ f v → From (f w) l → f w ∷ insert (f v) l ≡ insert (f v) (f w ∷ l)
  swapped v w l h g =
      ⊎_elim
      (λ (k : f w < f v). sym (insert-go (f v) (f w) l k))
      (λ (k : f v ≤ f w).
      let e : f v ≡ f w = omega arith in
      rw (insert-stop (f v) (f w) l k, e, insert-low (f w) l g) refl)
      (below? (f w) (f v))

  picked-insert : (v : ℕ) (l : List ℕ) → Rising l → picked p f (insert v l) ≡ cond (p v) (insert (f v) (picked p f l)) (picked p f l)
  unfolding Rising From
  picked-insert v [] r = rw (insert-none v, insert-none (f v)) (split (p v) (λ e. rw e refl) (λ e. rw e refl))
  picked-insert v (w ∷ l) r =
      let i = picked-insert v l r.1 in
      ⊎_elim
      (λ (h : w < v).
      let g = from-picked w l r.0 in
      rw (insert-go v w l h)
      (split (p w)
      (λ d. split (p v)
      (λ e. rw (picked-yes p f w (insert v l) d, picked-yes p f w l d, i, e) (swapped v w (picked p f l) (mono w v (omega arith)) g))
      (λ e. rw (picked-yes p f w (insert v l) d, picked-yes p f w l d, i, e) refl))
      (λ d. rw (picked-no p f w (insert v l) d, picked-no p f w l d) i)))
      (λ (h : v ≤ w).
      let g = from-picked v (w ∷ l) (h, from_less v w l h r.0) in
      rw (insert-stop v w l h)
      (split (p v)
      (λ e. rw (picked-yes p f v (w ∷ l) e, e) (sym (insert-low (f v) (picked p f (w ∷ l)) g)))
      (λ e. rw (picked-no p f v (w ∷ l) e, e) refl)))
      (below? w v)

  pub picked-sorted : (l : List ℕ) → picked p f (sorted l) ≡ sorted (picked p f l)
  unfolding sorted
  picked-sorted [] = refl
  picked-sorted (v ∷ l) =
      let i = picked-sorted l in
      picked-insert v (sorted l) (rising-sorted l)
      ∙ split (p v) (λ e. rw e (ap (insert (f v)) i)) (λ e. rw e i)

-- picked from what was picked
picked-twice : (p : ℕ → Bool) (f : ℕ → ℕ) (q : ℕ → Bool) (g : ℕ → ℕ) (l : List ℕ) → picked p f (picked q g l) ≡ picked (λ i. q i && p (g i)) (λ i. f (g i)) l
picked-twice p f q g [] = refl
picked-twice p f q g (i ∷ l) =
    let r = picked-twice p f q g l in
    split (q i) (λ e. split (p (g i)) (λ d. rw (e, d) (ap (λ t. f (g i) ∷ t) r)) (λ d. rw (e, d) r)) (λ e. rw e r)

-- tests and maps that agree below n
picked_same : (p q : ℕ → Bool) (f g : ℕ → ℕ) (n : ℕ) → ((i : ℕ) → i < n → p i ≡ q i) → ((i : ℕ) → i < n → f i ≡ g i) → picked p f (range_with_len 0 n) ≡ picked q g (range_with_len 0 n)
picked_same p q f g zero s t = refl
picked_same p q f g (suc n) s t =
    let r = picked_same p q f g n (λ i h. s i (omega arith)) (λ i h. t i (omega arith)) in
    let h : n < suc n = omega arith in
    let ns = range_with_len 0 n in
    let last : picked p f (n ∷ []) ≡ picked q g (n ∷ []) =
    split (q n) (λ e. rw (s n h, e, t n h) refl) (λ e. rw (s n h, e) refl) in
    ap (picked p f) (range-suc n)
    ∙ picked-append p f ns (n ∷ [])
    ∙ ap₂ (λ a b. a ++ b) r last
    ∙ sym (ap (picked q g) (range-suc n) ∙ picked-append q g ns (n ∷ []))

module _ (ps : List (List ℤ)) (few : length ps ≤ max_points) where
  pub crossed-all : (lo hi : ℕ) → lo < hi → crossed ps lo hi (edges_of ps) ≡ crossings ps lo hi
  unfolding crossed edges_of unsorted_edges crossings spans
  crossed-all lo hi h =
      picked-sorted (spans ps lo hi) (λ e. e / max_points) (λ a b k. omega arith) (unsorted_edges ps (length ps))
      ∙ ap sorted
      (picked-twice (spans ps lo hi) (λ e. e / max_points) (vertical_at ps) (key_of ps) (range_with_len 0 (length ps))
      ∙ picked_same _ _ _ _ (length ps)
      (λ i k. let e : key_of ps i % max_points ≡ i = omega arith in rw (lt-ltb lo hi h, e) refl)
      (λ i k. omega arith))

  walked-banded : (hs : List ℕ) → Strict hs → walked ps (edges_of ps) hs ≡ banded ps hs
  unfolding walked banded Strict Above
  walked-banded [] s = refl
  walked-banded (lo ∷ []) s = refl
  walked-banded (lo ∷ hi ∷ hs) s =
      let i = walked-banded (hi ∷ hs) s.1 in
      rw (crossed-all lo hi s.0.0, i) refl

  -- the law: what the code walks over are the rules' strips
  pub all-strips : all_of ps (levels ps) (edges_of ps) ≡ strips_of ps
  unfolding all_of strips_of
  all-strips = rw (walked-banded (levels ps) (strict-levels ps)) refl

pub ready-strips : (ps : List (List ℤ)) (hs es : List ℕ) → Ready ps hs es → all_of ps hs es ≡ strips_of ps
ready-strips ps hs es r = rw (r.heights, r.edges) (all-strips ps r.few)
