-- On a closed ring without slanted edges the crossings of a band come in an even number: walking round the ring one gets from below the
-- band to above it as often as back. Assumes nothing.
use Rattle.std.proofs.Common.{subst, ℕ, zero, suc, ◌+◌, ◌%◌, ◌<◌, ◌≤◌, ◌≡◌, refl, sym, ap, ◌∙◌, Bool, true, false, not, ◌&&◌, ◌||◌, List, [], ◌∷◌, ◌++◌, map, ◌⊎◌, inl, inr, ⊎_elim, arith, ℤ, ltb, leb, eqb, length, length-append, lt-ltb, le-ltb, le-leb, eqb-true, ne_eqb}
use Rattle.std.specs.List.{dedup, range_with_len}
use mathlib.Core.Bool.{false≢true}
use mathlib.Core.List.{map-append}
use borrow.Author.Tests.{lt-leb, eqb-false}
use Rattle.strips.specs.Sorted.{insert, sorted}
use Rattle.strips.specs.Rings.{x_at, y_at, after, edge_at, vertical, reaches, slants, slants_at, ring_slants}
use Rattle.strips.specs.Strips.{levels, crossings}
use Rattle.strips.proofs.Picking.{range-suc, picked, some_below, some-suc, split, more_yes, more_no}
use Rattle.strips.proofs.Orders.{length-sorted}
use Rattle.strips.proofs.Distinct.{Above, Strict, strict-levels}
use Rattle.cell.proofs.Offsets.{below?}

abbrev differ : Bool → Bool → Bool
differ true b = not b
differ false b = b

abbrev bit : Bool → ℕ
bit true = 1
bit false = 0

-- no point of the ring lies inside the band
abbrev pub Band : List (List ℤ) → ℕ → ℕ → Type 0
Band ps lo hi = (lo < hi) × ((i : ℕ) → i < length ps → (y_at ps i ≤ lo) ⊎ (hi ≤ y_at ps i))

or-false-left : (a b : Bool) → (a || b) ≡ false → a ≡ false
or-false-left true b e = absurd (false≢true (sym e))
or-false-left false b e = refl

or-false-right : (a b : Bool) → (a || b) ≡ false → b ≡ false
or-false-right true b e = absurd (false≢true (sym e))
or-false-right false b e = e

some-none : (p : ℕ → Bool) (n i : ℕ) → some_below p n ≡ false → i < n → p i ≡ false
some-none p zero i e h = absurd (omega arith)
some-none p (suc n) i e h =
    let f = sym (some-suc p n) ∙ e in
    let r = some-none p n i (or-false-left (some_below p n) (p n) f) in
    split (eqb i n)
    (λ q. let s : i ≡ n = eqb-true i n q in rw s (or-false-right (some_below p n) (p n) f))
    (λ q. let s = eqb-false i n q in r (⊎_elim (λ (k : i < n). k) (λ (k : n ≤ i). absurd (s (omega arith))) (below? i n)))

upright : (x y : Bool) → (not x && not y) ≡ false → y ≡ false → x ≡ true
upright true y e f = refl
upright false true e f = absurd (false≢true (sym f))
upright false false e f = absurd (false≢true (sym e))

-- an edge crosses the band where its ends lie on different sides
across : (xa ya xb yb lo hi : ℕ) → lo < hi → (ya ≤ lo) ⊎ (hi ≤ ya) → (yb ≤ lo) ⊎ (hi ≤ yb)
    → (not (eqb xa xb) && not (eqb ya yb)) ≡ false
    → (eqb xa xb && ((leb ya lo && leb hi yb) || (leb yb lo && leb hi ya))) ≡ differ (leb ya lo) (leb yb lo)
across xa ya xb yb lo hi h a b s =
    ⊎_elim
    (λ (p : ya ≤ lo). ⊎_elim
    (λ (q : yb ≤ lo). rw (le-leb ya lo p, le-leb yb lo q, lt-leb hi ya (omega arith), lt-leb hi yb (omega arith)) (flat (eqb xa xb)))
    (λ (q : hi ≤ yb).
    let e = upright (eqb xa xb) (eqb ya yb) s (ne_eqb ya yb (λ k. omega arith)) in
    rw (e, le-leb ya lo p, le-leb hi yb q, lt-leb yb lo (omega arith)) refl)
    b)
    (λ (p : hi ≤ ya). ⊎_elim
    (λ (q : yb ≤ lo).
    let e = upright (eqb xa xb) (eqb ya yb) s (ne_eqb ya yb (λ k. omega arith)) in
    rw (e, le-leb yb lo q, le-leb hi ya p, lt-leb ya lo (omega arith)) refl)
    (λ (q : hi ≤ yb). rw (lt-leb ya lo (omega arith), lt-leb yb lo (omega arith)) (flat (eqb xa xb)))
    b)
    a
  where
    flat : (t : Bool) → (t && false) ≡ false
    flat true = refl
    flat false = refl

module _ (ps : List (List ℤ)) (lo hi : ℕ) (band : Band ps lo hi) (straight : ring_slants ps ≡ false) where
  abbrev crosses : ℕ → Bool
  crosses i = vertical (edge_at ps i) && reaches lo hi (edge_at ps i)

  abbrev side : ℕ → Bool
  side i = leb (y_at ps i) lo

  after-below : (i : ℕ) → i < length ps → after ps i < length ps
  after-below i h = split (ltb (i + 1) (length ps)) (λ e. rw e (borrow.Author.Tests.ltb-true (i + 1) (length ps) e)) (λ e. rw e (omega arith))

  crosses-is : (i : ℕ) → i < length ps → crosses i ≡ differ (side i) (side (after ps i))
  unfolding vertical reaches edge_at ring_slants slants
  crosses-is i h =
      across (x_at ps i) (y_at ps i) (x_at ps (after ps i)) (y_at ps (after ps i)) lo hi band.0 (band.1 i h) (band.1 (after ps i) (after-below i h))
      (some-none (slants_at ps) (length ps) i straight h)

  count : ℕ → ℕ
  count i = length (picked crosses (x_at ps) (range_with_len 0 i))

  -- one edge more
  count-more : (i : ℕ) → count (i + 1) ≡ count i + bit (crosses i)
  unfolding count
  count-more i =
      split (crosses i)
      (λ e. rw (more_yes crosses (x_at ps) i e, e) (length-append (picked crosses (x_at ps) (range_with_len 0 i)) (x_at ps i ∷ [])))
      (λ e. rw (more_no crosses (x_at ps) i e, e) (omega arith))

  turn : (a b c : Bool) (n m : ℕ) → n % 2 ≡ bit (differ a b) → m ≡ n + bit (differ b c) → m % 2 ≡ bit (differ a c)
  turn true true true n m e f = omega arith
  turn true true false n m e f = omega arith
  turn true false true n m e f = omega arith
  turn true false false n m e f = omega arith
  turn false true true n m e f = omega arith
  turn false true false n m e f = omega arith
  turn false false true n m e f = omega arith
  turn false false false n m e f = omega arith

  -- after i edges: odd where point i lies on the other side than point 0
  so_far : (i : ℕ) → i < length ps → count i % 2 ≡ bit (differ (side 0) (side i))
  unfolding count
  so_far zero h = split (side 0) (λ e. rw e refl) (λ e. rw e refl)
  so_far (suc i) h =
      let r = so_far i (omega arith) in
      let l : i < length ps = omega arith in
      let e : after ps i ≡ suc i = let k : i + 1 < length ps = omega arith in rw (lt-ltb (i + 1) (length ps) k) (omega arith) in
      let f = count-more i ∙ ap (λ (b : Bool). count i + bit b) (crosses-is i l ∙ ap (λ (j : ℕ). differ (side i) (side j)) e) in
      turn (side 0) (side i) (side (suc i)) (count i) (count (suc i)) r (rw (native.Mathlib.Numerals.add-one i) at f)

  round : (n : ℕ) → length ps ≡ suc n → count (length ps) % 2 ≡ 0
  round n q =
      let l : n < length ps = omega arith in
      let e : after ps n ≡ 0 = let k : length ps ≤ n + 1 = omega arith in rw (le-ltb (n + 1) (length ps) k) refl in
      let f = count-more n ∙ ap (λ (b : Bool). count n + bit b) (crosses-is n l ∙ ap (λ (j : ℕ). differ (side n) (side j)) e) in
      let g : length ps ≡ n + 1 = omega arith in
      rw g (turn (side 0) (side n) (side 0) (count n) (count (n + 1)) (so_far n l) f ∙ same (side 0))
    where
      same : (b : Bool) → bit (differ b b) ≡ 0
      same true = refl
      same false = refl

  everywhere : (n : ℕ) → length ps ≡ n → count (length ps) % 2 ≡ 0
  unfolding count
  everywhere zero q = rw q refl
  everywhere (suc n) q = round n q

  pub even-crossings : length (crossings ps lo hi) % 2 ≡ 0
  unfolding crossings count
  even-crossings =
      ap (λ (n : ℕ). n % 2) (length-sorted (picked crosses (x_at ps) (range_with_len 0 (length ps)))) ∙ everywhere (length ps) refl

-- The bands of the rules are such bands: every y value is among the levels, which rise strictly.
unfoldable pub In : ℕ → List ℕ → Type 0
In v [] = ⊥
In v (w ∷ l) = (v ≡ w) ⊎ In v l

in_insert : (u v : ℕ) (l : List ℕ) → (u ≡ v) ⊎ In u l → In u (insert v l)
unfolding In insert
in_insert u v [] m = m
in_insert u v (w ∷ l) m =
    let r = in_insert u v l in
    split (leb v w)
    (λ e. rw e m)
    (λ e. rw e (⊎_elim (λ q. inr (r (inl q))) (λ n. ⊎_elim (λ q. inl q) (λ k. inr (r (inr k))) n) m))

in-sorted : (u : ℕ) (l : List ℕ) → In u l → In u (sorted l)
unfolding In sorted
in-sorted u [] m = m
in-sorted u (v ∷ l) m =
    let r = in-sorted u l in
    in_insert u v (sorted l) (⊎_elim (λ q. inl q) (λ k. inr (r k)) m)

in_kept : (u v : ℕ) (l : List ℕ) → In u (v ∷ l) → In u (dedup eqb (v ∷ l))
unfolding In
in_kept u v [] m = m
in_kept u v (w ∷ l) m =
    let r = in_kept u v l in
    let i = in_kept u w l in
    split (eqb w v)
    (λ e. let q = eqb-true w v e in rw e (r (⊎_elim (λ k. inl k) (λ n. ⊎_elim (λ k. inl (k ∙ q)) (λ k. inr k) n) m)))
    (λ e. rw e (⊎_elim (λ k. inl k) (λ k. inr (i k)) m))

in-dedup : (u : ℕ) (l : List ℕ) → In u l → In u (dedup eqb l)
in-dedup u [] m = m
in-dedup u (v ∷ l) m = in_kept u v l m

in-append : (u : ℕ) (l m : List ℕ) → In u l ⊎ In u m → In u (l ++ m)
unfolding In
in-append u [] m h = ⊎_elim (λ k. absurd k) (λ k. k) h
in-append u (v ∷ l) m h =
    let r = in-append u l m in
    ⊎_elim (λ k. ⊎_elim (λ q. inl q) (λ n. inr (r (inl n))) k) (λ k. inr (r (inr k))) h

in_map : (f : ℕ → ℕ) (n i : ℕ) → i < n → In (f i) (map f (range_with_len 0 n))
unfolding In
in_map f zero i h = absurd (omega arith)
in_map f (suc n) i h =
    let r = in_map f n i in
    subst (λ l. In (f i) l) (sym (ap (map f) (range-suc n) ∙ map-append f (range_with_len 0 n) (n ∷ [])))
    (in-append (f i) (map f (range_with_len 0 n)) (f n ∷ [])
    (⊎_elim (λ (k : i < n). inl (r k)) (λ (k : n ≤ i). let q : i ≡ n = omega arith in inr (inl (ap f q))) (below? i n)))

-- a number of a list that rises strictly lies at or below one of two neighbours, or at or above the other
above_in : (u v : ℕ) (l : List ℕ) → Above v l → In u l → v < u
unfolding Above In
above_in u v [] a m = absurd m
above_in u v (w ∷ l) a m = let r = above_in u v l a.1 in ⊎_elim (λ (q : u ≡ w). omega arith) (λ k. r k) m

above_at : (v w : ℕ) (pre post : List ℕ) → Above v (pre ++ (w ∷ post)) → v < w
unfolding Above
above_at v w [] post a = a.0
above_at v w (x ∷ pre) post a = above_at v w pre post a.1

neighbours : (u lo hi : ℕ) (pre post : List ℕ) → Strict (pre ++ (lo ∷ hi ∷ post)) → In u (pre ++ (lo ∷ hi ∷ post)) → (u ≤ lo) ⊎ (hi ≤ u)
unfolding Strict In Above
neighbours u lo hi [] post s m =
    ⊎_elim (λ (q : u ≡ lo). inl (omega arith))
    (λ k. ⊎_elim (λ (q : u ≡ hi). inr (omega arith)) (λ n. let h = above_in u hi post s.1.0 n in inr (omega arith)) k) m
neighbours u lo hi (x ∷ pre) post s m =
    let r = neighbours u lo hi pre post s.1 in
    ⊎_elim (λ (q : u ≡ x). let h = above_at x lo pre (hi ∷ post) s.0 in inl (omega arith)) (λ k. r k) m

between : (lo hi : ℕ) (pre post : List ℕ) → Strict (pre ++ (lo ∷ hi ∷ post)) → lo < hi
unfolding Strict Above
between lo hi [] post s = s.0.0
between lo hi (x ∷ pre) post s = between lo hi pre post s.1

pub level-band : (ps : List (List ℤ)) (lo hi : ℕ) (pre post : List ℕ) → levels ps ≡ pre ++ (lo ∷ hi ∷ post) → Band ps lo hi
unfolding levels
level-band ps lo hi pre post e =
    let ys = map (y_at ps) (range_with_len 0 (length ps)) in
    let s = strict-levels ps in (
      between lo hi pre post (rw e at s),
      λ i h. neighbours (y_at ps i) lo hi pre post (rw e at s) (rw e at (in-dedup (y_at ps i) (sorted ys) (in-sorted (y_at ps i) ys (in_map (y_at ps) (length ps) i h)))),
    )

-- the law: between neighbouring levels of a ring that isn't slanted the crossings pair up
pub pairs-up : (ps : List (List ℤ)) (lo hi : ℕ) (pre post : List ℕ) → ring_slants ps ≡ false → levels ps ≡ pre ++ (lo ∷ hi ∷ post) → length (crossings ps lo hi) % 2 ≡ 0
pairs-up ps lo hi pre post s e = even-crossings ps lo hi (level-band ps lo hi pre post e) s
