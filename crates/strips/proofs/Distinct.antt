-- Numbers that rise, each kept once. Assumes nothing.
use Rattle.std.proofs.Common.{ℕ, zero, suc, ◌+◌, ◌-◌, ◌<◌, ◌≤◌, ◌≡◌, refl, sym, ap, ap₂, ◌∙◌, List, [], ◌∷◌, ◌++◌, map, ⊎_elim, arith, add-one, subst, ℤ, eqb, leb, length, take, drop, get_or, set, eqb-true, eq-eqb, ne_eqb, take-take, take_at, length-take-le, length-append, length-drop, append_assoc, take-suc, drop_of_length-le, drop-cons}
use borrow.Author.Tests.{eqb-false}
use Rattle.std.specs.List.{copy_within, dedup, range_with_len}
use Rattle.std.specs.List.Sorted.{IsStrictlyIncreasing}
use Rattle.std.proofs.lemmas.List.{drop-take, set_at}
use Rattle.std.proofs.lemmas.List.FromFn.{length-map-range_with_len, get_or-map-range_with_len}
use Rattle.cell.proofs.Offsets.{below?}
use Rattle.strips.specs.Sorted.{insert, sorted}
use Rattle.strips.specs.Rings.{y_at}
use Rattle.strips.specs.Strips.{levels}
use Rattle.strips.specs.Walk.{Gathered}
use Rattle.strips.proofs.Picking.{split}
use Rattle.strips.proofs.Orders.{insert-stop, insert-go, insert-none, length-sorted, From, Rising, rising-sorted}

-- each number of a list is above v; lists that rise strictly
unfoldable pub Above : ℕ → List ℕ → Type 0
Above v [] = Unit
Above v (w ∷ l) = (v < w) × Above v l

unfoldable pub Strict : List ℕ → Type 0
Strict [] = Unit
Strict (v ∷ l) = Above v l × Strict l

above-less : (u v : ℕ) (l : List ℕ) → u ≤ v → Above v l → Above u l
unfolding Above
above-less u v [] h a = tt
above-less u v (w ∷ l) h a = (omega arith, above-less u v l h a.1)

above-from : (u v : ℕ) (l : List ℕ) → u < v → From v l → Above u l
unfolding Above From
above-from u v [] h f = tt
above-from u v (w ∷ l) h f = (omega arith, above-from u v l h f.1)

above-insert : (u v : ℕ) (l : List ℕ) → u < v → Above u l → Above u (insert v l)
unfolding Above insert
above-insert u v [] h a = (h, tt)
above-insert u v (w ∷ l) h a =
    let r = above-insert u v l h a.1 in
    split (leb v w) (λ e. rw e (h, a)) (λ e. rw e (a.0, r))

above_at : (u : ℕ) (l : List ℕ) (i : ℕ) → Above u l → i < length l → u < get_or l i 0
unfolding Above
above_at u [] i a h = absurd (omega arith)
above_at u (w ∷ l) zero a h = a.0
above_at u (w ∷ l) (suc i) a h = above_at u l i a.1 (omega arith)

far : (l : List ℕ) → Strict l → (i j : ℕ) → i ≤ j → j < length l → get_or l i 0 ≤ get_or l j 0
unfolding Strict
far [] s i j h g = absurd (omega arith)
far (v ∷ l) s zero zero h g = omega arith
far (v ∷ l) s zero (suc j) h g = let a = above_at v l j s.0 (omega arith) in omega arith
far (v ∷ l) s (suc i) zero h g = absurd (omega arith)
far (v ∷ l) s (suc i) (suc j) h g = far l s.1 i j (omega arith) (omega arith)

strict-rises : (l : List ℕ) → Strict l → IsStrictlyIncreasing l
unfolding Strict
strict-rises [] s k h = absurd (omega arith)
strict-rises (v ∷ l) s zero h = above_at v l 0 s.0 (omega arith)
strict-rises (v ∷ l) s (suc k) h = rw (add-one (suc k)) (rw (add-one k) at (strict-rises l s.1 k (omega arith)))

rises-rest : (v : ℕ) (l : List ℕ) → IsStrictlyIncreasing (v ∷ l) → IsStrictlyIncreasing l
rises-rest v l s k h = rw (add-one k) (rw (add-one (suc k)) at (s (suc k) (omega arith)))

above-rises : (v : ℕ) (l : List ℕ) → IsStrictlyIncreasing (v ∷ l) → Above v l
unfolding Above
above-rises v [] s = tt
above-rises v (w ∷ l) s =
    let h = s 0 (omega arith) in
    (h, above-less v w l (omega arith) (above-rises w l (rises-rest v (w ∷ l) s)))

strict_from : (l : List ℕ) → IsStrictlyIncreasing l → Strict l
unfolding Strict
strict_from [] s = tt
strict_from (v ∷ l) s = (above-rises v l s, strict_from l (rises-rest v l s))

-- what is kept of a list begins with the list's first number
kept-head : (v : ℕ) (l : List ℕ) → (t : List ℕ) × (dedup eqb (v ∷ l) ≡ v ∷ t)
kept-head v [] = ([], refl)
kept-head v (w ∷ l) =
    let i = kept-head v l in
    split (eqb w v) (λ e. (i.0, rw e i.1)) (λ e. (dedup eqb (w ∷ l), rw e refl))

kept-strict : (v : ℕ) (l : List ℕ) → Rising (v ∷ l) → Strict (dedup eqb (v ∷ l))
unfolding Strict Above Rising From
kept-strict v [] r = (tt, tt)
kept-strict v (w ∷ l) r =
    let i = kept-strict v l (r.0.1, r.1.1) in
    let j = kept-strict w l r.1 in
    let d = kept-head w l in
    split (eqb w v)
    (λ e. rw e i)
    (λ e.
    let n = eqb-false w v e in
    let h : v < w = ⊎_elim (λ (k : v < w). k) (λ (k : w ≤ v). absurd (n (omega arith))) (below? v w) in
    rw e (rw d.1 (h, above-less v w d.0 (omega arith) (rw d.1 at j).0), j))

strict-dedup : (l : List ℕ) → Rising l → Strict (dedup eqb l)
unfolding Strict
strict-dedup [] r = tt
strict-dedup (v ∷ l) r = kept-strict v l r

pub strict-levels : (ps : List (List ℤ)) → Strict (levels ps)
unfolding levels
strict-levels ps = let ys = map (y_at ps) (range_with_len 0 (length ps)) in strict-dedup (sorted ys) (rising-sorted ys)

kept-length : (v : ℕ) (l : List ℕ) → length (dedup eqb (v ∷ l)) ≤ suc (length l)
kept-length v [] = omega arith
kept-length v (w ∷ l) =
    let i = kept-length v l in
    let j = kept-length w l in
    split (eqb w v) (λ e. rw e (omega arith)) (λ e. rw e (omega arith))

length-dedup : (l : List ℕ) → length (dedup eqb l) ≤ length l
length-dedup [] = omega arith
length-dedup (v ∷ l) = kept-length v l

-- all of a list that rises strictly is kept
dedup_above : (v : ℕ) (l : List ℕ) → Above v l → dedup eqb (v ∷ l) ≡ v ∷ dedup eqb l
unfolding Above
dedup_above v [] a = refl
dedup_above v (w ∷ l) a = let h = a.0 in rw (ne_eqb w v (λ e. omega arith)) refl

dedup-strict : (l : List ℕ) → Strict l → dedup eqb l ≡ l
unfolding Strict
dedup-strict [] s = refl
dedup-strict (v ∷ l) s = dedup_above v l s.0 ∙ ap (λ (t : List ℕ). v ∷ t) (dedup-strict l s.1)

-- a number goes in above the first one
put_above : (v w : ℕ) (l : List ℕ) → w < v → Above w l → dedup eqb (insert v (w ∷ l)) ≡ w ∷ dedup eqb (insert v l)
put_above v w l h a = ap (dedup eqb) (insert-go v w l h) ∙ dedup_above w (insert v l) (above-insert w v l h a)

-- a number that is there already
there : (l : List ℕ) (v i : ℕ) → Strict l → i < length l → get_or l i 0 ≡ v → dedup eqb (insert v l) ≡ l
unfolding Strict
there [] v i s h e = absurd (omega arith)
there (w ∷ l) v zero s h e =
    let once : dedup eqb (v ∷ w ∷ l) ≡ dedup eqb (v ∷ l) = rw (eq-eqb w v e) refl in
    ap (dedup eqb) (insert-stop v w l (omega arith)) ∙ once ∙ ap (λ (t : ℕ). dedup eqb (t ∷ l)) (sym e) ∙ dedup-strict (w ∷ l) s
there (w ∷ l) v (suc i) s h e =
    let r = there l v i s.1 (omega arith) e in
    let a = above_at w l i s.0 (omega arith) in
    let g : w < v = omega arith in
    put_above v w l g s.0 ∙ ap (λ (t : List ℕ). w ∷ t) r

-- a number that is new, where it belongs
new : (l : List ℕ) (v p : ℕ) → Strict l → p ≤ length l → ((k : ℕ) → k < p → get_or l k 0 < v)
    → ((k : ℕ) → p ≤ k → k < length l → v < get_or l k 0) → dedup eqb (insert v l) ≡ take p l ++ v ∷ drop p l
unfolding Strict Above
new [] v zero s h b a = ap (dedup eqb) (insert-none v)
new [] v (suc p) s h b a = absurd (omega arith)
new (w ∷ l) v zero s h b a =
    let g : v < w = a 0 (omega arith) (omega arith) in
    ap (dedup eqb) (insert-stop v w l (omega arith)) ∙ dedup-strict (v ∷ w ∷ l) ((g, above-less v w l (omega arith) s.0), s)
new (w ∷ l) v (suc p) s h b a =
    let g : w < v = b 0 (omega arith) in
    let r = new l v p s.1 (omega arith) (λ k q. b (suc k) (omega arith)) (λ k q i. a (suc k) (omega arith) (omega arith)) in
    put_above v w l g s.0 ∙ ap (λ (t : List ℕ). w ∷ t) r

-- of two equal numbers one counts
twice : (v w : ℕ) (l : List ℕ) → dedup eqb (insert v (w ∷ w ∷ l)) ≡ dedup eqb (insert v (w ∷ l))
twice v w l =
    let same = eq-eqb w w refl in
    ⊎_elim
    (λ (h : w < v). rw (insert-go v w (w ∷ l) h, insert-go v w l h, same) refl)
    (λ (h : v ≤ w). rw (insert-stop v w (w ∷ l) h, insert-stop v w l h) (split (eqb w v) (λ e. rw e refl) (λ e. rw (e, same) refl)))
    (below? w v)

-- a number goes into what is kept as into all
put_kept : (v w : ℕ) (l : List ℕ) → Rising (w ∷ l) → dedup eqb (insert v (dedup eqb (w ∷ l))) ≡ dedup eqb (insert v (w ∷ l))
unfolding Rising From Strict
put_kept v w [] r = refl
put_kept v w (x ∷ l) r =
    let i = put_kept v w l (r.0.1, r.1.1) in
    let j = put_kept v x l r.1 in
    let s = kept-strict w (x ∷ l) r in
    split (eqb x w)
    (λ e. let q = eqb-true x w e in rw e i ∙ sym (ap (λ (t : ℕ). dedup eqb (insert v (w ∷ t ∷ l))) q ∙ twice v w l))
    (λ e.
    let n = eqb-false x w e in
    let g : w < x = ⊎_elim (λ (k : w < x). k) (λ (k : x ≤ w). absurd (n (omega arith))) (below? w x) in
    let d : dedup eqb (w ∷ x ∷ l) ≡ w ∷ dedup eqb (x ∷ l) = rw e refl in
    let z = rw d at s in
    ⊎_elim
    (λ (h : w < v).
    ap (λ (t : List ℕ). dedup eqb (insert v t)) d ∙ put_above v w (dedup eqb (x ∷ l)) h z.0 ∙ ap (λ (t : List ℕ). w ∷ t) j
    ∙ sym (put_above v w (x ∷ l) h (above-from w x (x ∷ l) g (omega arith, r.1.0))))
    (λ (h : v ≤ w).
    ap (λ (t : List ℕ). dedup eqb (insert v t)) d ∙ ap (dedup eqb) (insert-stop v w (dedup eqb (x ∷ l)) h)
    ∙ stopped v w (dedup eqb (x ∷ l)) (x ∷ l) (dedup-strict (w ∷ dedup eqb (x ∷ l)) z ∙ sym d)
    ∙ sym (ap (dedup eqb) (insert-stop v w (x ∷ l) h)))
    (below? w v))
  where
    stopped : (v w : ℕ) (a b : List ℕ) → dedup eqb (w ∷ a) ≡ dedup eqb (w ∷ b) → dedup eqb (v ∷ w ∷ a) ≡ dedup eqb (v ∷ w ∷ b)
    stopped v w a b e = split (eqb w v) (λ q. let k = eqb-true w v q in rw (q, sym k) e) (λ q. rw (q, e) refl)

absorbed : (v : ℕ) (l : List ℕ) → Rising l → dedup eqb (insert v (dedup eqb l)) ≡ dedup eqb (insert v l)
absorbed v [] r = refl
absorbed v (w ∷ l) r = put_kept v w l r

-- a place made in a row, and a number put there
module _ (row : List ℕ) (k p v : ℕ) (h : p ≤ k) (room : k < length row) where
  abbrev put : List ℕ
  put = take p row ++ v ∷ take (k - p) (drop p row)

  put-long : length put ≡ k + 1
  put-long =
      let a = length-take-le p row (omega arith) in
      let d = length-drop p row in
      let b = length-take-le (k - p) (drop p row) (omega arith) in
      length-append (take p row) (v ∷ take (k - p) (drop p row)) ∙ omega arith

  put-row : set (copy_within row p k (p + 1)) p v ≡ put ++ drop (p + 1 + (k - p)) row
  put-row =
      let a = take p row in
      let b = take (k - p) (drop p row) in
      let c = drop (p + 1 + (k - p)) row in
      let x = get_or row p 0 in
      let moved : copy_within row p k (p + 1) ≡ a ++ x ∷ (b ++ c) =
      ap (λ (t : List ℕ). (t ++ b) ++ c) (ap (λ (n : ℕ). take n row) (add-one p) ∙ take-suc row p 0 (omega arith))
      ∙ append_assoc (a ++ x ∷ []) b c ∙ append_assoc a (x ∷ []) (b ++ c) in
      ap (λ (t : List ℕ). set t p v) moved
      ∙ set_at a x (b ++ c) v p (length-take-le p row (omega arith))
      ∙ sym (append_assoc a (v ∷ b) c)

  put-front : take p (take k row) ++ v ∷ drop p (take k row) ≡ put
  put-front =
      let n : k ≡ p + (k - p) = omega arith in
      ap₂ (λ (a b : List ℕ). a ++ v ∷ b) (take-take p k row h) (ap (λ (m : ℕ). drop p (take m row)) n ∙ drop-take p (k - p) row)

module _ (row : List ℕ) (k v : ℕ) (room : k < length row) (rising : IsStrictlyIncreasing (take k row)) where
  strict : Strict (take k row)
  strict = strict_from (take k row) rising

  pub ordered : (i j : ℕ) → i ≤ j → j < length (take k row) → get_or (take k row) i 0 ≤ get_or (take k row) j 0
  ordered = far (take k row) strict

  long : length (take k row) ≡ k
  long = length-take-le k row (omega arith)

  pub added_none : (i : ℕ) → i < length (take k row) → get_or (take k row) i 0 ≡ v → Gathered (dedup eqb (insert v (take k row))) row k
  added_none i h e =
      let s = there (take k row) v i strict h e in
      record { front = sym s; count = sym (ap length s ∙ long); fits = omega arith }

  pub added_one : (p : ℕ) → p ≤ length (take k row) → ((j : ℕ) → j < p → get_or (take k row) j 0 < v)
      → (p < length (take k row) → v < get_or (take k row) p 0)
      → Gathered (dedup eqb (insert v (take k row))) (set (copy_within row p k (p + 1)) p v) (k + 1)
  added_one p h b a =
      let g : p ≤ k = omega (arith, long) in
      let n = put-long row k p v g room in
      let e = put-row row k p v g room in
      let above : (j : ℕ) → p ≤ j → j < length (take k row) → v < get_or (take k row) j 0 =
      λ j q i. let x = a (omega arith) in let y = ordered p j q i in omega arith in
      let s = new (take k row) v p strict h b above ∙ put-front row k p v g room in
      record {
        front = ap (take (k + 1)) e ∙ take_at (put row k p v g room) (drop (p + 1 + (k - p)) row) (k + 1) n ∙ sym s;
        count = sym (ap length s ∙ n);
        fits =
            let l = ap length e ∙ length-append (put row k p v g room) (drop (p + 1 + (k - p)) row) in
            omega (arith, l, n);
      }

sorted_one : (v : ℕ) (l : List ℕ) → dedup eqb (sorted (v ∷ l)) ≡ dedup eqb (insert v (sorted l))
unfolding sorted
sorted_one v l = refl

-- the heights of a ring's points from point i on
abbrev pub heights_from : List (List ℤ) → ℕ → List ℕ
heights_from ps i = drop i (map (y_at ps) (range_with_len 0 (length ps)))

mapped : (ps : List (List ℤ)) → length (map (y_at ps) (range_with_len 0 (length ps))) ≡ length ps
mapped ps = length-map-range_with_len (y_at ps) 0 (length ps)

pub heights-none : (ps : List (List ℤ)) (row : List ℕ) → Gathered (dedup eqb (sorted (heights_from ps (length ps)))) row 0
unfolding sorted
heights-none ps row =
    let e = drop_of_length-le (map (y_at ps) (range_with_len 0 (length ps))) {i = length ps} (let m = mapped ps in omega arith) in
    rw e (record { front = refl; count = refl; fits = omega arith })

module _ (ps : List (List ℤ)) (row : List ℕ) (k i : ℕ) (g : Gathered (dedup eqb (sorted (heights_from ps i))) row k) where
  pub heights-few : k ≤ length ps - i
  heights-few =
      let a = length-dedup (sorted (heights_from ps i)) in
      let b = length-sorted (heights_from ps i) ∙ length-drop i (map (y_at ps) (range_with_len 0 (length ps))) in
      omega (arith, g.count, mapped ps)

  pub heights-rise : IsStrictlyIncreasing (take k row)
  heights-rise =
      subst IsStrictlyIncreasing (sym g.front)
      (strict-rises (dedup eqb (sorted (heights_from ps i))) (strict-dedup (sorted (heights_from ps i)) (rising-sorted (heights_from ps i))))

module _ (ps : List (List ℤ)) (row : List ℕ) (k i : ℕ) (g : Gathered (dedup eqb (sorted (heights_from ps (i + 1)))) row k) (h : i < length ps) where
  pub heights-more : (row' : List ℕ) (r v : ℕ) → v ≡ y_at ps i → Gathered (dedup eqb (insert v (take k row))) row' r
      → Gathered (dedup eqb (sorted (heights_from ps i))) row' r
  heights-more row' r v e q =
      let ys = map (y_at ps) (range_with_len 0 (length ps)) in
      let l = heights_from ps (i + 1) in
      let first : get_or ys i (y_at ps 0) ≡ y_at ps i = get_or-map-range_with_len (y_at ps) 0 (length ps) i i (y_at ps 0) h (omega arith) in
      let one : heights_from ps i ≡ y_at ps i ∷ l =
      drop-cons ys i (y_at ps 0) (rw (mapped ps) h) ∙ ap₂ (λ (x n : ℕ). x ∷ drop n ys) first (sym (add-one i)) in
      let d : dedup eqb (insert v (take k row)) ≡ dedup eqb (sorted (heights_from ps i)) =
      ap₂ (λ (x : ℕ) (t : List ℕ). dedup eqb (insert x t)) e g.front
      ∙ absorbed (y_at ps i) (sorted l) (rising-sorted l)
      ∙ sym (ap (λ (t : List ℕ). dedup eqb (sorted t)) one ∙ sorted_one (y_at ps i) l) in
      subst (λ (t : List ℕ). Gathered t row' r) d q
