-- Contact: as facts; symmetric; a corner is none; and the lemma on quadrants: a box that shares an edge with another has a quadrant
-- that does. The engines cite contact by these laws and never by its text. Assumes nothing.
use Rattle.std.proofs.Common.{◌≡◌, refl, sym, ap, ◌∙◌, Bool, true, false, ◌&&◌, ◌||◌, if◌then◌else◌, ◌==◌, ◌⊎◌, inl, inr, ⊎_elim, ℕ, ◌-◌, ◌<◌, ◌≤◌, min, max, Option, Some, arith, ltb, eqb, ltb-true, ltb-false, lt-ltb, eqb-true, eq-eqb}
use Rattle.std.specs.Option.{is_some}
use mathlib.Core.Bool.{false≢true}
use Rattle.cell.specs.Boxes.{Box, Quad, sw, se, nw, ne, quadrant, mid, border, shares_edge}
use Rattle.cell.specs.Laws.{overlaps}

pub or_cases : (x y : Bool) → (x || y) ≡ true → (x ≡ true) ⊎ (y ≡ true)
or_cases true y e = inl refl
or_cases false y e = inr e

pub and_left : (x y : Bool) → (x && y) ≡ true → x ≡ true
and_left true y e = refl
and_left false y e = e

pub and_right : (x y : Bool) → (x && y) ≡ true → y ≡ true
and_right true y e = e
and_right false y e = absurd (false≢true e)

pub and_both : (x y : Bool) → x ≡ true → y ≡ true → (x && y) ≡ true
and_both true y e h = h
and_both false y e h = e

pub or_left : (x y : Bool) → x ≡ true → (x || y) ≡ true
or_left true y e = refl
or_left false y e = absurd (false≢true e)

pub or_right : (x y : Bool) → y ≡ true → (x || y) ≡ true
or_right true y e = refl
or_right false y e = e

pub data Touch (a b : Box) : Type 0 where
  east : a.x1 ≡ b.x0 → max a.y0 b.y0 < min a.y1 b.y1 → Touch a b
  west : b.x1 ≡ a.x0 → max a.y0 b.y0 < min a.y1 b.y1 → Touch a b
  north : a.y1 ≡ b.y0 → max a.x0 b.x0 < min a.x1 b.x1 → Touch a b
  south : b.y1 ≡ a.y0 → max a.x0 b.x0 < min a.x1 b.x1 → Touch a b

-- the test's form, over any six flags
module _ (p q u r s v : Bool) where
  data Four : Type 0 where
    one : p ≡ true → u ≡ true → Four
    two : q ≡ true → u ≡ true → Four
    three : r ≡ true → v ≡ true → Four
    four : s ≡ true → v ≡ true → Four

  four-of : (((p || q) && u) || ((r || s) && v)) ≡ true → Four
  four-of e =
      ⊎_elim
      (λ h. ⊎_elim (λ x. one x (and_right (p || q) u h)) (λ x. two x (and_right (p || q) u h)) (or_cases p q (and_left (p || q) u h)))
      (λ h. ⊎_elim (λ x. three x (and_right (r || s) v h)) (λ x. four x (and_right (r || s) v h)) (or_cases r s (and_left (r || s) v h)))
      (or_cases ((p || q) && u) ((r || s) && v) e)

  of_four : Four → (((p || q) && u) || ((r || s) && v)) ≡ true
  of_four (one e h) = or_left ((p || q) && u) ((r || s) && v) (and_both (p || q) u (or_left p q e) h)
  of_four (two e h) = or_left ((p || q) && u) ((r || s) && v) (and_both (p || q) u (or_right p q e) h)
  of_four (three e h) = or_right ((p || q) && u) ((r || s) && v) (and_both (r || s) v (or_left r s e) h)
  of_four (four e h) = or_right ((p || q) && u) ((r || s) && v) (and_both (r || s) v (or_right r s e) h)

abbrev Flags : Box → Box → Type 0
Flags a b =
    Four (eqb a.x1 b.x0) (eqb b.x1 a.x0) (overlaps a.y0 a.y1 b.y0 b.y1)
    (eqb a.y1 b.y0) (eqb b.y1 a.y0) (overlaps a.x0 a.x1 b.x0 b.x1)

touch-of : (a b : Box) → Flags a b → Touch a b
touch-of a b (one e h) = east (eqb-true _ _ e) (ltb-true _ _ h)
touch-of a b (two e h) = west (eqb-true _ _ e) (ltb-true _ _ h)
touch-of a b (three e h) = north (eqb-true _ _ e) (ltb-true _ _ h)
touch-of a b (four e h) = south (eqb-true _ _ e) (ltb-true _ _ h)

of-touch : (a b : Box) → Touch a b → Flags a b
of-touch a b (east e h) = one (eq-eqb _ _ e) (lt-ltb _ _ h)
of-touch a b (west e h) = two (eq-eqb _ _ e) (lt-ltb _ _ h)
of-touch a b (north e h) = three (eq-eqb _ _ e) (lt-ltb _ _ h)
of-touch a b (south e h) = four (eq-eqb _ _ e) (lt-ltb _ _ h)

-- ---- some border is sharing an edge by the rules

positive : (n m : ℕ) → ltb 0 (m - n) ≡ ltb n m
positive n m = by (ltb n m) refl
  where
    by : (t : Bool) → ltb n m ≡ t → ltb 0 (m - n) ≡ t
    by true e = lt-ltb 0 (m - n) (omega (arith, ltb-true n m e))
    by false e = let z : m - n ≡ 0 = omega (arith, ltb-false n m e) in rw z refl

-- a side counts if its line is met and the ranges overlap
counts : (p : Bool) (n m : ℕ) → ltb 0 (if p then m - n else 0) ≡ (p && ltb n m)
counts true n m = positive n m
counts false n m = refl

-- a side that does not count leaves it to the next
some-or : {A : Type 0} (x counting y : Bool) (c : A) (o : Option A) → x ≡ counting → is_some o ≡ y → is_some (if x then Some c else o) ≡ (counting || y)
some-or true counting y c o h e = rw (sym h) refl
some-or false counting y c o h e = rw (sym h) e

regroup : (p q u x : Bool) → ((p && u) || ((q && u) || x)) ≡ (((p || q) && u) || x)
regroup true q true x = refl
regroup true true false x = refl
regroup true false false x = refl
regroup false q u x = refl

or-false : (x : Bool) → (x || false) ≡ x
or-false true = refl
or-false false = refl

pub some-border : (a b : Box)
    → shares_edge a b
    ≡ (((a.x1 == b.x0 || b.x1 == a.x0) && overlaps a.y0 a.y1 b.y0 b.y1)
    || ((a.y1 == b.y0 || b.y1 == a.y0) && overlaps a.x0 a.x1 b.x0 b.x1))
unfolding shares_edge border
some-border a b =
    some-or _ _ _ _ _ (counts (a.x1 == b.x0) _ _)
    (some-or _ _ _ _ _ (counts (b.x1 == a.x0) _ _)
    (some-or _ _ _ _ _ (counts (a.y1 == b.y0) _ _)
    (some-or _ _ _ _ _ (counts (b.y1 == a.y0) _ _) refl)))
    ∙ regroup (a.x1 == b.x0) (b.x1 == a.x0) _ _
    ∙ ap (λ z. (((a.x1 == b.x0 || b.x1 == a.x0) && overlaps a.y0 a.y1 b.y0 b.y1) || z)) (regroup (a.y1 == b.y0) (b.y1 == a.y0) _ _ ∙ or-false _)

pub shares→touch : (a b : Box) → shares_edge a b ≡ true → Touch a b
shares→touch a b e = touch-of a b (four-of _ _ _ _ _ _ (sym (some-border a b) ∙ e))

pub touch→shares : (a b : Box) → Touch a b → shares_edge a b ≡ true
touch→shares a b t = some-border a b ∙ of_four _ _ _ _ _ _ (of-touch a b t)

touch-sym : (a b : Box) → Touch a b → Touch b a
touch-sym a b (east e h) = west e (omega arith)
touch-sym a b (west e h) = east e (omega arith)
touch-sym a b (north e h) = south e (omega arith)
touch-sym a b (south e h) = north e (omega arith)

pub shares-sym : (a b : Box) → shares_edge a b ≡ true → shares_edge b a ≡ true
shares-sym a b e = touch→shares b a (touch-sym a b (shares→touch a b e))

-- boxes that have a corner in common and lie across it from one another do not share an edge
pub corner-apart : (a b : Box) → a.x0 < a.x1 → a.y0 < a.y1 → a.x1 ≡ b.x0 → a.y1 ≡ b.y0 → b.x0 < b.x1 → b.y0 < b.y1 → shares_edge a b ≡ true → ⊥
corner-apart a b aw ah ex ey bw bh e = by (shares→touch a b e)
  where
    by : Touch a b → ⊥
    by (east p h) = omega arith
    by (west p h) = omega arith
    by (north p h) = omega arith
    by (south p h) = omega arith

-- a range that overlaps another does so below a point m, or above it
halves : (a b c d m : ℕ) → max a c < min b d → (max a c < min m d) ⊎ (max m c < min b d)
halves a b c d m h = go (ltb (max a c) m) refl
  where
    go : (t : Bool) → ltb (max a c) m ≡ t → (max a c < min m d) ⊎ (max m c < min b d)
    go true e = let l : max a c < m = ltb-true _ _ e in inl (omega arith)
    go false e = let l : m ≤ max a c = ltb-false _ _ e in inr (omega arith)

touch-quadrant : (a b : Box) → Touch a b → (q : Quad) × Touch (quadrant a q) b
touch-quadrant a b (east e h) = ⊎_elim (λ l. (se, east e l)) (λ l. (ne, east e l)) (halves _ _ _ _ (mid a.y0 a.y1) h)
touch-quadrant a b (west e h) = ⊎_elim (λ l. (sw, west e l)) (λ l. (nw, west e l)) (halves _ _ _ _ (mid a.y0 a.y1) h)
touch-quadrant a b (north e h) = ⊎_elim (λ l. (nw, north e l)) (λ l. (ne, north e l)) (halves _ _ _ _ (mid a.x0 a.x1) h)
touch-quadrant a b (south e h) = ⊎_elim (λ l. (sw, south e l)) (λ l. (se, south e l)) (halves _ _ _ _ (mid a.x0 a.x1) h)

pub shares-quadrant : (a b : Box) → shares_edge a b ≡ true → (q : Quad) × (shares_edge (quadrant a q) b ≡ true)
shares-quadrant a b e =
    let t = touch-quadrant a b (shares→touch a b e) in
    (t.0, touch→shares (quadrant a t.0) b t.1)
