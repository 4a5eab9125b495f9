-- The walk over the cells says yes exactly where every cell passes its test. A root is tested by itself. A child is what
-- its parent's numbers say, so its test follows from the parent's; and where a cell's first child names it, its four
-- stand there, since a four is only passed where its parent names it. Assumes nothing.
use Rattle.std.proofs.Common.{ℕ, zero, suc, ◌+◌, ◌-◌, ◌^◌, ◌<◌, ◌≤◌, ◌≡◌, refl, sym, ap, subst, ◌∙◌, Bool, true, false, ◌&&◌, ◌||◌, List, ◌⊎◌, inl, inr, ⊎_elim, ◌≢◌, arith, add-zero, ltb, leb, eqb, ℤ, pos, negsuc, ltb-true, leb-true, eqb-true, lt-ltb, le-leb, eq-eqb, ne_eqb}
use mathlib.Core.Logic.{by_cases}
use native.Mathlib.Decide.{dec_lt}
use lib.Signed.{non_neg}
use borrow.Author.Tests.{eqb-false}
use Rattle.refusals.specs.Limits.{coordinate, max_slots, max_polygons}
use Rattle.cell.specs.Boxes.{Quad, sw, se, nw, ne, num, quad_at}
use Rattle.cell.specs.declared.Cell as Held
use Rattle.cell.specs.Cells.{no_cell, child_of}
use Rattle.cell.specs.Ticks.{on, off, in_range}
use Rattle.cell.proofs.Offsets.{off-on}
use Rattle.table.specs.Slots.{counted, same_z, number, start, cell_at, in_slot}
use Rattle.table.specs.Mesh.{table, root_count}
use Rattle.table.specs.Formed.{Kid, side_ok, root_ok, born_ok, place_ok, kids_ok, cells_ok}
use Rattle.table.specs.Walk.{kid_at, kids_at, led_at, root_at, four_at}
use Rattle.table.proofs.All.{and_left, and_right}
use Rattle.table.proofs.Numbers.{same_true, true_same}
use Rattle.table.proofs.Stores.{on-range, read-corners}
use Rattle.table.proofs.Exact.{exact}
use Rattle.table.proofs.Facts.{CellFacts, facts-cells_ok}
use Rattle.table.proofs.Cells.{length-table, at_table}
use Rattle.table.proofs.Meshes.{num-below}
use Rattle.table.proofs.RootLaw.{root_more-yes, root_more-four}
use Rattle.table.proofs.Wellformed.{But, num-quad, quad-num, but-kid, kid-but, split-facts, facts-split}

-- ---- numbers

positive : (z : ℤ) → 0 < counted z → z ≡ pos (counted z)
unfolding counted
positive (pos n) h = refl
positive (negsuc n) h = absurd (omega arith)

pos-is : (a b : ℕ) → pos a ≡ pos b → a ≡ b
pos-is a b e = cc

-- the corners of a child lie where its parent's do
module _ (i : ℕ) (c : Held.Cell) (w : ℕ) (x0 : c.x0 ≤ w) (y0 : c.y0 ≤ w) (x1 : c.x1 ≤ w) (y1 : c.y1 ≤ w) where
  corners : (q : Quad) → ((child_of i q c).x0 ≤ w) × ((child_of i q c).y0 ≤ w) × ((child_of i q c).x1 ≤ w) × ((child_of i q c).y1 ≤ w)
  corners sw = (omega arith, omega arith, omega arith, omega arith)
  corners se = (omega arith, omega arith, omega arith, omega arith)
  corners nw = (omega arith, omega arith, omega arith, omega arith)
  corners ne = (omega arith, omega arith, omega arith, omega arith)

-- ---- child k of cell i in slot j, number by number

pub record KidAt (t : List ℤ) (i j k : ℕ) : Type 0 where
  pub x0 : start t j ≡ on (child_of i (quad_at k) (cell_at t i)).x0
  pub y0 : number t j 1 ≡ on (child_of i (quad_at k) (cell_at t i)).y0
  pub x1 : number t j 2 ≡ on (child_of i (quad_at k) (cell_at t i)).x1
  pub y1 : number t j 3 ≡ on (child_of i (quad_at k) (cell_at t i)).y1
  pub level : number t j 4 ≡ pos ((cell_at t i).level + 1)
  pub parent : number t j 5 ≡ pos i
  pub poly : number t j 7 ≡ number t i 7

module _ (t : List ℤ) (i j k : ℕ) where
  abbrev kid : Held.Cell
  kid = child_of i (quad_at k) (cell_at t i)

  kid-facts : kid_at t i (cell_at t i) j (quad_at k) ≡ true → KidAt t i j k
  unfolding kid_at
  kid-facts e =
      let b0 = same_z (start t j) (on kid.x0) in
      let b1 = same_z (number t j 1) (on kid.y0) in
      let b2 = same_z (number t j 2) (on kid.x1) in
      let b3 = same_z (number t j 3) (on kid.y1) in
      let b4 = same_z (number t j 4) (pos kid.level) in
      let b5 = same_z (number t j 5) (pos i) in
      let b7 = same_z (number t j 7) (number t i 7) in
      let e5 = and_left (b0 && b1 && b2 && b3 && b4 && b5) b7 e in
      let e4 = and_left (b0 && b1 && b2 && b3 && b4) b5 e5 in
      let e3 = and_left (b0 && b1 && b2 && b3) b4 e4 in
      let e2 = and_left (b0 && b1 && b2) b3 e3 in
      let e1 = and_left (b0 && b1) b2 e2 in
      record {
        x0 = same_true (start t j) (on kid.x0) (and_left b0 b1 e1);
        y0 = same_true (number t j 1) (on kid.y0) (and_right b0 b1 e1);
        x1 = same_true (number t j 2) (on kid.x1) (and_right (b0 && b1) b2 e2);
        y1 = same_true (number t j 3) (on kid.y1) (and_right (b0 && b1 && b2) b3 e3);
        level = same_true (number t j 4) (pos kid.level) (and_right (b0 && b1 && b2 && b3) b4 e4);
        parent = same_true (number t j 5) (pos i) (and_right (b0 && b1 && b2 && b3 && b4) b5 e5);
        poly = same_true (number t j 7) (number t i 7) (and_right (b0 && b1 && b2 && b3 && b4 && b5) b7 e);
      }

  facts-kid : KidAt t i j k → kid_at t i (cell_at t i) j (quad_at k) ≡ true
  unfolding kid_at
  facts-kid w =
      simp (
        true_same (start t j) (on kid.x0) w.x0,
        true_same (number t j 1) (on kid.y0) w.y0,
        true_same (number t j 2) (on kid.x1) w.x1,
        true_same (number t j 3) (on kid.y1) w.y1,
        true_same (number t j 4) (pos kid.level) w.level,
        true_same (number t j 5) (pos i) w.parent,
        true_same (number t j 7) (number t i 7) w.poly,
      )

  -- what is read of it is the child
  kid-read : KidAt t i j k → But (cell_at t j) kid
  unfolding cell_at counted
  kid-read w =
      let c = read-corners t i in
      let b = corners i (cell_at t i) (coordinate + coordinate) c.0 c.1 c.2 c.3 (quad_at k) in
      record {
        x0 = ap off w.x0 ∙ off-on kid.x0 b.0;
        y0 = ap off w.y0 ∙ off-on kid.y0 b.1;
        x1 = ap off w.x1 ∙ off-on kid.x1 b.2;
        y1 = ap off w.y1 ∙ off-on kid.y1 b.3;
        level = ap counted w.level;
        parent = ap counted w.parent;
        poly = ap counted w.poly;
      }

  -- and its numbers are those of a cell, where the parent's are
  kid-held : KidAt t i j k → in_slot t i ≡ true → non_neg (number t j 6) ≡ true → in_slot t j ≡ true
  unfolding in_slot
  kid-held w e f =
      let b =
      in_range (start t i) && in_range (number t i 1) && in_range (number t i 2) && in_range (number t i 3)
      && non_neg (number t i 4) && non_neg (number t i 5) && non_neg (number t i 6) in
      simp (w.x0, w.y0, w.x1, w.y1, w.level, w.parent, f, w.poly, and_right b (non_neg (number t i 7)) e, on-range)

  read-kid : in_slot t i ≡ true → in_slot t j ≡ true → But (cell_at t j) kid → KidAt t i j k
  read-kid e f b =
      let x = exact t j f in
      record {
        x0 = sym x.x0 ∙ ap on b.x0;
        y0 = sym x.y0 ∙ ap on b.y0;
        x1 = sym x.x1 ∙ ap on b.x1;
        y1 = sym x.y1 ∙ ap on b.y1;
        level = sym x.level ∙ ap pos b.level;
        parent = sym x.parent ∙ ap pos b.parent;
        poly = sym x.poly ∙ ap pos b.poly ∙ (exact t i e).poly;
      }

-- ---- the four children of cell p, from slot f on

pub record Four (t : List ℤ) (M p f : ℕ) : Type 0 where
  pub above : p < f
  pub finer : (cell_at t p).level < M
  pub first : number t p 6 ≡ pos f
  pub kids : (k : ℕ) → k < 4 → KidAt t p (f + k) k

module _ (t : List ℤ) (M p f : ℕ) where
  kids-facts : kids_at t M p f ≡ true → ((cell_at t p).level < M) × ((k : ℕ) → k < 4 → KidAt t p (f + k) k)
  unfolding kids_at
  kids-facts e =
      let l = ltb (cell_at t p).level M in
      let b0 = kid_at t p (cell_at t p) f sw in
      let b1 = kid_at t p (cell_at t p) (f + 1) se in
      let b2 = kid_at t p (cell_at t p) (f + 2) nw in
      let b3 = kid_at t p (cell_at t p) (f + 3) ne in
      let e3 = and_right l (b0 && b1 && b2 && b3) e in
      let e2 = and_left (b0 && b1 && b2) b3 e3 in
      let e1 = and_left (b0 && b1) b2 e2 in (
        ltb-true (cell_at t p).level M (and_left l (b0 && b1 && b2 && b3) e),
        by (and_left b0 b1 e1) (and_right b0 b1 e1) (and_right (b0 && b1) b2 e2) (and_right (b0 && b1 && b2) b3 e3),
      )
    where
      by : kid_at t p (cell_at t p) f sw ≡ true → kid_at t p (cell_at t p) (f + 1) se ≡ true → kid_at t p (cell_at t p) (f + 2) nw ≡ true → kid_at t p (cell_at t p) (f + 3) ne ≡ true
          → (k : ℕ) → k < 4 → KidAt t p (f + k) k
      by a b c d zero h = subst (λ (j : ℕ). KidAt t p j 0) (sym (add-zero f)) (kid-facts t p f 0 a)
      by a b c d (suc zero) h = kid-facts t p (f + 1) 1 b
      by a b c d (suc (suc zero)) h = kid-facts t p (f + 2) 2 c
      by a b c d (suc (suc (suc zero))) h = kid-facts t p (f + 3) 3 d
      by a b c d (suc (suc (suc (suc k)))) h = absurd (omega arith)

  facts-kids : Four t M p f → kids_at t M p f ≡ true
  unfolding kids_at
  facts-kids w =
      simp (
        lt-ltb (cell_at t p).level M w.finer,
        facts-kid t p f 0 (subst (λ (j : ℕ). KidAt t p j 0) (add-zero f) (w.kids 0 (omega arith))),
        facts-kid t p (f + 1) 1 (w.kids 1 (omega arith)),
        facts-kid t p (f + 2) 2 (w.kids 2 (omega arith)),
        facts-kid t p (f + 3) 3 (w.kids 3 (omega arith)),
      )

-- ---- what the walk finds of cell i: a root, or one of four that end at e or before; its first child, if any, names it

pub record RootAt (t : List ℤ) (M i : ℕ) : Type 0 where
  pub parent : number t i 5 ≡ pos no_cell
  pub held : in_slot t i ≡ true
  pub polygon : (cell_at t i).poly < max_polygons
  pub sides : root_ok (2 ^ (M + 1)) (cell_at t i) ≡ true

pub record ChildAt (t : List ℤ) (M e i : ℕ) : Type 0 where
  pub parent : ℕ
  pub first : ℕ
  pub low : first ≤ i
  pub high : i < first + 4
  pub end : first + 4 ≤ e
  pub four : Four t M parent first

pub record NamedAt (t : List ℤ) (n i : ℕ) : Type 0 where
  pub first : ℕ
  pub here : number t i 6 ≡ pos first
  pub below : first < n
  pub back : number t first 5 ≡ pos i

pub record Found (t : List ℤ) (n M e i : ℕ) : Type 0 where
  pub place : RootAt t M i ⊎ ChildAt t M e i
  pub led : (number t i 6 ≡ pos no_cell) ⊎ NamedAt t n i

-- its own number says which child of whom it is
module _ (t : List ℤ) (M e i : ℕ) (c : ChildAt t M e i) where
  as-kid : KidAt t c.parent i (i - c.first)
  as-kid =
      let l = c.low in
      let h = c.high in
      let d : c.first + (i - c.first) ≡ i = omega arith in
      subst (λ (j : ℕ). KidAt t c.parent j (i - c.first)) d (c.four.kids (i - c.first) (omega arith))

  later : (e' : ℕ) → e ≤ e' → ChildAt t M e' i
  later e' h =
      let d = c.end in
      record { parent = c.parent; first = c.first; low = c.low; high = c.high; end = omega arith; four = c.four }

module _ (t : List ℤ) (n i : ℕ) where
  abbrev f : ℕ
  f = (cell_at t i).first

  led-facts : led_at t n i ≡ true → (number t i 6 ≡ pos no_cell) ⊎ NamedAt t n i
  unfolding led_at cell_at
  led-facts e = by (eqb f no_cell) refl (ltb f n) refl
    where
      named : ltb i f ≡ true → same_z (number t f 5) (pos i) ≡ true → f < n → NamedAt t n i
      named l b h =
          let a = ltb-true i f l in
          record { first = f; here = positive (number t i 6) (omega arith); below = h; back = same_true (number t f 5) (pos i) b }

      by : (x : Bool) → eqb f no_cell ≡ x → (y : Bool) → ltb f n ≡ y → (number t i 6 ≡ pos no_cell) ⊎ NamedAt t n i
      by true d y g = let c = eqb-true f no_cell d in inl (positive (number t i 6) (omega arith) ∙ ap pos c)
      by false d true g =
          let b : (ltb i f && same_z (number t f 5) (pos i)) ≡ true = rw (d, g) at e in
          inr (named (and_left (ltb i f) (same_z (number t f 5) (pos i)) b) (and_right (ltb i f) (same_z (number t f 5) (pos i)) b) (ltb-true f n g))
      by false d false g =
          let b : (ltb i i && same_z (number t i 5) (pos i)) ≡ true = rw (d, g) at e in
          let a = ltb-true i i (and_left (ltb i i) (same_z (number t i 5) (pos i)) b) in
          absurd (omega arith)

  none-led : (cell_at t i).first ≡ no_cell → led_at t n i ≡ true
  unfolding led_at
  none-led e = rw (eq-eqb (cell_at t i).first no_cell e)

  named-led : i < (cell_at t i).first → (cell_at t i).first < n → number t (cell_at t i).first 5 ≡ pos i → led_at t n i ≡ true
  unfolding led_at
  named-led l h e =
      let f = (cell_at t i).first in
      rw (lt-ltb f n h, lt-ltb i f l, true_same (number t f 5) (pos i) e) (either (eqb f no_cell))
    where
      either : (x : Bool) → (x || true) ≡ true
      either true = refl
      either false = refl

-- ---- from what the walk finds to the test of every cell

module _ (t : List ℤ) (n M : ℕ) (small : n ≤ max_slots) (all : (i : ℕ) → i < n → Found t n M n i) where
  natural-first : (i : ℕ) → i < n → non_neg (number t i 6) ≡ true
  natural-first i h =
      ⊎_elim (λ (e : number t i 6 ≡ pos no_cell). rw e refl) (λ (w : NamedAt t n i). rw w.here refl) (all i h).led

  -- a cell that the first child names has four
  four-of : (i : ℕ) → i < n → (cell_at t i).first ≢ no_cell → Four t M i (cell_at t i).first × ((cell_at t i).first + 4 ≤ n)
  unfolding cell_at counted
  four-of i h o =
      ⊎_elim
      (λ (e : number t i 6 ≡ pos no_cell). absurd (o (ap counted e)))
      (λ (w : NamedAt t n i).
      let same : (cell_at t i).first ≡ w.first = ap counted w.here in
      ⊎_elim
      (λ (r : RootAt t M w.first). let e : i ≡ no_cell = pos-is i no_cell (sym w.back ∙ r.parent) in absurd (omega arith))
      (λ (c : ChildAt t M n w.first).
      let p : c.parent ≡ i = pos-is c.parent i (sym (as-kid t M n w.first c).parent ∙ w.back) in
      let f : c.first ≡ (cell_at t i).first = pos-is c.first (cell_at t i).first (sym c.four.first ∙ ap (λ (j : ℕ). number t j 6) p ∙ w.here ∙ ap pos (sym same)) in
      let e = c.end in
      (subst (λ (q : ℕ). Four t M q (cell_at t i).first) p (subst (Four t M c.parent) f c.four), omega arith))
      (all w.first w.below).place)
      (all i h).led

  kids-ok : (i : ℕ) → i < n → kids_ok t n M i (cell_at t i) ≡ true
  kids-ok i h =
      facts-split t n M small i h (λ o.
      let w = four-of i h o in
      let four = w.0 in
      record {
        above = four.above;
        below = rw length-table w.1;
        finer = rw (at_table t n i h) four.finer;
        kid = λ q.
            (let m = num-below q in
            but-kid t n M small i ((cell_at t i).first + num q) q h (let b = w.1 in omega arith)
            (subst (λ (r : Quad). But (cell_at t ((cell_at t i).first + num q)) (child_of i r (cell_at t i))) (quad-num q)
            (kid-read t i ((cell_at t i).first + num q) (num q) (four.kids (num q) m))));
      })

  place_ok_lem : (i : ℕ) → i < n → place_ok t n (2 ^ (M + 1)) i (cell_at t i) ≡ true
  unfolding place_ok born_ok cell_at counted
  place_ok_lem i h =
      ⊎_elim
      (λ (r : RootAt t M i). rw (eq-eqb (cell_at t i).parent no_cell (ap counted r.parent)) r.sides)
      (λ (c : ChildAt t M n i).
      let p : (cell_at t i).parent ≡ c.parent = ap counted (as-kid t M n i c).parent in
      let f : (cell_at t c.parent).first ≡ c.first = ap counted c.four.first in
      let a = c.four.above in
      let l = c.low in
      let g = c.high in
      rw (p, f, ne_eqb c.parent no_cell (λ e. omega arith), lt-ltb c.parent n (omega arith), le-leb c.first i l, lt-ltb i (c.first + 4) g))
      (all i h).place

  -- the rest of a cell's test; a child's comes from its parent's
  record Own (i : ℕ) : Type 0 where
    pub held : in_slot t i ≡ true
    pub level : (cell_at t i).level ≤ M
    pub polygon : (cell_at t i).poly < max_polygons

  root-own : (i : ℕ) → RootAt t M i → Own i
  unfolding root_ok
  root-own i r =
      let c = cell_at t i in
      let s = 2 ^ (M + 1) in
      let z = eqb c.level 0 in
      let x = side_ok s c.x0 c.x1 in
      let y = side_ok s c.y0 c.y1 in
      let l = eqb-true c.level 0 (and_left z x (and_left (z && x) y r.sides)) in
      record { held = r.held; level = omega arith; polygon = r.polygon }

  child-own : (i : ℕ) → i < n → (c : ChildAt t M n i) → Own c.parent → Own i
  child-own i h c w =
      let k = as-kid t M n i c in
      let r = kid-read t c.parent i (i - c.first) k in
      let l = c.four.finer in
      record {
        held = kid-held t c.parent i (i - c.first) k w.held (natural-first i h);
        level = rw r.level (omega arith);
        polygon = rw r.poly w.polygon;
      }

  own : (b i : ℕ) → i < b → i < n → Own i
  own zero i h l = absurd (omega arith)
  own (suc b) i h l =
      ⊎_elim
      (λ (r : RootAt t M i). root-own i r)
      (λ (c : ChildAt t M n i).
      let a = c.four.above in
      let d = c.low in
      child-own i l c (own b c.parent (omega arith) (omega arith)))
      (all i l).place

  pub found-cells : cells_ok t n M ≡ true
  found-cells =
      facts-cells_ok t n M (λ i h.
      let w = own (suc i) i (omega arith) h in
      record { held = w.held; level = w.level; polygon = w.polygon; place = place_ok_lem i h; kids = kids-ok i h })

-- ---- where every cell passes its test the walk goes on

module _ (t : List ℤ) (n M : ℕ) (small : n ≤ max_slots) (all : (i : ℕ) → i < n → CellFacts t n M i) where
  split-four : (p : ℕ) → p < n → (cell_at t p).first ≢ no_cell → Four t M p (cell_at t p).first × ((cell_at t p).first + 4 ≤ n)
  split-four p h o =
      let s = split-facts t n M small p h (all p h).kids o in
      let b : (cell_at t p).first + 4 ≤ n = rw length-table at s.below in (
        record {
          above = s.above;
          finer = rw (at_table t n p h) at s.finer;
          first = sym (exact t p (all p h).held).first;
          kids = λ k l.
              (let g : (cell_at t p).first + k < n = omega arith in
              read-kid t p ((cell_at t p).first + k) k (all p h).held (all ((cell_at t p).first + k) g).held
              (kid-but t n M small p ((cell_at t p).first + k) (quad_at k) h g
              (subst (λ (m : ℕ). Kid (table t n) p (quad_at k) ((cell_at t p).first + m)) (num-quad k l) (s.kid (quad_at k)))));
        },
        b,
      )

  led : (i : ℕ) → i < n → led_at t n i ≡ true
  led i h = by (eqb (cell_at t i).first no_cell) refl
    where
      by : (x : Bool) → eqb (cell_at t i).first no_cell ≡ x → led_at t n i ≡ true
      by true e = none-led t n i (eqb-true (cell_at t i).first no_cell e)
      by false e =
          let w = split-four i h (eqb-false (cell_at t i).first no_cell e) in
          let b = w.1 in
          named-led t n i w.0.above (omega arith)
          (subst (λ (j : ℕ). number t j 5 ≡ pos i) (add-zero (cell_at t i).first) (w.0.kids 0 (omega arith)).parent)

  pub root-here : (i : ℕ) → i < n → (cell_at t i).parent ≡ no_cell → root_at t n (2 ^ (M + 1)) i ≡ true
  unfolding root_at place_ok
  root-here i h e =
      let c = all i h in
      let s : root_ok (2 ^ (M + 1)) (cell_at t i) ≡ true = rw (eq-eqb (cell_at t i).parent no_cell e) at c.place in
      rw (c.held, lt-ltb (cell_at t i).poly max_polygons c.polygon, s, led i h)

  module _ (i : ℕ) (h : i < n) (o : (cell_at t i).parent ≢ no_cell) (walked : (j : ℕ) → j < i → Found t n M i j) where
    abbrev p : ℕ
    p = (cell_at t i).parent

    born : (p < n) × ((cell_at t p).first ≤ i) × (i < (cell_at t p).first + 4)
    unfolding place_ok born_ok
    born =
        let x = ltb p n in
        let y = leb (cell_at t p).first i in
        let z = ltb i ((cell_at t p).first + 4) in
        let e : (x && y && z) ≡ true = rw (ne_eqb p no_cell o) at (all i h).place in
        let d = and_left (x && y) z e in
        (ltb-true p n (and_left x y d), leb-true (cell_at t p).first i (and_right x y d), ltb-true i ((cell_at t p).first + 4) (and_right (x && y) z e))

    its-four : Four t M p (cell_at t p).first × ((cell_at t p).first + 4 ≤ n)
    its-four =
        let b = born in
        let l = b.1 in
        split-four p b.0 (λ e. omega arith)

    -- no four that the walk has passed ends behind it, so the four of cell i begin here
    begins : (cell_at t p).first ≡ i
    begins =
        let f = (cell_at t p).first in
        let w = its-four in
        let here : number t f 5 ≡ pos p = subst (λ (j : ℕ). number t j 5 ≡ pos p) (add-zero f) (w.0.kids 0 (omega arith)).parent in
        let b = born in
        let low = b.1 in
        let high = b.2 in
        by_cases (dec_lt f i)
        (λ l. ⊎_elim
        (λ (r : RootAt t M f). absurd (o (pos-is p no_cell (sym here ∙ r.parent))))
        (λ (c : ChildAt t M i f).
        let q : c.parent ≡ p = pos-is c.parent p (sym (as-kid t M i f c).parent ∙ here) in
        let e : c.first ≡ f = pos-is c.first f (sym c.four.first ∙ ap (λ (j : ℕ). number t j 6) q ∙ w.0.first) in
        let d = c.end in
        absurd (omega arith))
        (walked f l).place)
        (λ l. omega arith)

    pub four-here : four_at t n M i p ≡ true
    unfolding four_at
    four-here =
        let w = its-four in
        let e = begins in
        let b = w.1 in
        let g : i + 4 ≤ n = omega arith in
        let four = subst (Four t M p) e w.0 in
        rw (
          le-leb (i + 4) n g,
          lt-ltb p i four.above,
          true_same (number t p 6) (pos i) four.first,
          facts-kids t M p i four,
          led i h,
          led (i + 1) (omega arith),
          led (i + 2) (omega arith),
          led (i + 3) (omega arith),
        )

-- ---- one step of the walk

-- from i to m, over so many roots
pub record Next (t : List ℤ) (n M i m roots : ℕ) : Type 0 where
  pub more : i < m
  pub within : m ≤ n
  pub found : (j : ℕ) → j < m → Found t n M m j
  pub counted : root_count (table t m) ≡ root_count (table t i) + roots

module _ (t : List ℤ) (n M i : ℕ) (h : i < n) (walked : (j : ℕ) → j < i → Found t n M i j) where
  grown : (m : ℕ) → i ≤ m → (j : ℕ) → j < i → Found t n M m j
  grown m l j g =
      let w = walked j g in
      record {
        place = ⊎_elim (λ (r : RootAt t M j). inl r) (λ (c : ChildAt t M i j). inr (later t M i j c m l)) w.place;
        led = w.led;
      }

  pub root-next : root_at t n (2 ^ (M + 1)) i ≡ true → (cell_at t i).parent ≡ no_cell → Next t n M i (i + 1) 1
  unfolding root_at cell_at
  root-next e p =
      let b0 = in_slot t i in
      let b1 = ltb (cell_at t i).poly max_polygons in
      let b2 = root_ok (2 ^ (M + 1)) (cell_at t i) in
      let b3 = led_at t n i in
      let e2 = and_left (b0 && (b1 && b2)) b3 e in
      let e1 = and_right b0 (b1 && b2) e2 in
      let root : Found t n M (i + 1) i =
      record {
        place = inl (record {
          parent = positive (number t i 5) (omega arith) ∙ ap pos p;
          held = and_left b0 (b1 && b2) e2;
          polygon = ltb-true (cell_at t i).poly max_polygons (and_left b1 b2 e1);
          sides = and_right b1 b2 e1;
        });
        led = led-facts t n i (and_right (b0 && (b1 && b2)) b3 e);
      } in
      record {
        more = omega arith;
        within = omega arith;
        found = λ j g.
            by_cases (dec_lt j i)
            (λ l. grown (i + 1) (omega arith) j l)
            (λ l. subst (Found t n M (i + 1)) (let d : i ≡ j = omega arith in d) root);
        counted = root_more-yes t i p;
      }

  pub four-next : four_at t n M i (cell_at t i).parent ≡ true → (cell_at t i).parent ≢ no_cell → Next t n M i (i + 4) 0
  unfolding four_at cell_at counted
  four-next e born =
      let p = (cell_at t i).parent in
      let b0 = leb (i + 4) n in
      let b1 = ltb p i in
      let s = same_z (number t p 6) (pos i) in
      let k = kids_at t M p i in
      let l0 = led_at t n i in
      let l1 = led_at t n (i + 1) in
      let l2 = led_at t n (i + 2) in
      let l3 = led_at t n (i + 3) in
      let front = and_left (b0 && b1 && (s && k)) (l0 && l1 && l2 && l3) e in
      let same = and_right (b0 && b1) (s && k) front in
      let low = and_left (b0 && b1) (s && k) front in
      let a3 = and_right (b0 && b1 && (s && k)) (l0 && l1 && l2 && l3) e in
      let a2 = and_left (l0 && l1 && l2) l3 a3 in
      let a1 = and_left (l0 && l1) l2 a2 in
      let kids = kids-facts t M p i (and_right s k same) in
      let four : Four t M p i =
      record {
        above = ltb-true p i (and_right b0 b1 low);
        finer = kids.0;
        first = same_true (number t p 6) (pos i) (and_left s k same);
        kids = kids.1;
      } in
      let leds = each (and_left l0 l1 a1) (and_right l0 l1 a1) (and_right (l0 && l1) l2 a2) (and_right (l0 && l1 && l2) l3 a3) in
      record {
        more = omega arith;
        within = leb-true (i + 4) n (and_left b0 b1 low);
        found = λ j g.
            by_cases (dec_lt j i)
            (λ l. grown (i + 4) (omega arith) j l)
            (λ l.
            let d : i + (j - i) ≡ j = omega arith in
            record {
              place = inr (record { parent = p; first = i; low = omega arith; high = g; end = omega arith; four = four });
              led = led-facts t n j (subst (λ (m : ℕ). led_at t n m ≡ true) d (leds (j - i) (omega arith)));
            });
        counted =
            root_more-four t i (λ k l o. born (sym (ap counted (four.kids k l).parent) ∙ o)) ∙ sym (add-zero (root_count (table t i)));
      }
    where
      each : led_at t n i ≡ true → led_at t n (i + 1) ≡ true → led_at t n (i + 2) ≡ true → led_at t n (i + 3) ≡ true → (k : ℕ) → k < 4 → led_at t n (i + k) ≡ true
      each a b c d zero g = subst (λ (m : ℕ). led_at t n m ≡ true) (sym (add-zero i)) a
      each a b c d (suc zero) g = b
      each a b c d (suc (suc zero)) g = c
      each a b c d (suc (suc (suc zero))) g = d
      each a b c d (suc (suc (suc (suc k)))) g = absurd (omega arith)
