-- The test of well-formedness says yes exactly if the rules' definition holds. Assumes nothing.
use Rattle.std.proofs.Common.{ℕ, zero, suc, ◌+◌, ◌*◌, ◌-◌, ◌/◌, ◌%◌, ◌^◌, ◌<◌, ◌≤◌, ◌≡◌, refl, sym, ap, subst, ◌∙◌, Bool, true, false, ◌&&◌, cond, None, Some, List, ◌≢◌, arith, add-one, div-add-mod', suc-mul, zero-mul, ltb, leb, eqb, ℤ, pos, length, get_or, ltb-true, leb-true, eqb-true, lt-ltb, le-leb, eq-eqb, ne_eqb}
use native.Mathlib.Nat.{mul-mod_left, one-le-pow}
use borrow.Author.Tests.{eqb-false}
use Rattle.std.specs.Prelude.{if◌then◌else◌}
use Rattle.refusals.specs.Limits.{max_slots}
use Rattle.cell.specs.Boxes.{Box, Quad, sw, se, nw, ne, num, quad_at, quadrant}
use Rattle.cell.specs.declared.Cell as Held
use Rattle.cell.specs.Cells.{no_cell, box_of, child_of}
use Rattle.table.specs.declared.Head.{Head}
use Rattle.table.specs.Slots.{cell_at}
use Rattle.table.specs.Mesh.{Cell, at, table, opt, mesh_cell}
use Rattle.table.specs.Formed.{Kid, Split, Born, Root, Formed, WellFormed, rest_zero, side_ok, root_ok, born_ok, same_but, kid_ok, kids_ok, place_ok, well_formed}
use Rattle.table.proofs.All.{and_left, and_right, and_both}
use Rattle.table.proofs.Numbers.{same_true, true_same}
use Rattle.table.proofs.Zeros.{zeros, of-zeros}
use Rattle.table.proofs.Shape.{of-shape, formed-parts, parts-formed, formed-shape}
use Rattle.table.proofs.Facts.{CellFacts, facts-cells_ok, formed-cell}
use Rattle.table.proofs.Cells.{length-table, at_table}
use Rattle.table.proofs.Meshes.{not_some, some_is, num-below, kids-in, root_in}

-- ---- small laws

pub opt-some : (v : ℕ) → v ≢ no_cell → opt v ≡ Some v
opt-some v h = ap (λ (b : Bool). if b then None else Some v) (ne_eqb v no_cell h)

pub opt_none : (v : ℕ) → v ≡ no_cell → opt v ≡ None
opt_none v h = ap (λ (b : Bool). if b then None else Some v) (eq-eqb v no_cell h)

pub some-opt : (v f : ℕ) → opt v ≡ Some f → (v ≡ f) × (v ≢ no_cell)
some-opt v f e = by (eqb v no_cell) refl
  where
    by : (b : Bool) → eqb v no_cell ≡ b → (v ≡ f) × (v ≢ no_cell)
    by true d = not_some (opt v) f (opt_none v (eqb-true v no_cell d)) e
    by false d = let n = eqb-false v no_cell d in (some_is (opt v) v f (opt-some v n) e, n)

pub none-opt : (v : ℕ) → opt v ≡ None → v ≡ no_cell
none-opt v e = by (eqb v no_cell) refl
  where
    by : (b : Bool) → eqb v no_cell ≡ b → v ≡ no_cell
    by true d = eqb-true v no_cell d
    by false d = not_some (opt v) v e (opt-some v (eqb-false v no_cell d))

pub num-quad : (k : ℕ) → k < 4 → num (quad_at k) ≡ k
num-quad zero h = refl
num-quad (suc zero) h = refl
num-quad (suc (suc zero)) h = refl
num-quad (suc (suc (suc k))) h = omega arith

pub quad-num : (q : Quad) → quad_at (num q) ≡ q
quad-num sw = refl
quad-num se = refl
quad-num nw = refl
quad-num ne = refl

-- what the code that puts a child needs
pub ruleset quadrants = (quad-num, num-below)

-- ---- a root's sides

module _ (step a b : ℕ) where
  pub side-facts : side_ok step a b ≡ true → (m : ℕ) × (b ≡ a + suc m * step)
  unfolding side_ok
  side-facts e =
      let l = ltb-true a b (and_left (ltb a b) (eqb ((b - a) % step) 0) e) in
      let r = eqb-true ((b - a) % step) 0 (and_right (ltb a b) (eqb ((b - a) % step) 0) e) in
      by l r ((b - a) / step) refl
    where
      by : a < b → (b - a) % step ≡ 0 → (q : ℕ) → (b - a) / step ≡ q → (m : ℕ) × (b ≡ a + suc m * step)
      by l r zero d = absurd (omega (arith, div-add-mod' (b - a) step, ap (λ (x : ℕ). x * step) d, zero-mul step))
      by l r (suc m) d = (m, omega (arith, div-add-mod' (b - a) step, ap (λ (x : ℕ). x * step) d))

  pub facts-side : 0 < step → (m : ℕ) × (b ≡ a + suc m * step) → side_ok step a b ≡ true
  unfolding side_ok
  facts-side h (m, e) =
      let d : b - a ≡ suc m * step = omega arith in
      and_both (ltb a b) (eqb ((b - a) % step) 0)
      (lt-ltb a b (omega (arith, suc-mul m step)))
      (eq-eqb ((b - a) % step) 0 (ap (λ (x : ℕ). x % step) d ∙ mul-mod_left (suc m) step))

module _ (M : ℕ) (c : Held.Cell) where
  pub root-facts : root_ok (2 ^ (M + 1)) c ≡ true → Root M (mesh_cell c)
  unfolding root_ok
  root-facts e =
      let s = 2 ^ (M + 1) in
      let z = eqb c.level 0 in
      let x = side_ok s c.x0 c.x1 in
      let y = side_ok s c.y0 c.y1 in
      let a = and_left (z && x) y e in
      record {
        level = eqb-true c.level 0 (and_left z x a);
        wide = side-facts s c.x0 c.x1 (and_right z x a);
        high = side-facts s c.y0 c.y1 (and_right (z && x) y e);
      }

  pub facts-root : Root M (mesh_cell c) → root_ok (2 ^ (M + 1)) c ≡ true
  unfolding root_ok
  facts-root r =
      let s = 2 ^ (M + 1) in
      let p = one-le-pow (M + 1) 2 (omega arith) in
      simp (eq-eqb c.level 0 r.level, facts-side s c.x0 c.x1 p r.wide, facts-side s c.y0 c.y1 p r.high)

-- ---- a child's numbers

pub record But (a b : Held.Cell) : Type 0 where
  pub x0 : a.x0 ≡ b.x0
  pub y0 : a.y0 ≡ b.y0
  pub x1 : a.x1 ≡ b.x1
  pub y1 : a.y1 ≡ b.y1
  pub level : a.level ≡ b.level
  pub parent : a.parent ≡ b.parent
  pub poly : a.poly ≡ b.poly

module _ (a b : Held.Cell) where
  pub but-facts : same_but a b ≡ true → But a b
  unfolding same_but
  but-facts e =
      let e1 = eqb a.x0 b.x0 in
      let e2 = eqb a.y0 b.y0 in
      let e3 = eqb a.x1 b.x1 in
      let e4 = eqb a.y1 b.y1 in
      let e5 = eqb a.level b.level in
      let e6 = eqb a.parent b.parent in
      let e7 = eqb a.poly b.poly in
      let t6 = and_left (e1 && e2 && e3 && e4 && e5 && e6) e7 e in
      let t5 = and_left (e1 && e2 && e3 && e4 && e5) e6 t6 in
      let t4 = and_left (e1 && e2 && e3 && e4) e5 t5 in
      let t3 = and_left (e1 && e2 && e3) e4 t4 in
      let t2 = and_left (e1 && e2) e3 t3 in
      record {
        x0 = eqb-true a.x0 b.x0 (and_left e1 e2 t2);
        y0 = eqb-true a.y0 b.y0 (and_right e1 e2 t2);
        x1 = eqb-true a.x1 b.x1 (and_right (e1 && e2) e3 t3);
        y1 = eqb-true a.y1 b.y1 (and_right (e1 && e2 && e3) e4 t4);
        level = eqb-true a.level b.level (and_right (e1 && e2 && e3 && e4) e5 t5);
        parent = eqb-true a.parent b.parent (and_right (e1 && e2 && e3 && e4 && e5) e6 t6);
        poly = eqb-true a.poly b.poly (and_right (e1 && e2 && e3 && e4 && e5 && e6) e7 e);
      }

  pub facts-but : But a b → same_but a b ≡ true
  unfolding same_but
  facts-but f =
      simp (
        eq-eqb a.x0 b.x0 f.x0,
        eq-eqb a.y0 b.y0 f.y0,
        eq-eqb a.x1 b.x1 f.x1,
        eq-eqb a.y1 b.y1 f.y1,
        eq-eqb a.level b.level f.level,
        eq-eqb a.parent b.parent f.parent,
        eq-eqb a.poly b.poly f.poly,
      )

-- ---- the tests of one cell of the table
module _ (t : List ℤ) (n M : ℕ) (small : n ≤ max_slots) where
  -- cell j as the child of cell i in a quadrant
  module _ (i j : ℕ) (q : Quad) (hi : i < n) (hj : j < n) where
    here : at (table t n) i ≡ mesh_cell (cell_at t i)
    here = at_table t n i hi

    there : at (table t n) j ≡ mesh_cell (cell_at t j)
    there = at_table t n j hj

    pub but-kid : But (cell_at t j) (child_of i q (cell_at t i)) → Kid (table t n) i q j
    but-kid b =
        record {
          box = ap (λ (c : Cell). c.box) there ∙ (λ x. record { x0 = b.x0 x; y0 = b.y0 x; x1 = b.x1 x; y1 = b.y1 x }) ∙ ap (λ (c : Cell). quadrant c.box q) (sym here);
          level = ap (λ (c : Cell). c.level) there ∙ b.level ∙ add-one (cell_at t i).level ∙ ap (λ (c : Cell). suc c.level) (sym here);
          parent = ap (λ (c : Cell). c.parent) there ∙ ap opt b.parent ∙ opt-some i (omega arith);
          polygon = ap (λ (c : Cell). c.polygon) there ∙ b.poly ∙ ap (λ (c : Cell). c.polygon) (sym here);
        }

    pub kid-but : Kid (table t n) i q j → But (cell_at t j) (child_of i q (cell_at t i))
    kid-but k =
        let e : box_of (cell_at t j) ≡ quadrant (box_of (cell_at t i)) q = sym (ap (λ (c : Cell). c.box) there) ∙ k.box ∙ ap (λ (c : Cell). quadrant c.box q) here in
        record {
          x0 = ap (λ (b : Box). b.x0) e;
          y0 = ap (λ (b : Box). b.y0) e;
          x1 = ap (λ (b : Box). b.x1) e;
          y1 = ap (λ (b : Box). b.y1) e;
          level = sym (ap (λ (c : Cell). c.level) there) ∙ k.level ∙ ap (λ (c : Cell). suc c.level) here ∙ sym (add-one (cell_at t i).level);
          parent = (some-opt (cell_at t j).parent i (sym (ap (λ (c : Cell). c.parent) there) ∙ k.parent)).0;
          poly = sym (ap (λ (c : Cell). c.polygon) there) ∙ k.polygon ∙ ap (λ (c : Cell). c.polygon) here;
        }

  module _ (i : ℕ) (hi : i < n) where
    this : at (table t n) i ≡ mesh_cell (cell_at t i)
    this = at_table t n i hi

    abbrev first : ℕ
    first = (cell_at t i).first

    split_parts : ltb i first ≡ true → leb (first + 4) n ≡ true → ltb (cell_at t i).level M ≡ true → ((q : Quad) → kid_ok t i (cell_at t i) (num q) ≡ true)
        → Split M (table t n) i first
    unfolding kid_ok
    split_parts a b l k =
        let below = leb-true (first + 4) n b in
        record {
          above = ltb-true i first a;
          below = rw length-table below;
          finer = rw this (ltb-true (cell_at t i).level M l);
          kid = λ q.
              but-kid i (first + num q) q hi (let m = num-below q in omega arith)
              (subst (λ (r : Quad). But (cell_at t (first + num q)) (child_of i r (cell_at t i))) (quad-num q)
              (but-facts (cell_at t (first + num q)) (child_of i (quad_at (num q)) (cell_at t i)) (k q)));
        }

    pub split-facts : kids_ok t n M i (cell_at t i) ≡ true → first ≢ no_cell → Split M (table t n) i first
    unfolding kids_ok
    split-facts e o =
        let a = ltb i first in
        let b = leb (first + 4) n in
        let l = ltb (cell_at t i).level M in
        let k0 = kid_ok t i (cell_at t i) 0 in
        let k1 = kid_ok t i (cell_at t i) 1 in
        let k2 = kid_ok t i (cell_at t i) 2 in
        let k3 = kid_ok t i (cell_at t i) 3 in
        let e7 : (a && b && l && k0 && k1 && k2 && k3) ≡ true = rw (ne_eqb first no_cell o) at e in
        let e6 = and_left (a && b && l && k0 && k1 && k2) k3 e7 in
        let e5 = and_left (a && b && l && k0 && k1) k2 e6 in
        let e4 = and_left (a && b && l && k0) k1 e5 in
        let e3 = and_left (a && b && l) k0 e4 in
        let e2 = and_left (a && b) l e3 in
        let kid : (q : Quad) → kid_ok t i (cell_at t i) (num q) ≡ true = elim [ sw ↦ and_right (a && b && l) k0 e4 | se ↦ and_right (a && b && l && k0) k1 e5 | nw ↦ and_right (a && b && l && k0 && k1) k2 e6 | ne ↦ and_right (a && b && l && k0 && k1 && k2) k3 e7 ] in
        split_parts (and_left a b e2) (and_right a b e2) (and_right (a && b) l e3) kid

    facts-kid : Split M (table t n) i first → (k : ℕ) → k < 4 → kid_ok t i (cell_at t i) k ≡ true
    unfolding kid_ok
    facts-kid s k h =
        let b = rw length-table at s.below in
        let e = num-quad k h in
        facts-but (cell_at t (first + k)) (child_of i (quad_at k) (cell_at t i))
        (kid-but i (first + k) (quad_at k) hi (omega arith) (subst (λ (m : ℕ). Kid (table t n) i (quad_at k) (first + m)) e (s.kid (quad_at k))))

    pub facts-split : (first ≢ no_cell → Split M (table t n) i first) → kids_ok t n M i (cell_at t i) ≡ true
    unfolding kids_ok
    facts-split f = by (eqb first no_cell) refl
      where
        by : (b : Bool) → eqb first no_cell ≡ b
            → cond b true (ltb i first && leb (first + 4) n && ltb (cell_at t i).level M && kid_ok t i (cell_at t i) 0 && kid_ok t i (cell_at t i) 1 && kid_ok t i (cell_at t i) 2 && kid_ok t i (cell_at t i) 3) ≡ true
        by true d = refl
        by false d =
            let s = f (eqb-false first no_cell d) in
            simp (
              lt-ltb i first s.above,
              le-leb (first + 4) n (rw length-table at s.below),
              lt-ltb (cell_at t i).level M (rw this at s.finer),
              facts-kid s 0 (omega arith),
              facts-kid s 1 (omega arith),
              facts-kid s 2 (omega arith),
              facts-kid s 3 (omega arith),
            )

    abbrev parent : ℕ
    parent = (cell_at t i).parent

    pub born-facts : born_ok t n i parent ≡ true → Born (table t n) i parent
    unfolding born_ok
    born-facts e =
        let x = ltb parent n in
        let y = leb (cell_at t parent).first i in
        let z = ltb i ((cell_at t parent).first + 4) in
        let d = and_left (x && y) z e in
        let inside = ltb-true parent n (and_left x y d) in
        let low = leb-true (cell_at t parent).first i (and_right x y d) in
        let high = ltb-true i ((cell_at t parent).first + 4) (and_right (x && y) z e) in
        record {
          first = (cell_at t parent).first;
          place = quad_at (i - (cell_at t parent).first);
          split = ap (λ (c : Cell). c.kids) (at_table t n parent inside) ∙ opt-some (cell_at t parent).first (omega arith);
          here = omega (arith, num-quad (i - (cell_at t parent).first) (omega arith));
        }

    pub facts-born : Born (table t n) i parent → born_ok t n i parent ≡ true
    unfolding born_ok
    facts-born b =
        let inside : parent < n = rw length-table at (kids-in (table t n) parent b.first b.split) in
        let e = (some-opt (cell_at t parent).first b.first (sym (ap (λ (c : Cell). c.kids) (at_table t n parent inside)) ∙ b.split)).0 in
        let m = num-below b.place in
        let h = b.here in
        simp (lt-ltb parent n inside, le-leb (cell_at t parent).first i (omega arith), lt-ltb i ((cell_at t parent).first + 4) (omega arith))

    pub place-root : place_ok t n (2 ^ (M + 1)) i (cell_at t i) ≡ true → parent ≡ no_cell → Root M (mesh_cell (cell_at t i))
    unfolding place_ok
    place-root e d = root-facts M (cell_at t i) (rw (eq-eqb parent no_cell d) at e)

    pub place-born : place_ok t n (2 ^ (M + 1)) i (cell_at t i) ≡ true → parent ≢ no_cell → Born (table t n) i parent
    unfolding place_ok
    place-born e d = born-facts (rw (ne_eqb parent no_cell d) at e)

    pub facts-place : (parent ≡ no_cell → Root M (mesh_cell (cell_at t i))) → (parent ≢ no_cell → Born (table t n) i parent) → place_ok t n (2 ^ (M + 1)) i (cell_at t i) ≡ true
    unfolding place_ok
    facts-place r b = by (eqb parent no_cell) refl
      where
        by : (x : Bool) → eqb parent no_cell ≡ x → cond x (root_ok (2 ^ (M + 1)) (cell_at t i)) (born_ok t n i parent) ≡ true
        by true d = facts-root M (cell_at t i) (r (eqb-true parent no_cell d))
        by false d = facts-born (b (eqb-false parent no_cell d))

-- ---- the whole row

module _ (t : List ℤ) (n : ℕ) where
  pub rest-facts : rest_zero t n ≡ true → (j : ℕ) → n * 8 ≤ j → j < length t → get_or t j (pos 0) ≡ pos 0
  unfolding rest_zero
  rest-facts e j l h = same_true (get_or t j (pos 0)) (pos 0) (zeros t (n * 8) (length t - n * 8) e j l (omega arith))

  pub facts-rest : ((j : ℕ) → n * 8 ≤ j → j < length t → get_or t j (pos 0) ≡ pos 0) → rest_zero t n ≡ true
  unfolding rest_zero
  facts-rest f = of-zeros t (n * 8) (length t - n * 8) (λ j l h. true_same (get_or t j (pos 0)) (pos 0) (f j l (omega arith)))

module _ (t : List ℤ) (n M : ℕ) where
  pub facts-cells : n ≤ max_slots → ((i : ℕ) → i < n → CellFacts t n M i) → Formed M (table t n)
  facts-cells small f =
      record {
        split = λ i g e.
            (let h : i < n = rw length-table at (kids-in (table t n) i g e) in
            let o = some-opt (cell_at t i).first g (sym (ap (λ (c : Cell). c.kids) (at_table t n i h)) ∙ e) in
            subst (Split M (table t n) i) o.0 (split-facts t n M small i h (f i h).kids o.1));
        born = λ i j l e.
            (let h : i < n = rw length-table at l in
            let o = some-opt (cell_at t i).parent j (sym (ap (λ (c : Cell). c.parent) (at_table t n i h)) ∙ e) in
            subst (Born (table t n) i) o.0 (place-born t n M small i h (f i h).place o.1));
        root = λ i e.
            (let h : i < n = rw length-table at (root_in (table t n) i e) in
            let o = none-opt (cell_at t i).parent (sym (ap (λ (c : Cell). c.parent) (at_table t n i h)) ∙ e) in
            subst (Root M) (sym (at_table t n i h)) (place-root t n M small i h (f i h).place o));
      }

module _ (t : List ℤ) (head : Head) where
  abbrev n : ℕ
  n = head.count

  abbrev M : ℕ
  M = head.max_level

  -- the test says yes only if the definition holds
  pub formed-facts : well_formed t head ≡ true → WellFormed t head
  formed-facts e =
      let s = formed-shape t head e in
      record {
        range = s.range;
        whole = s.whole;
        slots = s.slots;
        count = s.count;
        rest = rest-facts t n (formed-parts t head e).rest;
        held = λ i h. (formed-cell t head e i h).held;
        level = λ i h. (formed-cell t head e i h).level;
        polygon = λ i h. (formed-cell t head e i h).polygon;
        cells = facts-cells t n M (omega arith) (formed-cell t head e);
        leaves = (formed-parts t head e).leaves;
      }

  -- and always then
  pub facts-formed : WellFormed t head → well_formed t head ≡ true
  facts-formed w =
      let small : n ≤ max_slots = (let a = w.count in let b = w.slots in omega arith) in
      parts-formed t head (record {
        shape = of-shape (length t) n M (record { range = w.range; whole = w.whole; slots = w.slots; count = w.count });
        rest = facts-rest t n w.rest;
        leaves = w.leaves;
        cells = facts-cells_ok t n M (λ i h.
            let here = at_table t n i h in
            record {
              held = w.held i h;
              level = w.level i h;
              polygon = w.polygon i h;
              place =
                  facts-place t n M small i h
                  (λ p. subst (Root M) here (w.cells.root i (ap (λ (c : Cell). c.parent) here ∙ opt_none (cell_at t i).parent p)))
                  (λ p. w.cells.born i (cell_at t i).parent (rw length-table h) (ap (λ (c : Cell). c.parent) here ∙ opt-some (cell_at t i).parent p));
              kids = facts-split t n M small i h (λ p. w.cells.split i (cell_at t i).first (ap (λ (c : Cell). c.kids) here ∙ opt-some (cell_at t i).first p));
            });
      })
