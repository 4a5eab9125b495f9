-- A split of the row is a split of its table, and keeps it well formed. Assumes nothing.
use Rattle.std.proofs.Common.{ℕ, zero, suc, ◌+◌, ◌*◌, ◌-◌, ◌/◌, ◌<◌, ◌≤◌, ◌≡◌, refl, sym, ap, subst, ◌∙◌, true, None, List, ◌≢◌, ◌⊎◌, inl, inr, ⊎_elim, arith, add-one, ℤ, pos, length, get_or, ext_get_or, eqb-true}
use mathlib.Core.Logic.{by_cases}
use native.Mathlib.Decide.{dec_lt, ℕ_discrete}
use Rattle.refusals.specs.Limits.{widest_level, max_slots, max_polygons}
use Rattle.cell.specs.Boxes.{Quad, sw, se, nw, ne, num, quad_at, quadrant}
use Rattle.cell.specs.declared.Cell as Held
use Rattle.cell.specs.Cells.{no_cell, child_of}
use Rattle.table.specs.Slots.{cell_at, in_slot}
use Rattle.table.specs.declared.Head.{Head}
use Rattle.table.specs.Mesh.{Cell, past, at, child, with_kids, split, opt, mesh_cell, table, leaf_count}
use Rattle.table.specs.Formed.{Formed, WellFormed, well_formed}
use Rattle.table.specs.Rows.{after_split}
use Rattle.table.specs.Leaves.{leaf_at}
use Rattle.table.specs.Refine.{put_kid, split_row}
use Rattle.table.proofs.Stores.{Fits, read-corners, length-put, put-elsewhere, put_other, put-other-held, put_same, put-held, with_first, length-first, first-elsewhere, first-other, first-other-held, first-same, first-held}
use Rattle.table.proofs.Cells.{length-table, at_table}
use Rattle.table.proofs.Counting.{leaf_count-split}
use Rattle.table.proofs.Meshes.{num-below, View, old, self, new, out, view, length-split, formed-split}
use Rattle.table.proofs.Wellformed.{opt-some, opt_none, quad-num, formed-facts, facts-formed}

-- every child of a cell that a slot holds is one that a slot can hold
pub child_fits : (t : List ℤ) (i : ℕ) (q : Quad) → i ≤ max_slots → (cell_at t i).level < widest_level → (cell_at t i).poly < max_polygons → Fits (child_of i q (cell_at t i))
child_fits t i q h l p = by q
  where
    by : (q : Quad) → Fits (child_of i q (cell_at t i))
    by sw = let c = read-corners t i in omega arith
    by se = let c = read-corners t i in omega arith
    by nw = let c = read-corners t i in omega arith
    by ne = let c = read-corners t i in omega arith

-- ---- the row after the first m children

module _ (t : List ℤ) (n i : ℕ) where
  abbrev after : ℕ → List ℤ
  after zero = t
  after (suc m) = put_kid (after m) n i (cell_at t i) m

  after-length : (m : ℕ) → length (after m) ≡ length t
  unfolding put_kid
  after-length zero = refl
  after-length (suc m) = length-put (after m) (n + m) (child_of i (quad_at m) (cell_at t i)) ∙ after-length m

  -- the numbers before and behind the children are as they were
  after-elsewhere : (m j : ℕ) → (j < n * 8) ⊎ ((n + m) * 8 ≤ j) → get_or (after m) j (pos 0) ≡ get_or t j (pos 0)
  unfolding put_kid
  after-elsewhere zero j h = refl
  after-elsewhere (suc m) j h =
      put-elsewhere (after m) (n + m) (child_of i (quad_at m) (cell_at t i)) j (⊎_elim (λ l. inl (omega arith)) (λ l. inr (omega arith)) h)
      ∙ after-elsewhere m j (⊎_elim (λ l. inl l) (λ l. inr (omega arith)) h)

  after-old : (m j : ℕ) → j < n → cell_at (after m) j ≡ cell_at t j
  unfolding put_kid
  after-old zero j h = refl
  after-old (suc m) j h = put_other (after m) (n + m) (child_of i (quad_at m) (cell_at t i)) j (omega arith) ∙ after-old m j h

  after-old-held : (m j : ℕ) → j < n → in_slot (after m) j ≡ in_slot t j
  unfolding put_kid
  after-old-held zero j h = refl
  after-old-held (suc m) j h = put-other-held (after m) (n + m) (child_of i (quad_at m) (cell_at t i)) j (omega arith) ∙ after-old-held m j h

  module _ (room : (n + 4) * 8 ≤ length t) where
    after-new-held : (m k : ℕ) → k < m → m ≤ 4 → in_slot (after m) (n + k) ≡ true
    unfolding put_kid
    after-new-held zero k h l = absurd (omega arith)
    after-new-held (suc m) k h l =
        by_cases (ℕ_discrete k m)
        (λ e. rw e (put-held (after m) (n + m) (child_of i (quad_at m) (cell_at t i)) (rw after-length (omega arith))))
        (λ o. put-other-held (after m) (n + m) (child_of i (quad_at m) (cell_at t i)) (n + k) (omega arith) ∙ after-new-held m k (omega arith) (omega arith))

    after-new : ((q : Quad) → Fits (child_of i q (cell_at t i))) → (m k : ℕ) → k < m → m ≤ 4 → cell_at (after m) (n + k) ≡ child_of i (quad_at k) (cell_at t i)
    unfolding put_kid
    after-new f zero k h l = absurd (omega arith)
    after-new f (suc m) k h l =
        by_cases (ℕ_discrete k m)
        (λ e. rw e (put_same (after m) (n + m) (child_of i (quad_at m) (cell_at t i)) (rw after-length (omega arith)) (f (quad_at m))))
        (λ o. put_other (after m) (n + m) (child_of i (quad_at m) (cell_at t i)) (n + k) (omega arith) ∙ after-new f m k (omega arith) (omega arith))

-- ---- the row after the split

pub length-split_row : (t : List ℤ) (n i : ℕ) → length (split_row t n i) ≡ length t
unfolding split_row
length-split_row t n i = length-first (after t n i 4) i n ∙ after-length t n i 4

module _ (t : List ℤ) (n i : ℕ) (inside : i < n) where
  -- the numbers past the four new slots are as they were
  pub split_row-past : (j : ℕ) → (n + 4) * 8 ≤ j → get_or (split_row t n i) j (pos 0) ≡ get_or t j (pos 0)
  unfolding split_row
  split_row-past j h = first-elsewhere (after t n i 4) i n j (omega arith) ∙ after-elsewhere t n i 4 j (inr h)

  pub split_row-old : (j : ℕ) → j < n → j ≢ i → cell_at (split_row t n i) j ≡ cell_at t j
  unfolding split_row
  split_row-old j h o = first-other (after t n i 4) i n j o ∙ after-old t n i 4 j h

  module _ (room : (n + 4) * 8 ≤ length t) (small : n ≤ max_slots) where
    pub split_row-self : cell_at (split_row t n i) i ≡ with_first (cell_at t i) n
    unfolding split_row
    split_row-self =
        first-same (after t n i 4) i n (let l = after-length t n i 4 in omega arith) (omega arith)
        ∙ ap (λ (c : Held.Cell). with_first c n) (after-old t n i 4 i inside)

    -- the new slots hold the numbers of a cell, and the old ones as before
    pub split_row-old-held : (j : ℕ) → j < n → in_slot t j ≡ true → in_slot (split_row t n i) j ≡ true
    unfolding split_row
    split_row-old-held j h e =
        by_cases (ℕ_discrete j i)
        (λ d. rw d (first-held (after t n i 4) i n (let l = after-length t n i 4 in omega arith) (after-old-held t n i 4 i inside ∙ (rw d at e))))
        (λ o. first-other-held (after t n i 4) i n j o ∙ after-old-held t n i 4 j h ∙ e)

    pub split_row-new-held : (k : ℕ) → k < 4 → in_slot (split_row t n i) (n + k) ≡ true
    unfolding split_row
    split_row-new-held k h = first-other-held (after t n i 4) i n (n + k) (omega arith) ∙ after-new-held t n i room 4 k h (omega arith)

    module _ (fits : (q : Quad) → Fits (child_of i q (cell_at t i))) where
      pub split_row-new : (k : ℕ) → k < 4 → cell_at (split_row t n i) (n + k) ≡ child_of i (quad_at k) (cell_at t i)
      unfolding split_row
      split_row-new k h = first-other (after t n i 4) i n (n + k) (omega arith) ∙ after-new t n i room fits 4 k h (omega arith)

      -- the cells as the rules speak of them
      mesh-child : (q : Quad) → mesh_cell (child_of i q (cell_at t i)) ≡ child i (mesh_cell (cell_at t i)) q
      mesh-child q =
          λ x. record {
            box = quadrant (mesh_cell (cell_at t i)).box q;
            level = add-one (cell_at t i).level x;
            parent = opt-some i (omega arith) x;
            kids = opt_none no_cell refl x;
            polygon = (cell_at t i).poly;
          }

      mesh-kids : mesh_cell (with_first (cell_at t i) n) ≡ with_kids (mesh_cell (cell_at t i)) n
      mesh-kids =
          λ x. record {
            box = (mesh_cell (cell_at t i)).box;
            level = (cell_at t i).level;
            parent = opt (cell_at t i).parent;
            kids = opt-some n (omega arith) x;
            polygon = (cell_at t i).poly;
          }

      is-in : i < length (table t n)
      is-in = rw length-table inside

      each : (j : ℕ) → j < n + 4 → View (table t n) i is-in j → at (table (split_row t n i) (n + 4)) j ≡ at (split (table t n) i) j
      each j h (old l o e) =
          let m : j < n = rw length-table at l in
          at_table (split_row t n i) (n + 4) j h ∙ ap mesh_cell (split_row-old j m o) ∙ sym (at_table t n j m) ∙ sym e
      each j h (self d e) =
          at_table (split_row t n i) (n + 4) j h ∙ ap (λ (k : ℕ). mesh_cell (cell_at (split_row t n i) k)) d ∙ ap mesh_cell split_row-self ∙ mesh-kids
          ∙ ap (λ (c : Cell). with_kids c n) (sym (at_table t n i inside) ∙ ap (at (table t n)) (sym d))
          ∙ ap (with_kids (at (table t n) j)) (sym (length-table t n)) ∙ sym e
      each j h (new q d e) =
          at_table (split_row t n i) (n + 4) j h
          ∙ ap (λ (k : ℕ). mesh_cell (cell_at (split_row t n i) k)) (d ∙ ap (λ (k : ℕ). k + num q) (length-table t n))
          ∙ ap mesh_cell (split_row-new (num q) (num-below q))
          ∙ ap (λ (r : Quad). mesh_cell (child_of i r (cell_at t i))) (quad-num q)
          ∙ mesh-child q
          ∙ ap (λ (c : Cell). child i c q) (sym (at_table t n i inside)) ∙ sym e
      each j h (out d e) = let l = length-table t n in absurd (omega arith)

      pub table-split_row : table (split_row t n i) (n + 4) ≡ split (table t n) i
      table-split_row =
          ext_get_or past (table (split_row t n i) (n + 4)) (split (table t n) i)
          (length-table (split_row t n i) (n + 4) ∙ ap (λ (k : ℕ). k + 4) (sym (length-table t n)) ∙ sym (length-split (table t n) i))
          (λ j h. each j (rw length-table at h) (view (table t n) i is-in j))

-- ---- well-formedness

pub leaf_kids : (t : List ℤ) (n i : ℕ) → i < n → leaf_at t i ≡ true → (at (table t n) i).kids ≡ None
unfolding leaf_at
leaf_kids t n i h e = ap (λ (c : Cell). c.kids) (at_table t n i h) ∙ opt_none (cell_at t i).first (eqb-true (cell_at t i).first no_cell e)

module _ (t : List ℤ) (head : Head) (i : ℕ) (w : WellFormed t head) (inside : i < head.count) (leaf : leaf_at t i ≡ true) (finer : (cell_at t i).level < head.max_level) (enough : head.count + 4 ≤ length t / 8) where
  abbrev n : ℕ
  n = head.count

  abbrev M : ℕ
  M = head.max_level

  room : (n + 4) * 8 ≤ length t
  room = omega arith

  small : n ≤ max_slots
  small = let s = w.slots in omega arith

  fits : (q : Quad) → Fits (child_of i q (cell_at t i))
  fits q = let r = w.range in child_fits t i q (let s = small in omega arith) (omega arith) (w.polygon i inside)

  -- a split of the row is a split of its cells
  pub split-table : table (split_row t n i) (n + 4) ≡ split (table t n) i
  split-table = table-split_row t n i inside room small fits

  -- a fact of every cell that was there, and of the four new ones
  every : (P : ℕ → Type 0) → ((j : ℕ) → j < n → P j) → ((k : ℕ) → k < 4 → P (n + k)) → (j : ℕ) → j < n + 4 → P j
  every P f g j h = by_cases (dec_lt j n) (λ l. f j l) (λ l. let e : n + (j - n) ≡ j = omega arith in subst P e (g (j - n) (omega arith)))

  abbrev u : List ℤ
  u = split_row t n i

  old-level : (j : ℕ) → j < n → (cell_at u j).level ≡ (cell_at t j).level
  old-level j h =
      by_cases (ℕ_discrete j i)
      (λ e. rw e (ap (λ (c : Held.Cell). c.level) (split_row-self t n i inside room small)))
      (λ o. ap (λ (c : Held.Cell). c.level) (split_row-old t n i inside j h o))

  old-poly : (j : ℕ) → j < n → (cell_at u j).poly ≡ (cell_at t j).poly
  old-poly j h =
      by_cases (ℕ_discrete j i)
      (λ e. rw e (ap (λ (c : Held.Cell). c.poly) (split_row-self t n i inside room small)))
      (λ o. ap (λ (c : Held.Cell). c.poly) (split_row-old t n i inside j h o))

  new-cell : (k : ℕ) → k < 4 → cell_at u (n + k) ≡ child_of i (quad_at k) (cell_at t i)
  new-cell = split_row-new t n i inside room small fits

  pub refine-keeps : WellFormed (split_row t n i) (after_split head)
  refine-keeps =
      let l = length-split_row t n i in
      record {
        range = w.range;
        whole = rw l w.whole;
        slots = rw l w.slots;
        count = rw l enough;
        rest = λ j h b. split_row-past t n i inside j h ∙ w.rest j (omega arith) (rw l at b);
        held = every (λ j. in_slot u j ≡ true) (λ j h. split_row-old-held t n i inside room small j h (w.held j h)) (split_row-new-held t n i inside room small);
        level = every (λ j. (cell_at u j).level ≤ M) (λ j h. rw (old-level j h) (w.level j h)) (λ k h. rw (new-cell k h) (omega arith));
        polygon = every (λ j. (cell_at u j).poly < max_polygons) (λ j h. rw (old-poly j h) (w.polygon j h)) (λ k h. rw (new-cell k h) (w.polygon i inside));
        cells =
            subst (Formed M) (sym split-table)
            (formed-split (table t n) i (rw length-table inside) (leaf_kids t n i inside leaf) M (rw (at_table t n i inside) finer) w.cells);
        leaves =
            ap (λ (k : ℕ). k + 3) w.leaves
            ∙ sym (leaf_count-split (table t n) i (rw length-table inside) (leaf_kids t n i inside leaf))
            ∙ ap leaf_count (sym split-table);
      }

-- the same of the test
pub refine-formed : (t : List ℤ) (head : Head) (i : ℕ) → well_formed t head ≡ true → i < head.count → leaf_at t i ≡ true → (cell_at t i).level < head.max_level
    → head.count + 4 ≤ length t / 8 → well_formed (split_row t head.count i) (after_split head) ≡ true
refine-formed t head i e h f l r = facts-formed (split_row t head.count i) (after_split head) (refine-keeps t head i (formed-facts t head e) h f l r)
