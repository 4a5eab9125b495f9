-- What the definition of the row by the passes holds: a table, of the cells that the passes end in. So the definition by the passes and the one by names say
-- the same of every row. Assumes nothing.
use Rattle.std.proofs.Common.{◌≡◌, refl, sym, ap, ap₂, subst, subst₂, ◌∙◌, Bool, true, false, None, List, ◌∷◌, ℕ, ◌<◌, ◌≤◌, ◌/◌, arith, leb, le-leb, leb-true, leb-false, true≢false, length, ℤ, is_none}
use Rattle.refusals.specs.Said.{accepted}
use Rattle.table.specs.declared.Head.{Head}
use Rattle.table.specs.Mesh.{Cell, at, split, leaf_count, table}
use Rattle.table.specs.Formed.{Formed, well_formed}
use Rattle.table.specs.Rows.{IsTable, cells_in, head_of, head_values, after_split}
use Rattle.table.specs.Refine.{split_row}
use Rattle.table.proofs.Cells.{length-table}
use Rattle.table.proofs.Meshes.{length-split}
use Rattle.table.proofs.Splits.{length-split_row}
use Rattle.table.proofs.Refining.{Refinable, refined-formed, refined-cells}
use Rattle.table.proofs.Wellformed.{formed-facts, facts-formed}
use Rattle.coarsest.specs.declared.Engine.{Engine}
use Rattle.coarsest.specs.Passes.{difference}
use Rattle.coarsest.proofs.Least.{due-of, level-most}
use Rattle.coarsest.proofs.Sweep.{Keeps}
use Rattle.coarsest.proofs.Evened.{evened-keeps}
use Rattle.even.specs.Rows.{row_of}
use Rattle.even.specs.Even.{even_cells, even_head, even_splits, even_says, even_row, EndsCoarsest}
use Rattle.even.proofs.Rowing.{row_is}
use Rattle.even.proofs.Ending.{spent, ends-done, ends-full, ends-bad}

pub head-same : (g h : Head) → g.count ≡ h.count → g.leaves ≡ h.leaves → g.max_level ≡ h.max_level → g ≡ h
head-same g h c l m = ap₂ (λ (x y : ℕ). head_of x y g.max_level) c l ∙ ap (head_of h.count h.leaves) m

module _ (row : List ℤ) (head : Head) (is-table : IsTable row head) where
  -- a row as long holds these cells
  pub record Holds (u : List Cell) : Type 0 where
    pub row_now : List ℤ
    pub head_now : Head
    pub formed : IsTable row_now head_now
    pub cells : cells_in row_now head_now ≡ u
    pub as_long : length row_now ≡ length row
    pub max_level : head_now.max_level ≡ head.max_level

  -- if there is room for them
  abbrev Held : List Cell → Type 0
  Held u = length u ≤ length row / 8 → Holds u

  split-held : (u : List Cell) (f c : ℕ) → f < length u → c < length u → (at u c).kids ≡ None → (at u c).level < (at u f).level → Holds u → length (split u c) ≤ length row / 8
      → Holds (split u c)
  split-held u f c hf hc leaf apart h room =
      let w = formed-facts h.row_now h.head_now h.formed in
      let count : h.head_now.count ≡ length u = sym (length-table h.row_now h.head_now.count) ∙ ap length h.cells in
      let longer = length-split u c in
      let long = ap (λ (x : ℕ). x / 8) h.as_long in
      let deep = level-most h.head_now.max_level u (subst (Formed h.head_now.max_level) h.cells w.cells) f hf in
      let r : Refinable h.row_now h.head_now c = record {
        formed = h.formed;
        inside = omega arith;
        leaf = ap (λ (t : List Cell). is_none (at t c).kids) h.cells ∙ ap is_none leaf;
        finer = rw h.cells (omega arith);
        room = omega arith;
      } in
      record {
        row_now = split_row h.row_now h.head_now.count c;
        head_now = after_split h.head_now;
        formed = refined-formed h.row_now h.head_now c r;
        cells = refined-cells h.row_now h.head_now c r ∙ ap (λ (t : List Cell). split t c) h.cells;
        as_long = length-split_row h.row_now h.head_now.count c ∙ h.as_long;
        max_level = h.max_level;
      }

  held-keeps : (k : ℕ) → Keeps k Held
  held-keeps k u f c hf hc held d room =
      let w = due-of k u f c d in
      let a = w.apart in
      let l = length-split u c in
      split-held u f c hf hc w.coarse (omega arith) (held (omega arith)) room

  module _ (e : Engine) (room : length (even_cells e row head) ≤ length row / 8) where
    pub ends-held : Holds (even_cells e row head)
    ends-held =
        evened-keeps e (difference e) head.max_level Held (held-keeps (difference e)) (cells_in row head)
        (λ r. record { row_now = row; head_now = head; formed = is-table; cells = refl; as_long = refl; max_level = refl })
        room

    -- the row by the passes is that row
    row-held : row_of (even_cells e row head) (length row) ≡ ends-held.row_now
    row-held =
        ap₂ row_of (sym ends-held.cells) (sym ends-held.as_long)
        ∙ sym (row_is ends-held.row_now ends-held.head_now (formed-facts ends-held.row_now ends-held.head_now ends-held.formed))

    pub cells-held : table (row_of (even_cells e row head) (length row)) (length (even_cells e row head)) ≡ even_cells e row head
    cells-held =
        ap₂ table row-held (ap length (sym ends-held.cells) ∙ length-table ends-held.row_now ends-held.head_now.count) ∙ ends-held.cells

    pub table-held : IsTable (row_of (even_cells e row head) (length row)) (even_head e row head)
    table-held =
        let w = formed-facts ends-held.row_now ends-held.head_now ends-held.formed in
        let count : ends-held.head_now.count ≡ length (even_cells e row head) =
        sym (length-table ends-held.row_now ends-held.head_now.count) ∙ ap length ends-held.cells in
        subst₂ IsTable (sym row-held) (head-same ends-held.head_now (even_head e row head) count (w.leaves ∙ ap leaf_count ends-held.cells) ends-held.max_level)
        ends-held.formed

    pub long-held : length (row_of (even_cells e row head) (length row)) ≡ length row
    long-held = ap length row-held ∙ ends-held.as_long

-- what an evening for which there is room says and leaves
module _ (e : Engine) (row : List ℤ) (head : Head) (formed : IsTable row head) (fits : length (even_cells e row head) ≤ length row / 8) where
  pub says-held : even_says e row head ≡ accepted (even_splits e row head ∷ head_values (even_head e row head))
  unfolding even_says
  says-held = rw (formed, le-leb _ _ fits) refl

  row-is : even_row e row head ≡ row_of (even_cells e row head) (length row)
  unfolding even_row
  row-is = rw says-held refl

  pub even-cells : cells_in (even_row e row head) (even_head e row head) ≡ even_cells e row head
  even-cells = rw row-is (cells-held row head formed e fits)

  pub even-table : IsTable (even_row e row head) (even_head e row head)
  even-table = rw row-is (table-held row head formed e fits)

  pub even-long : length (even_row e row head) ≡ length row
  even-long = ap length row-is ∙ long-held row head formed e fits

-- both definitions of an evening, of every row
pub definitions-agree : (e : Engine) (head : Head) (row : List ℤ) → EndsCoarsest e head row (even_row e row head) (even_says e row head)
unfolding even_says even_row
definitions-agree e head row = by (well_formed row head) (leb (length (even_cells e row head)) (length row / 8)) refl refl
  where
    by : (a b : Bool) → well_formed row head ≡ a → leb (length (even_cells e row head)) (length row / 8) ≡ b
        → EndsCoarsest e head row (even_row e row head) (even_says e row head)
    by true true a b =
        let room = leb-true _ _ b in
        let w = formed-facts row head a in
        let u = row_of (even_cells e row head) (length row) in
        let s = spent e head row u w in
        let longer = s.1.0 in
        let more = s.1.1 in
        rw (a, b)
        (ends-done e head row u w (even_splits e row head) (length (even_cells e row head)) (leaf_count (even_cells e row head))
        (omega arith, omega arith) (cells-held row head a e room) refl room)
    by true false a b = rw (a, b) (ends-full e head row row (formed-facts row head a) (leb-false _ _ b) refl)
    by false b a b' = rw a (ends-bad e head row (λ w. true≢false (sym (facts-formed row head w) ∙ a)))
