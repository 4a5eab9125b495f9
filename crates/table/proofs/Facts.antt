-- The parts of the test of well-formedness, of the whole row and of one cell. Assumes nothing.
use Rattle.std.proofs.Common.{ℕ, ◌+◌, ◌^◌, ◌<◌, ◌≤◌, ◌≡◌, true, ◌&&◌, List, ltb, leb, ℤ, ltb-true, leb-true, lt-ltb, le-leb}
use Rattle.refusals.specs.Limits.{max_polygons}
use Rattle.table.specs.declared.Head.{Head}
use Rattle.table.specs.Slots.{cell_at, in_slot}
use Rattle.table.specs.Formed.{place_ok, kids_ok, cell_ok, cells_ok, well_formed}
use Rattle.table.proofs.All.{and_left, and_right, all-at, all_of}
use Rattle.table.proofs.Shape.{formed-parts}

pub record CellFacts (t : List ℤ) (n M i : ℕ) : Type 0 where
  pub held : in_slot t i ≡ true
  pub level : (cell_at t i).level ≤ M
  pub polygon : (cell_at t i).poly < max_polygons
  pub place : place_ok t n (2 ^ (M + 1)) i (cell_at t i) ≡ true
  pub kids : kids_ok t n M i (cell_at t i) ≡ true

module _ (t : List ℤ) (n M : ℕ) where
  pub cell-facts : (i : ℕ) → cell_ok t n M i ≡ true → CellFacts t n M i
  unfolding cell_ok
  cell-facts i e =
      let s = in_slot t i in
      let l = leb (cell_at t i).level M in
      let p = ltb (cell_at t i).poly max_polygons in
      let q = place_ok t n (2 ^ (M + 1)) i (cell_at t i) in
      let k = kids_ok t n M i (cell_at t i) in
      let a = and_left (s && l && p && q) k e in
      let b = and_left (s && l && p) q a in
      let d = and_left (s && l) p b in
      record {
        held = and_left s l d;
        level = leb-true (cell_at t i).level M (and_right s l d);
        polygon = ltb-true (cell_at t i).poly max_polygons (and_right (s && l) p b);
        place = and_right (s && l && p) q a;
        kids = and_right (s && l && p && q) k e;
      }

  pub facts-cell : (i : ℕ) → CellFacts t n M i → cell_ok t n M i ≡ true
  unfolding cell_ok
  facts-cell i f = simp (f.held, le-leb (cell_at t i).level M f.level, lt-ltb (cell_at t i).poly max_polygons f.polygon, f.place, f.kids)

  -- every cell of a well-formed row
  pub cells_ok-facts : cells_ok t n M ≡ true → (i : ℕ) → i < n → CellFacts t n M i
  unfolding cells_ok
  cells_ok-facts e i h = cell-facts i (all-at (cell_ok t n M) n e i h)

  pub facts-cells_ok : ((i : ℕ) → i < n → CellFacts t n M i) → cells_ok t n M ≡ true
  unfolding cells_ok
  facts-cells_ok f = all_of (cell_ok t n M) n (λ i h. facts-cell i (f i h))

pub formed-cell : (t : List ℤ) (head : Head) → well_formed t head ≡ true → (i : ℕ) → i < head.count → CellFacts t head.count head.max_level i
formed-cell t head e = cells_ok-facts t head.count head.max_level (formed-parts t head e).cells
