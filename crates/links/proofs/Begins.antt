-- Where the leaves of each polygon begin in the list of leaves, and so its cells in the row of cells. Assumes nothing.
use Rattle.std.proofs.Common.{◌≡◌, ℕ, zero, suc, ◌+◌, ◌-◌, ◌<◌, ◌≤◌, List, [], ℤ, length, get_or, take, drop, flat_map, sym, ap, ap₂, ◌∙◌, ⊎_elim, arith, All}
use Rattle.std.specs.List.Sorted.{IsNonDecreasing}
use Rattle.std.proofs.lemmas.Bool.{cases_lt}
use Rattle.std.proofs.lemmas.List.{get_or_past, get_or_default}
use Rattle.std.proofs.lemmas.List.Elements.{All-from_get_or}
use Rattle.std.proofs.lemmas.List.FromFn.{fill_by_all, length-map-range_with_len}
use Rattle.refusals.specs.Limits.{max_polygons}
use Rattle.table.specs.Leaves.{Started, polygon_ids, order_to, order_ids}
use Rattle.table.specs.Tables.{leaves}
use Rattle.table.specs.declared.view.Table.{Table}
use Rattle.table.proofs.Listed.{order_ids-in, order_in-length}
use Rattle.table.proofs.Order.{order-more}
use Rattle.net_rows.specs.declared.rows.NetCell.{NetCell}
use Rattle.links.specs.Rows.{corner_numbers, end_of, cells_of, row_lists, lists_by}
use Rattle.links.proofs.Parts.{list-is}

-- ---- where the leaves of each polygon begin
module _ (row : List ℤ) (count : ℕ) where
  abbrev pub begin : ℕ → ℕ
  begin p = length (order_to row count p)

  abbrev own : ℕ → ℕ
  own p = length (polygon_ids row count p)

  more : (p d : ℕ) → begin p ≤ begin (p + d)
  more p zero = (let e = ap begin (let q : p + 0 ≡ p = omega arith in q) in omega arith)
  more p (suc d) =
      let e = ap begin (let q : p + suc d ≡ (p + d) + 1 = omega arith in q) in
      let o = order-more row count (p + d) in
      let m = more p d in
      omega arith

  rises : (p q : ℕ) → p ≤ q → begin p ≤ begin q
  rises p q h = (let e = ap begin (let r : p + (q - p) ≡ q = omega arith in r) in let m = more p (q - p) in omega arith)

  -- past the last polygon there is no leaf
  module _ (last : ℕ) (none : (p : ℕ) → last ≤ p → own p ≡ 0) where
    pub ended : (d : ℕ) → begin (last + d) ≡ begin last
    ended zero = ap begin (let q : last + 0 ≡ last = omega arith in q)
    ended (suc d) =
        let e = ap begin (let q : last + suc d ≡ (last + d) + 1 = omega arith in q) in
        let o = order-more row count (last + d) in
        let n = none (last + d) (omega arith) in
        let m = ended d in
        omega arith

-- ---- the row of cells, one for each leaf
module _ (row : List ℤ) (count : ℕ) (starts : List ℕ) (S : Started row count starts) (cells : List NetCell) (many : length cells ≡ begin row count max_polygons) where
  start-is : (p d : ℕ) → p < max_polygons → get_or starts p d ≡ begin row count p
  start-is p d h = (let l = S.long in get_or_default starts p d 0 (omega arith)) ∙ S.each p h

  -- what `NetByPolygon` keeps
  pub rising : IsNonDecreasing starts
  rising i j d h g =
      let l = S.long in
      let a = start-is i d (omega arith) in
      let b = start-is j d (omega arith) in
      let m = rises row count i j h in
      omega arith

  pub within : All (λ start. start ≤ length cells) starts
  within =
      All-from_get_or (λ start. start ≤ length cells) starts 0
      (λ p h.
      let l = S.long in
      let a = start-is p 0 (omega arith) in
      let n = rises row count p max_polygons (omega arith) in
      omega arith)

  end-is : (p : ℕ) → p < max_polygons → end_of cells starts p ≡ begin row count (p + 1)
  end-is p h =
      ⊎_elim
      (λ (k : p + 1 < max_polygons). start-is (p + 1) (length cells) k)
      (λ (k : max_polygons ≤ p + 1).
      get_or_past starts (p + 1) (length cells) (let l = S.long in omega arith)
      ∙ (many ∙ ap (begin row count) (let q : max_polygons ≡ p + 1 = omega arith in q)))
      (cases_lt (p + 1) max_polygons)

  part-is : (p : ℕ) → p < max_polygons → take (length (polygon_ids row count p)) (drop (begin row count p) cells) ≡ cells_of cells starts p
  part-is p h =
      let s = start-is p 0 h in
      let e = end-is p h in
      let o = order-more row count p in
      let n : length (polygon_ids row count p) ≡ end_of cells starts p - get_or starts p 0 = omega arith in
      ap₂ {C = List NetCell} (λ (m b : ℕ). take m (drop b cells)) n (sym s)

  -- the lists by the row are those by the table
  pub rows-are : row_lists cells starts ≡ lists_by row count cells
  unfolding lists_by row_lists
  rows-are =
      let l = S.long in
      fill_by_all (λ p. flat_map corner_numbers (take (length (polygon_ids row count p)) (drop (begin row count p) cells))) (row_lists cells starts) max_polygons []
      (length-map-range_with_len (λ p. flat_map corner_numbers (cells_of cells starts p)) 0 (length starts) ∙ l)
      (λ p h. sym (list-is cells starts p _ (omega arith) (part-is p h)))

-- a cell each
pub a-cell-each : (t : Table) → begin t.row.now t.head.count max_polygons ≡ length (leaves t)
unfolding order_ids
a-cell-each t = ap length (order_ids-in t.row.now t.head) ∙ order_in-length t.row.now t.head t.formed
