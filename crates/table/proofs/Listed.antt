-- The lists that the code's loops make are those that the definitions name. Assumes nothing.
use Rattle.std.proofs.Common.{ℕ, zero, suc, ◌+◌, ◌*◌, ◌≡◌, refl, sym, ap, ap₂, ◌∙◌, Bool, true, false, ◌&&◌, cond, add-one, eqb, List, [], ◌∷◌, ◌++◌, ℤ, length, filter}
use Rattle.std.specs.List.{range_with_len, flat_map}
use Rattle.refusals.specs.Limits.{max_polygons}
use Rattle.table.specs.declared.Head.{Head}
use Rattle.table.specs.Mesh.{at, is_leaf, table, root_count}
use Rattle.table.specs.Rows.{IsTable, cells_in, leaves_in, order_in}
use Rattle.table.specs.Leaves.{leaf_at, leaf_of, polygon_ids, order_to, order_ids}
use Rattle.table.proofs.Ids.{ids_to, ids-same, flat_map-range-more}
use Rattle.table.proofs.Order.{order-suc, order-length}
use Rattle.table.proofs.Shape.{formed-parts, formed-poly}
use Rattle.table.proofs.Cells.{length-table}
use Rattle.table.proofs.Counting.{leaf_count-listed}
use Rattle.table.proofs.Wellformed.{formed-facts}
use Rattle.table.proofs.RootLaw as RootLaw
use Rattle.table.proofs.Tables.{leaf_read, polygon_read}

filter-filter : (f g : ℕ → Bool) (xs : List ℕ) → filter g (filter f xs) ≡ filter (λ i. f i && g i) xs
filter-filter f g [] = refl
filter-filter f g (x ∷ xs) = by (f x) (g x) refl (filter-filter f g xs)
  where
    by : (a b : Bool) → g x ≡ b → filter g (filter f xs) ≡ filter (λ i. f i && g i) xs
        → filter g (cond a (x ∷ filter f xs) (filter f xs)) ≡ cond (a && b) (x ∷ filter (λ i. f i && g i) xs) (filter (λ i. f i && g i) xs)
    by true true e h = rw e (ap (λ (l : List ℕ). x ∷ l) h)
    by true false e h = rw e h
    by false b e h = h

-- the leaves by id, and by polygon
pub leaf_ids-in : (row : List ℤ) (head : Head) → ids_to (leaf_at row) head.count ≡ leaves_in row head
unfolding ids_to
leaf_ids-in row head = ids-same (leaf_at row) (is_leaf (cells_in row head)) head.count (λ i h. leaf_read row head.count i h)

module _ (row : List ℤ) (head : Head) where
  abbrev of_polygon : ℕ → List ℕ
  of_polygon p = filter (λ i. eqb (at (cells_in row head) i).polygon p) (leaves_in row head)

  one-polygon : (p : ℕ) → polygon_ids row head.count p ≡ of_polygon p
  unfolding polygon_ids ids_to leaf_of
  one-polygon p =
      ids-same (leaf_of row p) (λ i. is_leaf (cells_in row head) i && eqb (at (cells_in row head) i).polygon p) head.count
      (λ i h. ap₂ (λ (a : Bool) (v : ℕ). a && eqb v p) (leaf_read row head.count i h) (polygon_read row head.count i h))
      ∙ sym (filter-filter (is_leaf (cells_in row head)) (λ i. eqb (at (cells_in row head) i).polygon p) (range_with_len 0 head.count))

  polygons : (p : ℕ) → order_to row head.count p ≡ flat_map of_polygon (range_with_len 0 p)
  polygons zero = unfold order_to in refl
  polygons (suc p) =
      order-suc row head.count p
      ∙ ap₂ (λ (x y : List ℕ). x ++ y) (polygons p) (one-polygon p)
      ∙ sym (rw (add-one p) at (flat_map-range-more of_polygon p))

  pub order_ids-in : order_ids row head.count ≡ order_in row head
  unfolding order_ids order_in
  order_ids-in = polygons max_polygons

-- past the test there are as many leaves by polygon as by id
pub order_in-length : (row : List ℤ) (head : Head) → IsTable row head → length (order_in row head) ≡ length (leaves_in row head)
unfolding order_ids
order_in-length row head e =
    ap length (sym (order_ids-in row head))
    ∙ order-length row head.count max_polygons (formed-poly row head e)
    ∙ ap length (leaf_ids-in row head)

-- and as many as the head says
pub leaves-listed : (row : List ℤ) (head : Head) → IsTable row head → head.leaves ≡ length (leaves_in row head)
leaves-listed row head e =
    (formed-parts row head e).leaves
    ∙ sym (leaf_count-listed (table row head.count))
    ∙ ap (λ (k : ℕ). length (filter (is_leaf (table row head.count)) (range_with_len 0 k))) (length-table row head.count)

pub leaves-by-roots : (row : List ℤ) (head : Head) → IsTable row head → 4 * head.leaves ≡ 3 * head.count + root_count (cells_in row head)
leaves-by-roots row head e =
    ap (λ (k : ℕ). 4 * k) (formed-parts row head e).leaves
    ∙ RootLaw.leaves-by-roots head.max_level (cells_in row head) (formed-facts row head e).cells
    ∙ ap (λ (k : ℕ). 3 * k + root_count (cells_in row head)) (length-table row head.count)

-- what the test of the room needs
pub ruleset lengths = (order_in-length)
