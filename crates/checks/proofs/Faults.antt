-- Laws of the first fault, and of the polygons' test. Assumes nothing.
use Rattle.std.proofs.Common.{ℕ, zero, suc, ◌<◌, ◌≡◌, refl, ap, ◌∙◌, true, arith, List, [], ◌∷◌, ◌++◌, length, take, get_or, slice_get, Option, None, Some, ltb, ℤ, sym}
use Rattle.std.specs.List.{filter_map, range_with_len}
use Rattle.std.proofs.lemmas.List.Elements.{All-filter, All-from_get_or, filter_map-append}
use Rattle.std.proofs.lemmas.List.FromFn.{get_or-range_with_len, length-range_with_len}
use Rattle.table.specs.declared.Head.{Head}
use Rattle.table.specs.Rows.{cells_in, leaves_in}
use Rattle.std.proofs.lemmas.Bool.{and_parts, eqb-true, ltb-true}
use Rattle.std.proofs.lemmas.List.Sums.{AllPass-from_list_all}
use Rattle.cell.proofs.Offsets.{off-le}
use Rattle.table.specs.Slots.{cell_at}
use Rattle.table.specs.Mesh.{Cell, past, table, is_leaf}
use Rattle.table.proofs.Cells.{length-table, at_table}
use Rattle.net_rows.specs.Polygons.{polygons_fit}
use Rattle.checks.specs.Sides.{NearCell}

-- the first that is found is at the head of all that are found
module _ {X Y : Type 0} (f : X → Option Y) where
  first_found : (xs : List X) (k : ℕ) (d : X) (y : Y) → k < length xs → filter_map f (take k xs) ≡ [] → f (get_or xs k d) ≡ Some y → slice_get (filter_map f xs) 0 ≡ Some y
  first_found [] k d y h e g = absurd (omega arith)
  first_found (x ∷ xs) zero d y h e g = rw g refl
  first_found (x ∷ xs) (suc k) d y h e g = by (f x) refl (λ p. first_found xs k d y (omega arith) (rw p at e) g)
    where
      by : (o : Option Y) → f x ≡ o → (f x ≡ None → slice_get (filter_map f xs) 0 ≡ Some y) → slice_get (filter_map f (x ∷ xs)) 0 ≡ Some y
      by None p rest = rw p (rest p)
      by (Some z) p rest = absurd (let q = rw p at e in cc)

  -- xs gave none; what comes next gives none either
  pub none_more : (xs : List X) (x : X) → filter_map f xs ≡ [] → f x ≡ None → filter_map f (xs ++ x ∷ []) ≡ []
  none_more xs x e g = filter_map-append f xs (x ∷ []) ∙ rw (e, g) refl

  -- ys in front of xs gave none; what comes next gives the first
  pub found_at : (xs ys : List X) (x : X) (y : Y) → ys ≡ take (length ys) xs → length ys < length xs → x ≡ get_or xs (length ys) x → filter_map f ys ≡ [] → f x ≡ Some y → Some y ≡ slice_get (filter_map f xs) 0
  found_at xs ys x y s h e n p = sym (first_found xs (length ys) x y h (ap (filter_map f) (sym s) ∙ n) (ap f (sym e) ∙ p))

-- the ids of leaves are ids of cells
pub leaf-inside : (t : List ℤ) (head : Head) (k d : ℕ) → k < length (leaves_in t head) → get_or (leaves_in t head) k d < head.count
leaf-inside t head k d h =
    All-filter (is_leaf (cells_in t head)) (λ i. i < head.count) (range_with_len 0 head.count)
    (All-from_get_or (λ i. i < head.count) (range_with_len 0 head.count) 0 (λ i g. let h = long i g in let e = get_or-range_with_len 0 head.count i 0 h in omega arith)) k d h
  where
    long : (i : ℕ) → i < length (range_with_len 0 head.count) → i < head.count
    long i g = omega (arith, length-range_with_len 0 head.count)

-- the cells of a table have coordinates in range
pub near-cell : (t : List ℤ) (i : ℕ) → NearCell (cell_at t i)
unfolding cell_at
near-cell t i = record { west = off-le _; south = off-le _; east = off-le _; north = off-le _ }

-- what the test of the polygons says
pub fit-facts : (t : List ℤ) (n : ℕ) (layers components : List ℕ) → polygons_fit (table t n) layers components ≡ true
    → (length layers ≡ length components) × ((i : ℕ) → i < n → (cell_at t i).poly < length layers)
fit-facts t n layers components e =
    let p = and_parts _ _ e in
    let below = AllPass-from_list_all (λ (c : Cell). ltb c.polygon (length layers)) (table t n) p.1 in
    (eqb-true _ _ p.0, λ i h. ltb-true _ _ (rw (at_table t n i h) at (below i past (rw length-table h))))
