-- The leaves of the net's pieces, in order, are the table's leaves by polygon, then id.
use Rattle.std.proofs.Common.{◌≡◌, refl, sym, ap, ap₂, ◌∙◌, subst, Bool, true, false, ◌&&◌, cond, List, [], ◌∷◌, ◌++◌, map, ℕ, zero, suc, ◌+◌, ◌<◌, ◌≤◌, arith, add-one, eqb, ℤ, Float, length, get_or, filter, eqb-true, ne_eqb, All, if◌then◌else◌}
use Rattle.std.specs.List.{range_with_len, flat_map}
use Rattle.std.proofs.lemmas.List.{ext_get_or, map-append, length-map, get_or-map}
use Rattle.std.proofs.lemmas.List.Elements.{All-nil, All-tail, All-append, All-filter, All-get_or, All-from_get_or}
use Rattle.std.proofs.lemmas.List.FromFn.{length-range_with_len, get_or-range_with_len, length-map-range_with_len, get_or-map-range_with_len}
use Rattle.std.proofs.lemmas.Simd.{map-map}
use Rattle.refusals.specs.Limits.{max_polygons}
use Rattle.table.specs.declared.Head.{Head}
use Rattle.table.specs.Mesh.{Cell, at, past, is_none, is_leaf}
use Rattle.table.specs.Rows.{IsTable, cells_in, leaves_in, order_in}
use Rattle.table.proofs.Cells.{length-table}
use Rattle.table.proofs.Listed.{order_in-length}
use Rattle.net_rows.specs.declared.rows.Polygons.{Polygons}
use Rattle.net.specs.Net.{Poly, leaves_of, pieces}
use Rattle.net.specs.Flat.{Leaf, leaf, leaves_from}
use Rattle.net.proofs.Leaves.{leaves_of-cons}
use Rattle.places.specs.Leaves as Entries
use Rattle.places.specs.Leaves.{poly_at, polys_of, AreKnown, leaf_entry, entries_in, leaf_from, leaf_of, IsSound, AreSound}
use Rattle.places.proofs.Within.{cell_within}

filter_none : {A : Type 0} (p : A → Bool) (xs : List A) → All (λ x. p x ≡ false) xs → filter p xs ≡ []
filter_none p [] h = refl
filter_none p (x ∷ xs) h = rw (h 0 x (omega arith)) (filter_none p xs (All-tail (λ x. p x ≡ false) x xs h))

map-flat_map : {A B C : Type 0} (h : B → C) (g : A → List B) (xs : List A) → flat_map (λ x. map h (g x)) xs ≡ map h (flat_map g xs)
map-flat_map h g [] = refl
map-flat_map {C} h g (x ∷ xs) = ap (λ (l : List C). map h (g x) ++ l) (map-flat_map h g xs) ∙ sym (map-append h (g x) (flat_map g xs))

module _ {A : Type 0} (g : ℕ → List A) where
  none : (a m : ℕ) → ((k : ℕ) → a ≤ k → g k ≡ []) → flat_map g (range_with_len a m) ≡ []
  none a zero e = refl
  none a (suc m) e = ap₂ {C = List A} (λ u w. u ++ w) (e a (omega arith)) (none (a + 1) m (λ k h. e k (omega arith)))

  rest : (a n c : ℕ) → n ≤ c → ((k : ℕ) → a + n ≤ k → g k ≡ []) → flat_map g (range_with_len a n) ≡ flat_map g (range_with_len a c)
  rest a zero c l e = sym (none a c (λ k h. e k (omega arith)))
  rest a (suc n) zero l e = absurd (omega arith)
  rest a (suc n) (suc c) l e = ap (λ (r : List A). g a ++ r) (rest (a + 1) n c (omega arith) (λ k h. e k (omega arith)))

module _ (f : ℕ → Poly) where
  -- the leaf that a cell is, where f k is polygon k
  abbrev leaf_by : Cell → Leaf
  leaf_by c = leaf c.polygon (f c.polygon) c.box

  -- the leaves of one polygon, of cells by number
  own : (at : ℕ → Cell) (k : ℕ) (ids : List ℕ)
      → map (leaf k (f k)) (leaves_of (map at ids) k) ≡ map (λ i. leaf_by (at i)) (filter (λ i. eqb (at i).polygon k) (filter (λ i. is_none (at i).kids) ids))
  unfolding leaves_of
  own at k [] = refl
  own at k (i ∷ ids) =
      ap (map (leaf k (f k))) (leaves_of-cons (at i) (map at ids) k)
      ∙ by (is_none (at i).kids) (eqb (at i).polygon k) refl (own at k ids)
    where
      others : List ℕ
      others = filter (λ i. is_none (at i).kids) ids

      by : (a b : Bool) → eqb (at i).polygon k ≡ b → map (leaf k (f k)) (leaves_of (map at ids) k) ≡ map (λ i. leaf_by (at i)) (filter (λ i. eqb (at i).polygon k) others)
          → ◌≡◌ {A = List Leaf} (map (leaf k (f k)) (if a && b then (at i).box ∷ leaves_of (map at ids) k else leaves_of (map at ids) k))
          (map (λ i. leaf_by (at i)) (filter (λ i. eqb (at i).polygon k) (cond a (i ∷ others) others)))
      by true true e h = rw e (ap₂ {C = List Leaf} (λ u w. u ∷ w) (ap (λ (j : ℕ). leaf j (f j) (at i).box) (sym (eqb-true (at i).polygon k e))) h)
      by true false e h = rw e h
      by false b e h = h

  module _ (cs : List Cell) where
    abbrev ids : List ℕ
    ids = range_with_len 0 (length cs)

    abbrev of_polygon : ℕ → List ℕ
    of_polygon k = filter (λ i. eqb (at cs i).polygon k) (filter (is_leaf cs) ids)

    listed : map (at cs) ids ≡ cs
    listed = ext_get_or past (map (at cs) ids) cs (length-map-range_with_len (at cs) 0 (length cs)) (λ i h.
        let n = length-map-range_with_len (at cs) 0 (length cs) in
        get_or-map-range_with_len (at cs) 0 (length cs) i i past (omega arith) (omega arith))

    from : (a n : ℕ) → leaves_from (pieces cs (map f (range_with_len a n)) a) a ≡ flat_map (λ k. map (λ i. leaf_by (at cs i)) (of_polygon k)) (range_with_len a n)
    unfolding leaves_from pieces
    from a zero = refl
    from a (suc n) =
        ap₂ {C = List Leaf} (λ u w. u ++ w) (ap (λ (l : List Cell). map (leaf a (f a)) (leaves_of l a)) (sym listed) ∙ own (at cs) a ids)
        (ap (λ (j : ℕ). leaves_from (pieces cs (map f (range_with_len (a + 1) n)) j) j) (sym (add-one a)) ∙ from (a + 1) n)

    empty : (n k : ℕ) → All (λ (c : Cell). c.polygon < n) cs → n ≤ k → of_polygon k ≡ []
    empty n k known l =
        filter_none (λ i. eqb (at cs i).polygon k) (filter (is_leaf cs) ids)
        (All-filter (is_leaf cs) (λ i. eqb (at cs i).polygon k ≡ false) ids (All-from_get_or (λ i. eqb (at cs i).polygon k ≡ false) ids 0 (λ i h.
        let m = length-range_with_len 0 (length cs) in
        let e = get_or-range_with_len 0 (length cs) i 0 (omega arith) in
        let p = known (get_or ids i 0) past (omega arith) in
        ne_eqb (at cs (get_or ids i 0)).polygon k (λ z. absurd (omega arith)))))

    board_leaves : (n most : ℕ) → n ≤ most → All (λ (c : Cell). c.polygon < n) cs
        → leaves_from (pieces cs (map f (range_with_len 0 n)) 0) 0 ≡ map (λ i. leaf_by (at cs i)) (flat_map of_polygon (range_with_len 0 most))
    board_leaves n most l known =
        from 0 n
        ∙ map-flat_map (λ i. leaf_by (at cs i)) of_polygon (range_with_len 0 n)
        ∙ ap (map (λ i. leaf_by (at cs i))) (rest of_polygon 0 n most l (λ k q. empty n k known (omega arith)))

-- ---- the order that a table gives

all_flat : (P : ℕ → Type 0) (g : ℕ → List ℕ) (xs : List ℕ) → ((x : ℕ) → All P (g x)) → All P (flat_map g xs)
all_flat P g [] h = All-nil P
all_flat P g (x ∷ xs) h = All-append P (g x) (flat_map g xs) (h x) (all_flat P g xs h)

module _ (row : List ℤ) (head : Head) where
  -- its ids are the table's
  pub order_below : (v : ℕ) → v < length (order_in row head) → get_or (order_in row head) v 0 < head.count
  unfolding order_in
  order_below v h =
      let cs = cells_in row head in
      let low : All (λ i. i < head.count) (range_with_len 0 head.count) = All-from_get_or (λ i. i < head.count) (range_with_len 0 head.count) 0 (λ i l.
      let n = length-range_with_len 0 head.count in
      omega (arith, get_or-range_with_len 0 head.count i 0 (omega arith))) in
      All-get_or (λ i. i < head.count) (order_in row head) v 0 h
      (all_flat (λ i. i < head.count) (λ p. filter (λ i. eqb (at cs i).polygon p) (filter (is_leaf cs) (range_with_len 0 head.count))) (range_with_len 0 max_polygons)
      (λ p. All-filter (λ i. eqb (at cs i).polygon p) (λ i. i < head.count) (filter (is_leaf cs) (range_with_len 0 head.count)) (All-filter (is_leaf cs) (λ i. i < head.count) (range_with_len 0 head.count) low)))

  pub entries-length : IsTable row head → length (entries_in row head) ≡ length (leaves_in row head)
  entries-length e = length-map (order_in row head) (λ id. leaf_entry (at (cells_in row head) id)) ∙ order_in-length row head e

  module _ (ps : Polygons) (sheets : List Float) where
    -- the leaves of the rows are those of the pieces
    pub entries_are : length ps.layers.now ≤ max_polygons → AreKnown ps (cells_in row head)
        → Entries.leaves_of ps sheets (entries_in row head) ≡ leaves_from (pieces (cells_in row head) (polys_of ps sheets) 0) 0
    unfolding order_in
    entries_are few known =
        let cs = cells_in row head in
        map-map (λ e. leaf_of ps sheets (leaf_from e)) (λ id. leaf_entry (at cs id)) (order_in row head)
        ∙ ap (λ (n : ℕ). map (λ i. leaf_by (poly_at ps sheets) (at cs i)) (flat_map (λ k. filter (λ i. eqb (at cs i).polygon k) (filter (is_leaf cs) (range_with_len 0 n))) (range_with_len 0 max_polygons))) (sym (length-table row head.count))
        ∙ sym (board_leaves (poly_at ps sheets) cs (length ps.layers.now) max_polygons few known)

    -- and sound
    pub entries_sound : IsTable row head → AreKnown ps (cells_in row head) → AreSound (length ps.layers.now) (entries_in row head)
    entries_sound formed known v h =
        let n = length-map (order_in row head) (λ id. leaf_entry (at (cells_in row head) id)) in
        let i = get_or (order_in row head) v 0 in
        let below = order_below v (omega arith) in
        let size = length-table row head.count in
        subst (λ e. IsSound (length ps.layers.now) (leaf_from e)) (sym (get_or-map (λ id. leaf_entry (at (cells_in row head) id)) (order_in row head) v 0 [] (omega arith)))
        (record { polygon = known i past (omega arith); within = cell_within row head formed i below })
