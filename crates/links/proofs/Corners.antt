-- The corners of the pieces are those of the table's leaves by id, in another order; so there are as many different ones. Assumes nothing.
use Rattle.std.proofs.lemmas.Bool.Decides.{nat_tests}
use Rattle.std.proofs.Common.{◌≡◌, refl, sym, ap, ap₂, ◌∙◌, Bool, true, false, ◌&&◌, ◌||◌, List, [], ◌∷◌, map, filter, ℕ, zero, suc, ◌+◌, arith, add-one, ltb, leb, eqb, length, eqb-true, ⊎_elim}
use Rattle.std.specs.List.{list_any, range_with_len, All}
use Rattle.std.proofs.lemmas.List.{ext_get_or}
use Rattle.std.proofs.lemmas.List.Folds.{list_any-append, list_any_none}
use Rattle.std.proofs.lemmas.List.Elements.{All-head, All-tail, All-from_get_or}
use Rattle.std.proofs.lemmas.List.FromFn.{length-map-range_with_len, get_or-map-range_with_len}
use Rattle.cell.specs.Boxes.{Box}
use Rattle.table.specs.Mesh.{Cell, at, past, is_none, is_leaf}
use Rattle.net_rows.specs.declared.rows.Polygons.{Polygons}
use Rattle.net.specs.Net.{Poly, MeshNode, same_node, has, corners_at, corners_of, leaves_of, pieces}
use Rattle.net.proofs.Leaves.{leaves_of-cons, piece_of}
use Rattle.net.proofs.Pieces.{all_corners}
use Rattle.net.proofs.Positions.{test}
use Rattle.net.proofs.Sound.{node-self, node-is}
use Rattle.places.specs.Leaves.{AreKnown, poly_at, polys_of}
use Rattle.links.specs.Count.{cell_corners, corners_below}
use Rattle.links.proofs.Different.{different, different-same}
use Rattle.links.proofs.Marks.{any-alike, any-filter, any-flat}

-- ---- what holds of a list's elements

module _ {A : Type 0} where
  any-or : (p q : A → Bool) (l : List A) → (list_any p l || list_any q l) ≡ list_any (λ a. p a || q a) l
  any-or p q [] = refl
  any-or p q (a ∷ l) = grind (arith, any-or p q l)

  any-map : {B : Type 0} (p : A → Bool) (f : B → A) (l : List B) → list_any p (map f l) ≡ list_any (λ b. p (f b)) l
  any-map p f [] = refl
  any-map p f (b ∷ l) = ap (λ (w : Bool). p (f b) || w) (any-map p f l)

  any-alike_all : (p q : A → Bool) (l : List A) → All (λ a. p a ≡ q a) l → list_any p l ≡ list_any q l
  any-alike_all p q [] h = refl
  any-alike_all p q (a ∷ l) h =
      ap₂ (λ (u w : Bool). u || w) (All-head (λ a. p a ≡ q a) a l h) (any-alike_all p q l (All-tail (λ a. p a ≡ q a) a l h))

-- ---- of the pieces

module _ (cs : List Cell) (f : ℕ → Poly) (p : MeshNode → Bool) where
  -- the leaves of one polygon
  leaves-any : (g : Box → Bool) (l : List Cell) (k : ℕ) → list_any g (leaves_of l k) ≡ list_any (λ c. (is_none c.kids && eqb c.polygon k) && g c.box) l
  leaves-any g [] k = unfold leaves_of in refl
  leaves-any g (c ∷ l) k = grind (arith, leaves_of-cons c l k, leaves-any g l k)

  abbrev of_one : ℕ → Cell → Bool
  of_one k c = (is_none c.kids && eqb c.polygon k) && list_any p (corners_at (f k) c.box)

  one : (k : ℕ) → list_any p (corners_of (piece_of cs (f k) k)) ≡ list_any (of_one k) cs
  unfolding corners_of
  one k = any-flat p (corners_at (f k)) (leaves_of cs k) ∙ leaves-any (λ b. list_any p (corners_at (f k) b)) cs k

  abbrev of_range : ℕ → ℕ → Cell → Bool
  of_range a n c = (is_none c.kids && (leb a c.polygon && ltb c.polygon (a + n))) && list_any p (corners_at (f c.polygon) c.box)

  none : (a : ℕ) (c : Cell) → of_range a 0 c ≡ false
  none a c = grind (arith, nat_tests)

  more : (a n : ℕ) (c : Cell) → (of_one a c || of_range (a + 1) n c) ≡ of_range a (suc n) c
  more a n c =
      ⊎_elim
      (λ (e : eqb c.polygon a ≡ true). (let i = eqb-true c.polygon a e in grind (arith, nat_tests, ap f i)))
      (λ (e : eqb c.polygon a ≡ false). grind (arith, nat_tests))
      (test (eqb c.polygon a))

  from : (a n : ℕ) → list_any p (all_corners (pieces cs (map f (range_with_len a n)) a)) ≡ list_any (of_range a n) cs
  unfolding pieces
  from a zero = sym (list_any_none (of_range a 0) cs (All-from_get_or (λ c. of_range a 0 c ≡ false) cs past (λ i h. none a (at cs i))))
  from a (suc n) =
      let rest = pieces cs (map f (range_with_len (a + 1) n)) in
      list_any-append p (corners_of (piece_of cs (f a) a)) (all_corners (rest (suc a)))
      ∙ (ap₂ (λ (u w : Bool). u || w) (one a) (ap (λ (j : ℕ). list_any p (all_corners (rest j))) (sym (add-one a)) ∙ from (a + 1) n)
      ∙ (any-or (of_one a) (of_range (a + 1) n) cs
      ∙ any-alike (λ c. of_one a c || of_range (a + 1) n c) (of_range a (suc n)) cs (more a n)))

-- ---- of the table

module _ (cs : List Cell) (ps : Polygons) (p : MeshNode → Bool) where
  abbrev of_leaf : Cell → Bool
  of_leaf c = is_none c.kids && list_any p (cell_corners ps c)

  pub pieces-any : AreKnown ps cs → list_any p (all_corners (pieces cs (polys_of ps []) 0)) ≡ list_any of_leaf cs
  pieces-any known =
      let f = poly_at ps [] in
      let n = length ps.layers.now in
      from cs f p 0 n
      ∙ any-alike_all (of_range cs f p 0 n) of_leaf cs
      (All-from_get_or (λ c. of_range cs f p 0 n c ≡ of_leaf c) cs past (λ i h. (let low = known i past h in grind (arith, nat_tests))))

  listed : map (at cs) (range_with_len 0 (length cs)) ≡ cs
  listed =
      let n = length-map-range_with_len (at cs) 0 (length cs) in
      ext_get_or past (map (at cs) (range_with_len 0 (length cs))) cs n (λ i h. get_or-map-range_with_len (at cs) 0 (length cs) i i past (omega arith) (omega arith))

  pub below-any : list_any p (corners_below cs ps (length cs)) ≡ list_any of_leaf cs
  unfolding corners_below
  below-any =
      let ids = range_with_len 0 (length cs) in
      any-flat p (λ i. cell_corners ps (at cs i)) (filter (is_leaf cs) ids)
      ∙ (any-filter (λ i. list_any p (cell_corners ps (at cs i))) (is_leaf cs) ids
      ∙ (sym (any-map of_leaf (at cs) ids)
      ∙ ap (list_any of_leaf) listed))

module _ (cs : List Cell) (ps : Polygons) (known : AreKnown ps cs) where
  abbrev pub of_pieces : List MeshNode
  of_pieces = all_corners (pieces cs (polys_of ps []) 0)

  pub by-id : (p : MeshNode → Bool) → list_any p of_pieces ≡ list_any p (corners_below cs ps (length cs))
  by-id p = pieces-any cs ps p known ∙ sym (below-any cs ps p)

  -- as many different ones pass
  pub different-by_id : (p : MeshNode → Bool) → different same_node (filter p of_pieces) ≡ different same_node (filter p (corners_below cs ps (length cs)))
  unfolding has
  different-by_id p =
      different-same same_node node-self node-is (filter p of_pieces) (filter p (corners_below cs ps (length cs)))
      (λ x. any-filter (λ a. same_node a x) p of_pieces ∙ (by-id (λ a. p a && same_node a x) ∙ sym (any-filter (λ a. same_node a x) p (corners_below cs ps (length cs)))))
