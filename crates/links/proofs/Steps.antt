-- What one leaf more adds to the different corners inside a footprint. Assumes nothing.
use Rattle.std.proofs.lemmas.Bool.Decides.{nat_tests}
use Rattle.std.proofs.Common.{◌≡◌, refl, sym, ap, ap₂, ◌∙◌, Bool, true, false, cond, ◌&&◌, not, List, [], ◌∷◌, ◌++◌, append_assoc, append-nil, filter, ℕ, ◌+◌, ◌*◌, min, max, arith, mul-le-mul, eqb, eqb-true, ⊎_elim}
use Rattle.std.specs.List.{count_by, flat_map, IsDistinct, AllByRecursion}
use Rattle.std.proofs.lemmas.Grind.{flat_map-append}
use Rattle.std.proofs.lemmas.List.Elements.{filter-append}
use Rattle.std.proofs.lemmas.List.Sums.{sum_by-cons}
use Rattle.cell.specs.Boxes.{Box, HasArea}
use Rattle.table.specs.Mesh.{Cell, at, is_leaf}
use Rattle.table.proofs.Ids.{ids_to, ids-yes, ids-no}
use Rattle.net_rows.specs.Nodes.{in_ticks}
use Rattle.net_rows.specs.declared.rows.Polygons.{Polygons}
use Rattle.net.specs.Net.{Poly, MeshNode, has, weld, same_node, corners_at}
use Rattle.net.proofs.Positions.{test}
use Rattle.net.proofs.Sound.{node-self, node-is}
use Rattle.places.specs.Leaves.{poly_at}
use Rattle.links.specs.declared.rows.Footprint.{Footprint}
use Rattle.links.specs.Made.{is_of, covers}
use Rattle.links.specs.Count.{is_class, is_leaf_of, cell_corners, corners_below, inside_below, new_inside, is_new_inside, leaf_adds, one_if, node, IsCount, IsTotal, most}
use Rattle.links.specs.declared.count.Counting.{Counting}
use Rattle.net.proofs.Keys.{both}
use Rattle.table.proofs.All.{and_right}
use Rattle.links.proofs.Different.{different, different-more, has-filter, has-append, has-cons, has-nil}

-- ---- lists

module _ {A : Type 0} (same : A → A → Bool) (self : (a : A) → same a a ≡ true) (exact : (a b : A) → same a b ≡ true → a ≡ b) (p : A → Bool) where
  -- those of a list that pass and are not in another
  abbrev news : List A → List A → ℕ
  news l m = count_by (λ a. p a && not (has same l a)) m

  news-cons : (l : List A) (a : A) (m : List A) → news l (a ∷ m) ≡ cond (p a && not (has same l a)) 1 0 + news l m
  news-cons l a m = sum_by-cons (λ a. cond (p a && not (has same l a)) 1 0) a m

  -- one more in the one list does not count in the other
  apart : (l : List A) (a : A) (m : List A) → AllByRecursion (λ b. same a b ≡ false) m → news (l ++ (a ∷ [])) m ≡ news l m
  apart l a [] d = refl
  apart l a (b ∷ m) d =
      grind (arith, news-cons (l ++ (a ∷ [])) b m, news-cons l b m, apart l a m d.1, d.0, has-append same l (a ∷ []) b, has-cons same a [] b, has-nil same b)

  added-one : (l : List A) (a : A) → different same (filter p (l ++ (a ∷ []))) ≡ different same (filter p l) + cond (p a && not (has same l a)) 1 0
  added-one l a =
      grind (arith, filter-append p l (a ∷ []), append-nil (filter p l), different-more same self exact (filter p l) a, has-filter same self exact p l a)

  pub added : (l m : List A) → IsDistinct same m → different same (filter p (l ++ m)) ≡ different same (filter p l) + news l m
  unfolding IsDistinct
  added l [] d = ap (λ (z : List A). different same (filter p z)) (append-nil l) ∙ omega arith
  added l (a ∷ m) d =
      ap (λ (z : List A). different same (filter p z)) (sym (append_assoc l (a ∷ []) m))
      ∙ (added (l ++ (a ∷ [])) m d.1
      ∙ omega (arith, added-one l a, apart l a m d.0, news-cons l a m))

-- ---- corners

corners-distinct : (p : Poly) (r : Box) → HasArea r → IsDistinct same_node (corners_at p r)
unfolding IsDistinct
corners-distinct p r h =
    let x = h.0 in
    let y = h.1 in (
      (grind (arith, nat_tests), (grind (arith, nat_tests), (grind (arith, nat_tests), tt))),
      ((grind (arith, nat_tests), (grind (arith, nat_tests), tt)), ((grind (arith, nat_tests), tt), (tt, tt))),
    )

module _ (cs : List Cell) (ps : Polygons) where
  below-leaf : (i : ℕ) → is_leaf cs i ≡ true → corners_below cs ps (i + 1) ≡ corners_below cs ps i ++ cell_corners ps (at cs i)
  unfolding corners_below ids_to
  below-leaf i e =
      let g = λ (i : ℕ). cell_corners ps (at cs i) in
      ap (flat_map g) (ids-yes (is_leaf cs) i e)
      ∙ (flat_map-append g (ids_to (is_leaf cs) i) (i ∷ [])
      ∙ ap (λ (l : List MeshNode). flat_map g (ids_to (is_leaf cs) i) ++ l) (append-nil (g i)))

  below-other : (i : ℕ) → is_leaf cs i ≡ false → corners_below cs ps (i + 1) ≡ corners_below cs ps i
  unfolding corners_below ids_to
  below-other i e = ap (flat_map (λ (i : ℕ). cell_corners ps (at cs i))) (ids-no (is_leaf cs) i e)

  module _ (f : Footprint) (layer component : ℕ) where
    abbrev covered : MeshNode → Bool
    covered m = is_of layer component (in_ticks m) && covers f (in_ticks m)

    -- of a leaf of the class every corner that is covered, and of another none
    of-class : (l : List MeshNode) (c : Cell)
        → count_by (λ m. covered m && not (has same_node l m)) (cell_corners ps c)
        ≡ cond (is_class ps layer component c.polygon) (count_by (λ m. covers f (in_ticks m) && not (has same_node l m)) (cell_corners ps c)) 0
    of-class l c = by (is_class ps layer component c.polygon) refl
      where
        by : (b : Bool) → is_class ps layer component c.polygon ≡ b
            → count_by (λ m. covered m && not (has same_node l m)) (cell_corners ps c)
            ≡ cond b (count_by (λ m. covers f (in_ticks m) && not (has same_node l m)) (cell_corners ps c)) 0
        by true e = rw e refl
        by false e = rw e refl

    -- what leaf i adds
    pub step : (i : ℕ) → HasArea (at cs i).box
        → inside_below cs ps f layer component (i + 1) ≡ inside_below cs ps f layer component i + cond (is_leaf_of cs ps layer component i) (new_inside cs ps f i) 0
    unfolding inside_below different new_inside
    step i h =
        ⊎_elim
        (λ (e : is_leaf cs i ≡ true).
        ap (λ (l : List MeshNode). different same_node (filter covered l)) (below-leaf i e)
        ∙ (added same_node node-self node-is covered (corners_below cs ps i) (cell_corners ps (at cs i)) (corners-distinct (poly_at ps [] (at cs i).polygon) (at cs i).box h)
        ∙ ap (λ (n : ℕ). different same_node (filter covered (corners_below cs ps i)) + n)
        (of-class (corners_below cs ps i) (at cs i) ∙ ap (λ (b : Bool). cond (b && is_class ps layer component (at cs i).polygon) (new_inside cs ps f i) 0) (sym e))))
        (λ (e : is_leaf cs i ≡ false).
        ap (λ (l : List MeshNode). different same_node (filter covered l)) (below-other i e)
        ∙ rw e (omega arith))
        (test (is_leaf cs i))

    pub begin : inside_below cs ps f layer component 0 ≡ 0
    unfolding inside_below corners_below weld
    begin = refl

    -- it adds its four corners, those that count
    pub leaf-four : (i : ℕ) (b : Box) → is_leaf_of cs ps layer component i ≡ true → b ≡ (at cs i).box
        → leaf_adds cs ps f layer component i
        ≡ one_if (is_new_inside cs ps f i (node layer component b.x0 b.y0))
        + one_if (is_new_inside cs ps f i (node layer component b.x1 b.y0))
        + one_if (is_new_inside cs ps f i (node layer component b.x1 b.y1))
        + one_if (is_new_inside cs ps f i (node layer component b.x0 b.y1))
    unfolding new_inside
    leaf-four i b e q = rw (q, e) (by (poly_at ps [] (at cs i).polygon).layer (poly_at ps [] (at cs i).polygon).component (eqb-true _ _ class.0) (eqb-true _ _ class.1))
      where
        class : (eqb (poly_at ps [] (at cs i).polygon).layer layer ≡ true) × (eqb (poly_at ps [] (at cs i).polygon).component component ≡ true)
        class = both _ _ (and_right (is_leaf cs i) (is_class ps layer component (at cs i).polygon) e)

        new : ℕ → ℕ → ℕ → ℕ → ℕ
        new l k x y = one_if (is_new_inside cs ps f i (node l k x y))

        by : (l k : ℕ) → l ≡ layer → k ≡ component
            → 0 + new l k (at cs i).box.x0 (at cs i).box.y0 + new l k (at cs i).box.x1 (at cs i).box.y0 + new l k (at cs i).box.x1 (at cs i).box.y1 + new l k (at cs i).box.x0 (at cs i).box.y1
            ≡ new layer component (at cs i).box.x0 (at cs i).box.y0 + new layer component (at cs i).box.x1 (at cs i).box.y0 + new layer component (at cs i).box.x1 (at cs i).box.y1 + new layer component (at cs i).box.x0 (at cs i).box.y1
        by l k u w = rw (u, w) (omega arith)

-- ---- counts

pub count-sum : {c : Counting} {m n a b : ℕ} → IsCount c m a → IsCount c n b → IsCount c (m + n) (a + b)
count-sum p q =
    let x = p.bound in
    let y = q.bound in
    record { bound = omega arith; exact = λ e. ap₂ (λ (u w : ℕ). u + w) (p.exact e) (q.exact e) }

pub count-zero : (c : Counting) → IsCount c 0 0
count-zero c = record { bound = omega arith; exact = λ e. refl }

pub count-max : {c : Counting} {n a : ℕ} (k : ℕ) → IsCount c n a → IsCount c (max n k) (max a k)
count-max k p =
    let x = p.bound in
    record { bound = omega arith; exact = λ e. ap (λ (u : ℕ). max u k) (p.exact e) }

pub count-product : {c : Counting} {m n a b : ℕ} → IsCount c m a → IsCount c n b → IsCount c (m * n) (a * b)
count-product {c} {m} {n} {a} {b} p q =
    let x = p.bound in
    let y = q.bound in
    record { bound = mul-le-mul x y; exact = λ e. ap₂ (λ (u w : ℕ). u * w) (p.exact e) (q.exact e) }

-- ---- totals, which stop at the largest number

pub total-more : {c : Counting} {n s k r : ℕ} → IsTotal c n s → IsCount c k r → IsTotal c (n + k) (min (s + r) most)
total-more p q =
    let x = p.bound in
    let y = q.bound in
    record { bound = omega arith; exact = λ e. (let u = p.exact e in let w = q.exact e in omega arith) }

pub totals-sum : {c : Counting} {m a n b : ℕ} → IsTotal c m a → IsTotal c n b → IsTotal c (m + n) (min (a + b) most)
totals-sum p q =
    let x = p.bound in
    let y = q.bound in
    record { bound = omega arith; exact = λ e. (let u = p.exact e in let w = q.exact e in omega arith) }

pub total-of : (c : Counting) (n a : ℕ) → a ≡ min n most → IsTotal c n a
total-of c n a e = record { bound = omega arith; exact = λ _. e }
