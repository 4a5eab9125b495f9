-- Which polygons have a leaf, and which layers and components. Assumes nothing.
use Rattle.std.proofs.lemmas.Bool.Decides.{nat_tests}
use Rattle.std.proofs.Common.{◌≡◌, refl, sym, ap, ap₂, ◌∙◌, subst, Bool, true, false, ◌&&◌, ◌||◌, List, [], ◌∷◌, filter, zero-add, ℕ, ◌+◌, ◌≤◌, ◌<◌, arith, eqb, ℤ, pos, ◌*◌, length, get_or, set, take, get_or-set_same, get_or-set_other, eqb-true, eq-eqb, ⊎_elim}
use Rattle.std.specs.List.{list_any, range_with_len, flat_map}
use mathlib.Core.Bool.{false≢true}
use Rattle.std.proofs.lemmas.List.Folds.{list_any_more, list_any-append, list_any_at, list_any_none}
use Rattle.std.proofs.lemmas.List.Elements.{All-from_get_or, All-weaker}
use Rattle.std.proofs.lemmas.List.FromFn.{length-range_with_len, get_or-range_with_len}
use Rattle.refusals.specs.Limits.{max_polygons}
use Rattle.table.specs.declared.Head.{Head}
use Rattle.cell.specs.Boxes.{Box}
use Rattle.cell.specs.Ticks.{off}
use Rattle.cell.specs.Cells.{box_of}
use Rattle.table.specs.Slots.{cell_at}
use Rattle.table.specs.Mesh.{Cell, at, past, is_none, is_leaf}
use Rattle.table.specs.Rows.{IsTable, cells_in}
use Rattle.table.proofs.Shape.{formed-poly}
use Rattle.table.proofs.Tables.{polygon_read}
use Rattle.table.proofs.Cells.{at_table}
use Rattle.table.proofs.All.{and_left, and_right, and_both, never, top?}
use Rattle.net_rows.specs.declared.rows.Polygons.{Polygons}
use Rattle.net.specs.Net.{MeshNode, has, same_node}
use Rattle.places.specs.Leaves.{AreKnown}
use Rattle.links.specs.Count.{has_leaf, is_class, has_class, cell_corners, corners_below, has_corner, meets}

pub below_most : (row : List ℤ) (head : Head) → IsTable row head → (i : ℕ) → i < head.count → (at (cells_in row head) i).polygon < max_polygons
below_most row head e i h = subst (λ (p : ℕ). p < max_polygons) (polygon_read row head.count i h) (formed-poly row head e i h)

-- a cell's box as it stands in the row
box-read : (row : List ℤ) (head : Head) (i : ℕ) → i < head.count → box_of (cell_at row i) ≡ (at (cells_in row head) i).box
box-read row head i h = sym (ap (λ (c : Cell). c.box) (at_table row head.count i h))

-- its sides, one by one
module _ (row : List ℤ) (head : Head) (i : ℕ) (h : i < head.count) where
  pub west-read : off (get_or row (i * 8) (pos 0)) ≡ (at (cells_in row head) i).box.x0
  unfolding cell_at
  west-read = ap (λ (b : Box). b.x0) (box-read row head i h)

  pub south-read : off (get_or row (i * 8 + 1) (pos 0)) ≡ (at (cells_in row head) i).box.y0
  unfolding cell_at
  south-read = ap (λ (b : Box). b.y0) (box-read row head i h)

  pub east-read : off (get_or row (i * 8 + 2) (pos 0)) ≡ (at (cells_in row head) i).box.x1
  unfolding cell_at
  east-read = ap (λ (b : Box). b.x1) (box-read row head i h)

  pub north-read : off (get_or row (i * 8 + 3) (pos 0)) ≡ (at (cells_in row head) i).box.y1
  unfolding cell_at
  north-read = ap (λ (b : Box). b.y1) (box-read row head i h)

pub ruleset sides_read = (west-read, south-read, east-read, north-read)

-- an id of one turn more
pub one-further : (P : ℕ → Type 0) (n : ℕ) → ((i : ℕ) → i < n → P i) → P n → (i : ℕ) → i < n + 1 → P i
one-further P n f p i h = ⊎_elim (f i) (λ (e : i ≡ n). subst P (sym e) p) (top? i n (omega arith))

module _ (cs : List Cell) where
  -- the polygons of the first cells are marked
  abbrev pub Marked : List Bool → ℕ → Type 0
  Marked marks n = (k : ℕ) → k < max_polygons → get_or marks k false ≡ has_leaf (take n cs) k

  one-more : (n k : ℕ) → n < length cs → has_leaf (take (n + 1) cs) k ≡ (has_leaf (take n cs) k || (is_leaf cs n && eqb (at cs n).polygon k))
  unfolding has_leaf
  one-more n k h = list_any_more (λ c. is_none c.kids && eqb c.polygon k) cs n past h

  pub mark-more : (marks : List Bool) (n : ℕ) → length marks ≡ max_polygons → n < length cs → is_leaf cs n ≡ true → Marked marks n → Marked (set marks (at cs n).polygon true) (n + 1)
  mark-more marks n l h e m k low =
      grind (arith, nat_tests, one-more n k h, m k low, get_or-set_same marks k true false, get_or-set_other marks (at cs n).polygon k true false)

  pub mark-skip : (marks : List Bool) (n : ℕ) → n < length cs → is_leaf cs n ≡ false → Marked marks n → Marked marks (n + 1)
  mark-skip marks n h e m k low = grind (arith, nat_tests, one-more n k h, m k low)

-- ---- what holds of a list's elements

module _ {A : Type 0} where
  pub any-follows : (p q : A → Bool) (l : List A) → ((a : A) → p a ≡ true → q a ≡ true) → list_any p l ≡ true → list_any q l ≡ true
  any-follows p q [] h e = e
  any-follows p q (a ∷ l) h e = grind (arith, h a, any-follows p q l h)

  pub any-alike : (p q : A → Bool) (l : List A) → ((a : A) → p a ≡ q a) → list_any p l ≡ list_any q l
  any-alike p q [] h = refl
  any-alike p q (a ∷ l) h = ap₂ (λ (u w : Bool). u || w) (h a) (any-alike p q l h)

  pub any-filter : (p q : A → Bool) (l : List A) → list_any p (filter q l) ≡ list_any (λ a. q a && p a) l
  any-filter p q [] = refl
  any-filter p q (a ∷ l) = grind (arith, any-filter p q l)

  pub any-flat : {B : Type 0} (p : A → Bool) (f : B → List A) (l : List B) → list_any p (flat_map f l) ≡ list_any (λ b. list_any p (f b)) l
  any-flat p f [] = refl
  any-flat p f (b ∷ l) = list_any-append p (f b) (flat_map f l) ∙ ap (λ (w : Bool). list_any p (f b) || w) (any-flat p f l)

-- ids below k of which one passes, and of which none does
pub some-below : (p : ℕ → Bool) (k i : ℕ) → i < k → p i ≡ true → list_any p (range_with_len 0 k) ≡ true
some-below p k i h e =
    let n = length-range_with_len 0 k in
    list_any_at p (range_with_len 0 k) i 0 (omega arith) (ap p (get_or-range_with_len 0 k i 0 h ∙ zero-add i) ∙ e)

pub none-below : (p : ℕ → Bool) (k : ℕ) → ((i : ℕ) → i < k → p i ≡ false) → list_any p (range_with_len 0 k) ≡ false
none-below p k h =
    let n = length-range_with_len 0 k in
    list_any_none p (range_with_len 0 k) (All-from_get_or (λ i. p i ≡ false) (range_with_len 0 k) 0 (λ i l. ap p (get_or-range_with_len 0 k i 0 (omega arith) ∙ zero-add i) ∙ h i (omega arith)))

-- ---- the polygons' leaves

module _ (cs : List Cell) (ps : Polygons) (known : AreKnown ps cs) where
  -- past the last polygon there is no leaf
  pub no-leaf : (k : ℕ) → length ps.layers.now ≤ k → has_leaf cs k ≡ false
  unfolding has_leaf
  no-leaf k h =
      list_any_none (λ c. is_none c.kids && eqb c.polygon k) cs
      (All-weaker (λ c. c.polygon < length ps.layers.now) (λ c. (is_none c.kids && eqb c.polygon k) ≡ false) (λ c l. grind (arith, nat_tests)) cs known)

  module _ (layer component : ℕ) where
    pub class-some : (k : ℕ) → is_class ps layer component k ≡ true → has_leaf cs k ≡ true → has_class cs ps layer component ≡ true
    unfolding has_leaf has_class
    class-some k e h =
        any-follows (λ c. is_none c.kids && eqb c.polygon k) (λ c. is_none c.kids && is_class ps layer component c.polygon) cs
        (λ c f. and_both (is_none c.kids) (is_class ps layer component c.polygon) (and_left (is_none c.kids) (eqb c.polygon k) f)
        (ap (is_class ps layer component) (eqb-true c.polygon k (and_right (is_none c.kids) (eqb c.polygon k) f)) ∙ e))
        h

    pub class-none : ((k : ℕ) → k < length ps.layers.now → (is_class ps layer component k && has_leaf cs k) ≡ false) → has_class cs ps layer component ≡ false
    unfolding has_leaf has_class
    class-none h =
        list_any_none (λ c. is_none c.kids && is_class ps layer component c.polygon) cs
        (All-from_get_or (λ c. (is_none c.kids && is_class ps layer component c.polygon) ≡ false) cs past (λ i l.
        never (is_none (at cs i).kids && is_class ps layer component (at cs i).polygon) (λ e.
        let k = (at cs i).polygon in
        let leaf = and_left (is_none (at cs i).kids) (is_class ps layer component k) e in
        let class = and_right (is_none (at cs i).kids) (is_class ps layer component k) e in
        let there = list_any_at (λ c. is_none c.kids && eqb c.polygon k) cs i past l (and_both (is_none (at cs i).kids) (eqb k k) leaf (eq-eqb k k refl)) in
        false≢true (sym (h k (known i past l)) ∙ and_both (is_class ps layer component k) (has_leaf cs k) class there))))

-- ---- corners that an earlier leaf has

module _ (cs : List Cell) (ps : Polygons) (m : MeshNode) where
  corner-class : (c : Cell) → has same_node (cell_corners ps c) m ≡ (is_class ps m.layer m.component c.polygon && has_corner c.box m)
  unfolding has
  corner-class c = grind arith

  module _ (k : ℕ) where
    met-by : has same_node (corners_below cs ps k) m ≡ list_any (meets cs ps m) (range_with_len 0 k)
    unfolding has corners_below
    met-by =
        any-flat (λ a. same_node a m) (λ i. cell_corners ps (at cs i)) (filter (is_leaf cs) (range_with_len 0 k))
        ∙ (any-filter (λ i. list_any (λ a. same_node a m) (cell_corners ps (at cs i))) (is_leaf cs) (range_with_len 0 k)
        ∙ any-alike (λ i. is_leaf cs i && list_any (λ a. same_node a m) (cell_corners ps (at cs i))) (meets cs ps m) (range_with_len 0 k)
        (λ i. grind (arith, corner-class (at cs i))))

    pub met-some : (i : ℕ) → i < k → meets cs ps m i ≡ true → has same_node (corners_below cs ps k) m ≡ true
    met-some i h e = met-by ∙ some-below (meets cs ps m) k i h e

    pub met-none : ((i : ℕ) → i < k → meets cs ps m i ≡ false) → has same_node (corners_below cs ps k) m ≡ false
    met-none h = met-by ∙ none-below (meets cs ps m) k h
