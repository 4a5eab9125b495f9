-- The law of roots and leaves: each split cell has four children, and each cell that isn't a root is one of its
-- parent's four. So four times the leaves are three times the cells, and the roots. Assumes nothing.
use Rattle.std.proofs.Common.{ℕ, zero, suc, ◌+◌, ◌*◌, ◌<◌, ◌≤◌, ◌≡◌, refl, sym, ap, subst, ◌∙◌, Bool, true, false, not, ◌&&◌, List, Option, None, Some, arith, ltb, eqb, length, length-append, lt-ltb, eq-eqb, eqb-true, ne_eqb, ◌≢◌, cond, ℤ, add-zero}
use mathlib.Core.Bool.{false≢true}
use Rattle.std.specs.Prelude.{unwrap_or}
use Rattle.std.proofs.lemmas.List.Sums.{sum_by_push, count_by-le-length}
use Rattle.cell.specs.Boxes.{num, quad_at}
use Rattle.cell.specs.Cells.{no_cell}
use Rattle.table.specs.Slots.{cell_at}
use Rattle.table.specs.Mesh.{Cell, past, at, is_none, is_leaf, leaf_count, root_count, mesh_cell, table}
use Rattle.table.specs.Formed.{Born, Split, Formed}
use Rattle.table.proofs.All.{never}
use Rattle.table.proofs.Ids.{one_if, ids_to, ids-none, ids-more, ids-same, ids-idle, ids-run, ids-others, count-ids}
use Rattle.table.proofs.Order.{under, exactly, one-part, none-under}
use Rattle.table.proofs.Cells.{length-table, table_more}
use Rattle.table.proofs.Meshes.{not_some, some_is, num-below, kids-in}
use Rattle.table.proofs.Wellformed.{num-quad}

-- ---- of one cell

none-is : (o : Option ℕ) → is_none o ≡ true → o ≡ None
none-is None e = refl
none-is (Some v) e = absurd (false≢true e)

some-of : (o : Option ℕ) → is_none o ≡ false → (v : ℕ) × (o ≡ Some v)
some-of None e = absurd (false≢true (sym e))
some-of (Some v) e = (v, refl)

is-some : (o : Option ℕ) (v : ℕ) → (not (is_none o) && eqb (unwrap_or o 0) v) ≡ true → o ≡ Some v
is-some None v e = absurd (false≢true e)
is-some (Some w) v e = ap Some (eqb-true w v e)

some-is : (o : Option ℕ) (v : ℕ) → o ≡ Some v → (not (is_none o) && eqb (unwrap_or o 0) v) ≡ true
some-is o v e = rw e (eq-eqb v v refl)

-- ---- of all

module _ (M : ℕ) (t : List Cell) (formed : Formed M t) where
  abbrev n : ℕ
  n = length t

  abbrev root : ℕ → Bool
  root i = is_none (at t i).parent

  abbrev born : ℕ → Bool
  born i = not (root i)

  abbrev parent : ℕ → ℕ
  parent i = unwrap_or (at t i).parent 0

  child-of : (p i : ℕ) → i < n → exactly born parent p i ≡ true → Born t i p
  unfolding exactly
  child-of p i h e = formed.born i p h (is-some (at t i).parent p e)

  -- a leaf is no cell's parent
  leaf-part : (p : ℕ) → is_leaf t p ≡ true → length (ids_to (exactly born parent p) n) ≡ 0
  leaf-part p e =
      ids-idle (exactly born parent p) 0 n (omega arith)
      (λ i a h. never (exactly born parent p i) (λ y.
      let b = child-of p i h y in
      not_some (at t p).kids b.first (none-is (at t p).kids e) b.split))
      ∙ ap length (ids-none (exactly born parent p))

  -- and a split cell that of its four
  other : (p f i : ℕ) → (at t p).kids ≡ Some f → i < n → (f ≤ i → i < f + 4 → ⊥) → exactly born parent p i ≡ false
  other p f i e h out =
      never (exactly born parent p i) (λ y.
      let b = child-of p i h y in
      let a = some_is (at t p).kids b.first f b.split e in
      let d = b.here in
      let c = num-below b.place in
      out (omega arith) (omega arith))

  here : (p f : ℕ) → Split M t p f → (k : ℕ) → k < 4 → exactly born parent p (f + k) ≡ true
  unfolding exactly
  here p f s k h =
      subst (λ (j : ℕ). exactly born parent p (f + j) ≡ true) (num-quad k h)
      (some-is (at t (f + num (quad_at k))).parent p (s.kid (quad_at k)).parent)

  split-part : (p : ℕ) → is_leaf t p ≡ false → length (ids_to (exactly born parent p) n) ≡ 4
  split-part p e =
      let o = some-of (at t p).kids e in
      let f = o.0 in
      let s = formed.split p f o.1 in
      let below = s.below in
      let front = ids-idle (exactly born parent p) 0 f (omega arith) (λ i a h. other p f i o.1 (omega arith) (λ l g. omega arith)) in
      let four = ids-run (exactly born parent p) f 4 (λ k h. here p f s k h) in
      let rear = ids-idle (exactly born parent p) (f + 4) n below (λ i a h. other p f i o.1 h (λ l g. omega arith)) in
      omega (arith, ap length (ids-none (exactly born parent p)))

  part : (p : ℕ) → length (ids_to (exactly born parent p) n) + 4 * length (one_if (is_leaf t p) p) ≡ 4
  part p = by (is_leaf t p) refl
    where
      by : (b : Bool) → is_leaf t p ≡ b → length (ids_to (exactly born parent p) n) + 4 * length (one_if b p) ≡ 4
      by true e = let z = leaf-part p e in omega arith
      by false e = let z = split-part p e in omega arith

  -- the cells whose parent is below p, and the leaves below p
  parts : (p : ℕ) → length (ids_to (under born parent p) n) + 4 * length (ids_to (is_leaf t) p) ≡ 4 * p
  parts zero = omega (arith, none-under born parent n, ap length (ids-none (is_leaf t)))
  parts (suc p) =
      let h = parts p in
      let o = one-part born parent n p in
      let q = part p in
      omega (arith, ap length (ids-more (is_leaf t) p), length-append (ids_to (is_leaf t) p) (one_if (is_leaf t p) p))

  -- every parent is a cell
  all-under : (i : ℕ) → i < n → under born parent n i ≡ born i
  unfolding under
  all-under i h = by (at t i).parent refl
    where
      by : (o : Option ℕ) → (at t i).parent ≡ o → (not (is_none o) && ltb (unwrap_or o 0) n) ≡ not (is_none o)
      by None e = refl
      by (Some p) e =
          let b = formed.born i p h e in
          lt-ltb p n (kids-in t p b.first b.split)

  pub leaves-by-roots : 4 * leaf_count t ≡ 3 * length t + root_count t
  unfolding leaf_count root_count
  leaves-by-roots =
      let all = ap length (ids-same (under born parent n) born n all-under) in
      let each = parts n in
      let others = ids-others root n in
      omega (arith, count-ids (λ (c : Cell). is_none c.kids) past t, count-ids (λ (c : Cell). is_none c.parent) past t)

-- ---- the roots among the first cells of a row

module _ (t : List ℤ) where
  pub root_count-few : (n : ℕ) → root_count (table t n) ≤ n
  unfolding root_count
  root_count-few n = omega (arith, count_by-le-length (λ (c : Cell). is_none c.parent) (table t n), length-table t n)

  root_more : (i : ℕ) → root_count (table t (i + 1)) ≡ root_count (table t i) + cond (eqb (cell_at t i).parent no_cell) 1 0
  unfolding root_count
  root_more i =
      ap root_count (table_more t i)
      ∙ sum_by_push (λ (c : Cell). cond (is_none c.parent) 1 0) (table t i) (mesh_cell (cell_at t i))
      ∙ ap (λ (k : ℕ). root_count (table t i) + k) (by (eqb (cell_at t i).parent no_cell))
    where
      by : (b : Bool) → ◌≡◌ {A = ℕ} (cond (is_none (cond b None (Some (cell_at t i).parent))) 1 0) (cond b 1 0)
      by true = refl
      by false = refl

  pub root_more-yes : (i : ℕ) → (cell_at t i).parent ≡ no_cell → root_count (table t (i + 1)) ≡ root_count (table t i) + 1
  root_more-yes i e = root_more i ∙ rw (eq-eqb (cell_at t i).parent no_cell e) refl

  root_more-no : (i : ℕ) → (cell_at t i).parent ≢ no_cell → root_count (table t (i + 1)) ≡ root_count (table t i)
  root_more-no i e = root_more i ∙ rw (ne_eqb (cell_at t i).parent no_cell e) (omega arith)

  pub root_more-four : (i : ℕ) → ((k : ℕ) → k < 4 → (cell_at t (i + k)).parent ≢ no_cell) → root_count (table t (i + 4)) ≡ root_count (table t i)
  root_more-four i e =
      step 3 (omega arith) ∙ step 2 (omega arith) ∙ step 1 (omega arith) ∙ step 0 (omega arith) ∙ ap rooted (add-zero i)
    where
      rooted : ℕ → ℕ
      rooted m = root_count (table t m)

      step : (k : ℕ) → k < 4 → rooted (i + suc k) ≡ rooted (i + k)
      step k h = let d : i + suc k ≡ i + k + 1 = omega arith in ap rooted d ∙ root_more-no (i + k) (e k h)
