-- A list of leaves holds every leaf once and nothing else. Assumes nothing.
use Rattle.std.proofs.Common.{ℕ, zero, suc, ◌+◌, ◌<◌, ◌≡◌, refl, sym, ap, ap₂, ◌∙◌, Bool, true, false, ◌&&◌, List, [], ◌∷◌, ◌++◌, arith, zero-add, add-zero, add_assoc, ltb, eqb, ℤ, ltb-true, ltb-false, lt-ltb, le-ltb, eqb-true}
use borrow.Author.Tests.{eqb-false}
use Rattle.refusals.specs.Limits.{max_polygons}
use Rattle.refusals.specs.Said.{bit}
use Rattle.table.specs.Slots.{cell_at}
use Rattle.table.specs.Leaves.{leaf_at, leaf_of, polygon_ids, order_to, order_ids}
use Rattle.table.proofs.Ids.{one_if, ids_to, ids-none, ids-more}
use Rattle.table.proofs.Order.{order-suc}

-- how often an id stands in a list
unfoldable pub times : ℕ → List ℕ → ℕ
times i [] = 0
times i (x ∷ xs) = bit (eqb i x) + times i xs

pub times-append : (i : ℕ) (xs ys : List ℕ) → times i (xs ++ ys) ≡ times i xs + times i ys
unfolding times
times-append i [] ys = sym (zero-add (times i ys))
times-append i (x ∷ xs) ys = ap (λ (k : ℕ). bit (eqb i x) + k) (times-append i xs ys) ∙ sym (add_assoc (bit (eqb i x)) (times i xs) (times i ys))

-- below p + 1 is below p, or p, and not both
one_more : (g p : ℕ) → bit (ltb g (suc p)) ≡ bit (ltb g p) + bit (eqb g p)
one_more g p = by (ltb g p) (eqb g p) refl refl
  where
    by : (x y : Bool) → ltb g p ≡ x → eqb g p ≡ y → bit (ltb g (suc p)) ≡ bit x + bit y
    by true true d e = let a = ltb-true g p d in let b = eqb-true g p e in absurd (omega arith)
    by true false d e = let a = ltb-true g p d in ap bit (lt-ltb g (suc p) (omega arith))
    by false true d e = let b = eqb-true g p e in ap bit (lt-ltb g (suc p) (omega arith))
    by false false d e = let a = ltb-false g p d in let b = eqb-false g p e in ap bit (le-ltb g (suc p) (omega arith))

-- so with a further test beside, on either side
and-swap : (x y : Bool) → (x && y) ≡ (y && x)
and-swap true true = refl
and-swap true false = refl
and-swap false true = refl
and-swap false false = refl

beside : (b x y z : Bool) → bit z ≡ bit x + bit y → bit (b && z) ≡ bit (b && x) + bit (b && y)
beside true x y z e = e
beside false x y z e = refl

behind : (b x y z : Bool) → bit z ≡ bit x + bit y → bit (z && b) ≡ bit (x && b) + bit (y && b)
behind b x y z e = rw (and-swap x b, and-swap y b, and-swap z b) (beside b x y z e)

-- the ids below n that pass a test: each once, and no other
module _ (f : ℕ → Bool) (i : ℕ) where
  one_time : (n : ℕ) (b : Bool) → times i (one_if b n) ≡ bit (eqb i n && b)
  unfolding times
  one_time n true = add-zero (bit (eqb i n)) ∙ ap bit (and-swap true (eqb i n))
  one_time n false = ap bit (and-swap false (eqb i n))

  this-time : (n : ℕ) → bit (eqb i n && f n) ≡ bit (eqb i n && f i)
  this-time n = by (eqb i n) refl
    where
      by : (b : Bool) → eqb i n ≡ b → bit (b && f n) ≡ bit (b && f i)
      by true d = ap (λ (k : ℕ). bit (f k)) (sym (eqb-true i n d))
      by false d = refl

  pub times-ids : (n : ℕ) → times i (ids_to f n) ≡ bit (ltb i n && f i)
  times-ids zero =
      (let e : times i [] ≡ 0 = unfold times in refl in
      ap (times i) (ids-none f) ∙ e)
      ∙ sym (ap (λ (b : Bool). bit (b && f i)) (le-ltb i 0 (omega arith)))
  times-ids (suc n) =
      ap (times i) (ids-more f n)
      ∙ times-append i (ids_to f n) (one_if (f n) n)
      ∙ ap₂ ◌+◌ (times-ids n) (one_time n (f n) ∙ this-time n)
      ∙ sym (behind (f i) (ltb i n) (eqb i n) (ltb i (suc n)) (one_more i n))

module _ (t : List ℤ) (n i : ℕ) where
  -- every leaf once, and nothing else
  pub times-leaves : times i (ids_to (leaf_at t) n) ≡ bit (ltb i n && leaf_at t i)
  times-leaves = times-ids (leaf_at t) i n

  times-under : (p : ℕ) → times i (order_to t n p) ≡ bit (ltb i n && (leaf_at t i && ltb (cell_at t i).poly p))
  unfolding order_to times polygon_ids ids_to leaf_of
  times-under zero =
      sym (ap (λ (b : Bool). bit (ltb i n && (leaf_at t i && b))) (le-ltb (cell_at t i).poly 0 (omega arith)) ∙ none (ltb i n) (leaf_at t i))
    where
      none : (x y : Bool) → bit (x && (y && false)) ≡ 0
      none true true = refl
      none true false = refl
      none false y = refl
  times-under (suc p) =
      ap (times i) (order-suc t n p)
      ∙ times-append i (order_to t n p) (polygon_ids t n p)
      ∙ ap₂ ◌+◌ (times-under p) (times-ids (leaf_of t p) i n)
      ∙ sym (
      beside (ltb i n) (leaf_at t i && ltb (cell_at t i).poly p) (leaf_at t i && eqb (cell_at t i).poly p) (leaf_at t i && ltb (cell_at t i).poly (suc p))
      (beside (leaf_at t i) (ltb (cell_at t i).poly p) (eqb (cell_at t i).poly p) (ltb (cell_at t i).poly (suc p)) (one_more (cell_at t i).poly p)))

  -- the order by polygon has the same ids
  pub times-order : ((j : ℕ) → j < n → (cell_at t j).poly < max_polygons) → times i (order_ids t n) ≡ times i (ids_to (leaf_at t) n)
  unfolding order_ids
  times-order h = times-under max_polygons ∙ by (ltb i n) refl ∙ sym times-leaves
    where
      by : (b : Bool) → ltb i n ≡ b → bit (b && (leaf_at t i && ltb (cell_at t i).poly max_polygons)) ≡ bit (b && leaf_at t i)
      by true d = ap (λ (x : Bool). bit (leaf_at t i && x)) (lt-ltb (cell_at t i).poly max_polygons (h i (ltb-true i n d))) ∙ ap bit (and-swap (leaf_at t i) true)
      by false d = refl
