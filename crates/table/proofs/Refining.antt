-- The call that splits a leaf: when it is accepted, and that it then leaves a well-formed table, with that leaf split.
-- Assumes nothing.
use Rattle.std.proofs.Common.{ℕ, ◌+◌, ◌/◌, ◌<◌, ◌≤◌, ◌≡◌, refl, ◌∙◌, arith, Bool, true, false, cond, List, ltb, leb, ℤ, length, lt-ltb, le-leb, ltb-true, leb-true}
use mathlib.Core.Bool.{false≢true}
use Rattle.refusals.specs.Limits.{widest_level}
use Rattle.refusals.specs.Said.{accepted, refusal, is_accepted}
use Rattle.refusals.specs.declared.Refusal.TheVariants.{BadTable, NoSuchCell, AlreadySplit, FinestLevel, NoRoom}
use Rattle.table.specs.declared.Head.{Head}
use Rattle.table.specs.Slots.{cell_at}
use Rattle.table.specs.Mesh.{at, is_leaf, split, table}
use Rattle.table.specs.Formed.{well_formed}
use Rattle.table.specs.Rows.{IsTable, cells_in, head_values, after_split}
use Rattle.table.specs.Leaves.{leaf_at}
use Rattle.table.specs.Refine.{split_row, refine_says}
use Rattle.table.proofs.Shape.{formed-shape}
use Rattle.table.proofs.Splits.{refine-formed, split-table}
use Rattle.table.proofs.Tables.{level_read, leaf_read}
use Rattle.table.proofs.Wellformed.{formed-facts}

pub record Refinable (row : List ℤ) (head : Head) (id : ℕ) : Type 0 where
  pub formed : IsTable row head
  pub inside : id < head.count
  pub leaf : is_leaf (cells_in row head) id ≡ true
  pub finer : (at (cells_in row head) id).level < head.max_level
  pub room : head.count + 4 ≤ length row / 8

pub refinable : (row : List ℤ) (head : Head) (id : ℕ) → IsTable row head → id < head.count → is_leaf (cells_in row head) id ≡ true
    → (at (cells_in row head) id).level < head.max_level → head.count + 4 ≤ length row / 8 → Refinable row head id
refinable row head id formed inside leaf finer room = record { formed = formed; inside = inside; leaf = leaf; finer = finer; room = room }

module _ (row : List ℤ) (head : Head) (id : ℕ) where
  abbrev level : ℕ
  level = (at (cells_in row head) id).level

  -- what is split then: a table whose cells are those of the split
  module _ (r : Refinable row head id) where
    held-leaf : leaf_at row id ≡ true
    held-leaf = leaf_read row head.count id r.inside ∙ r.leaf

    held-finer : (cell_at row id).level < head.max_level
    held-finer = rw (level_read row head.count id r.inside) r.finer

    pub held-below : (cell_at row id).level < widest_level
    held-below = let s = formed-shape row head r.formed in omega (arith, s.range, held-finer)

    pub refined-formed : well_formed (split_row row head.count id) (after_split head) ≡ true
    refined-formed = refine-formed row head id r.formed r.inside held-leaf held-finer r.room

    pub refined-cells : table (split_row row head.count id) (head.count + 4) ≡ split (cells_in row head) id
    refined-cells = split-table row head id (formed-facts row head r.formed) r.inside held-leaf held-finer r.room

  pub accepted-facts : is_accepted (refine_says row head id) ≡ true → Refinable row head id
  accepted-facts e =
      by (well_formed row head) (ltb id head.count) (is_leaf (cells_in row head) id) (ltb level head.max_level)
      (leb (head.count + 4) (length row / 8)) refl refl refl refl refl e
    where
      by : (a b c d f : Bool) → well_formed row head ≡ a → ltb id head.count ≡ b → is_leaf (cells_in row head) id ≡ c
          → ltb level head.max_level ≡ d → leb (head.count + 4) (length row / 8) ≡ f
          → is_accepted (cond a (cond b (cond c (cond d (cond f (accepted (head_values (after_split head))) (refusal NoRoom)) (refusal (FinestLevel id)))
          (refusal (AlreadySplit id))) (refusal (NoSuchCell id))) (refusal BadTable)) ≡ true
          → Refinable row head id
      by true true true true true a b c d f e =
          record { formed = a; inside = ltb-true id head.count b; leaf = c; finer = ltb-true level head.max_level d; room = leb-true (head.count + 4) (length row / 8) f }
      by true true true true false a b c d f e = absurd (false≢true e)
      by true true true false f a b c d f' e = absurd (false≢true e)
      by true true false d f a b c d' f' e = absurd (false≢true e)
      by true false c d f a b c' d' f' e = absurd (false≢true e)
      by false b c d f a b' c' d' f' e = absurd (false≢true e)

  -- an accepted split adds four cells
  pub facts-accepted : Refinable row head id → refine_says row head id ≡ accepted (head_values (after_split head))
  facts-accepted r = rw (r.formed, lt-ltb _ _ r.inside, r.leaf, lt-ltb _ _ r.finer, le-leb _ _ r.room) refl

  module _ (ok : is_accepted (refine_says row head id) ≡ true) where
    pub refine-values : refine_says row head id ≡ accepted (head_values (after_split head))
    refine-values = facts-accepted (accepted-facts ok)
