-- A list of leaves holds every leaf once and nothing else, in words of its cells. Assumes nothing.
use Rattle.std.proofs.Common.{ℕ, ◌+◌, ◌≡◌, refl, sym, ap, ◌∙◌, zero-add, Bool, true, false, ◌&&◌, cond, List, ltb, eqb, ℤ, ltb-true, count_by, eqb-true}
use borrow.Author.Tests.{eqb-false}
use Rattle.std.proofs.lemmas.List.Recursion.{is_count_by}
use Rattle.refusals.specs.Said.{bit}
use Rattle.table.specs.declared.Head.{Head}
use Rattle.table.specs.Mesh.{is_leaf}
use Rattle.table.specs.Rows.{IsTable, cells_in, leaves_in, order_in}
use Rattle.table.specs.Leaves.{leaf_at}
use Rattle.table.proofs.Times.{times, times-leaves, times-order}
use Rattle.table.proofs.Shape.{formed-poly}
use Rattle.table.proofs.Tables.{leaf_read}
use Rattle.table.proofs.Listed.{leaf_ids-in, order_ids-in}

eqb-sym : (a b : ℕ) → eqb a b ≡ eqb b a
eqb-sym a b = by (eqb a b) (eqb b a) refl refl
  where
    by : (x y : Bool) → eqb a b ≡ x → eqb b a ≡ y → x ≡ y
    by true true p q = refl
    by true false p q = absurd (eqb-false b a q (sym (eqb-true a b p)))
    by false true p q = absurd (eqb-false a b p (sym (eqb-true b a q)))
    by false false p q = refl

bit-cond : (b : Bool) → bit b ≡ cond b 1 0
bit-cond true = refl
bit-cond false = refl

counted : (i : ℕ) (xs : List ℕ) → times i xs ≡ count_by (λ x. eqb x i) xs
unfolding times
counted i xs =
    is_count_by (times i) (λ x. eqb x i) refl
    (λ x xs. ap (λ (b : Bool). bit b + times i xs) (eqb-sym i x) ∙ by (eqb x i) (times i xs)) xs
  where
    by : (b : Bool) (n : ℕ) → bit b + n ≡ cond b (1 + n) n
    by true n = refl
    by false n = zero-add n

pub count-leaves : (row : List ℤ) (head : Head) (i : ℕ)
    → count_by (λ x. eqb x i) (leaves_in row head) ≡ cond (ltb i head.count && is_leaf (cells_in row head) i) 1 0
count-leaves row head i =
    sym (counted i (leaves_in row head))
    ∙ ap (times i) (sym (leaf_ids-in row head))
    ∙ times-leaves row head.count i
    ∙ ap bit (by (ltb i head.count) refl)
    ∙ bit-cond (ltb i head.count && is_leaf (cells_in row head) i)
  where
    by : (b : Bool) → ltb i head.count ≡ b → (b && leaf_at row i) ≡ (b && is_leaf (cells_in row head) i)
    by true e = leaf_read row head.count i (ltb-true i head.count e)
    by false e = refl

pub count-order : (row : List ℤ) (head : Head) (i : ℕ) → IsTable row head
    → count_by (λ x. eqb x i) (order_in row head) ≡ count_by (λ x. eqb x i) (leaves_in row head)
count-order row head i e =
    sym (counted i (order_in row head))
    ∙ ap (times i) (sym (order_ids-in row head))
    ∙ times-order row head.count i (formed-poly row head e)
    ∙ ap (times i) (leaf_ids-in row head)
    ∙ counted i (leaves_in row head)
