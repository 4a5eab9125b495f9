-- What goes on from one part of an evening to the next. Assumes nothing.
use Rattle.std.proofs.Common.{ℕ, ◌/◌, ◌≤◌, ◌≡◌, refl, sym, ap, ◌∙◌, List, arith, length, Ok, Err}
use Rattle.refusals.specs.declared.Refusal.{Refusal}
use Rattle.table.specs.Mesh.{Cell, leaf_count}
use Rattle.table.specs.Formed.{Formed}
use Rattle.table.proofs.Cells.{length-table}
use Rattle.table.proofs.Wellformed.{formed-facts}
use Rattle.table.specs.declared.edit.TableMut.{TableMut}
use Rattle.table.specs.TablesMut.{cells_mut}
use Rattle.even.specs.Makes.{GoesOn, Makes}

-- a table at work is well formed, and has as many cells and leaves as its head says
pub formed_of : (s : TableMut) → Formed s.head.max_level (cells_mut s)
formed_of s = (formed-facts _ _ s.formed).cells

pub length-of : (s : TableMut) → length (cells_mut s) ≡ s.head.count
length-of s = length-table s.row.now s.head.count

pub leaves-of : (s : TableMut) → leaf_count (cells_mut s) ≡ s.head.leaves
leaves-of s = sym (formed-facts _ _ s.formed).leaves

pub goes-start : (s : TableMut) → GoesOn s s
goes-start s =
    record { same_reference = refl; row_length = refl; max_level = refl; more = omega arith; roots = λ r x. x; undone = λ m h. refl }

pub goes_then : (a b c : TableMut) → GoesOn a b → GoesOn b c → GoesOn a c
goes_then a b c x y =
    record {
      same_reference = y.same_reference ∙ x.same_reference;
      row_length = y.row_length ∙ x.row_length;
      max_level = y.max_level ∙ x.max_level;
      more = omega (arith, x.more, y.more);
      roots = λ r i. y.roots r (x.roots r i);
      undone = λ m h. y.undone m (omega (arith, x.more)) ∙ x.undone m h;
    }

-- the cells `what` are there, and how they came
pub record On (what : List Cell) (old new : TableMut) : Type 0 where
  pub goes_on : GoesOn old new
  pub cells : cells_mut new ≡ what

pub on-start : (s : TableMut) → On (cells_mut s) s s
on-start s = record { goes_on = goes-start s; cells = refl }

pub on-as : {what other : List Cell} {old new : TableMut} → what ≡ other → On what old new → On other old new
on-as e o = record { goes_on = o.goes_on; cells = o.cells ∙ e }

-- done with it
pub on-makes : {A : Type 0} (what : List Cell) (old new : TableMut) (x : A) → On what old new → Makes what old new {A = A} (Ok x)
on-makes what old new x o = record { goes_on = o.goes_on; cells = o.cells; full = tt; refusal = tt }

module _ {A : Type 0} (mid goal final : List Cell) (a b c : TableMut) (o : On mid a b) where
  -- what was made further on
  pub on_then : (x : A) → Makes goal b c (Ok x) → On goal a c
  on_then x m = record { goes_on = goes_then a b c o.goes_on m.goes_on; cells = m.cells }

  -- no room further on, where the end has no fewer cells
  pub full_then : {B : Type 0} (e : Refusal) → Makes goal b c {A = A} (Err e) → length goal ≤ length final → Makes final a c {A = B} (Err e)
  full_then e m h =
      record {
        goes_on = goes_then a b c o.goes_on m.goes_on;
        cells = tt;
        full = (let l = o.goes_on.row_length in let f = m.full in omega (arith, ap (λ (x : ℕ). x / 8) l));
        refusal = m.refusal;
      }
