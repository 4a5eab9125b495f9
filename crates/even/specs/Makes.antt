-- What the parts of an evening are said to do.
use Rattle.std.specs.Prelude.{ℕ, ◌/◌, ◌<◌, ◌≤◌, ◌≡◌, List, length, Result, OnOk, OnErr, IfErr}
use Rattle.refusals.specs.declared.Refusal.{Refusal}
use Rattle.refusals.specs.declared.Refusal.TheVariants.{NoRoom}
use Rattle.table.specs.Mesh.{Cell}
use Rattle.table.specs.TablesMut.{cells_mut}
use Rattle.table.specs.declared.edit.TableMut.{TableMut}
use Rattle.search.specs.declared.roots.Roots.{Roots}
use Rattle.search.specs.Roots.{Indexes}
use Rattle.even.specs.Undo.{undone}

-- splits were made in the same lent row, and can be taken back
pub record GoesOn (old new : TableMut) : Type 0 where
  pub same_reference : new.row.ghost_name ≡ old.row.ghost_name
  pub row_length : length new.row.now ≡ length old.row.now
  pub max_level : new.head.max_level ≡ old.head.max_level
  pub more : old.head.count ≤ new.head.count
  pub roots : (r : Roots) → Indexes r (cells_mut old) → Indexes r (cells_mut new)
  pub undone : (m : ℕ) → m ≤ old.head.count → undone m new.row.now ≡ undone m old.row.now

-- the table comes to hold these cells, or they are more than its slots
pub record Makes (what : List Cell) (old new : TableMut) {A : Type 0} (answer : Result A Refusal) : Type 0 where
  pub goes_on : GoesOn old new
  pub cells : OnOk answer (cells_mut new ≡ what)
  pub full : OnErr answer (length old.row.now / 8 < length what)
  pub refusal : IfErr answer (λ why. why ≡ NoRoom)
