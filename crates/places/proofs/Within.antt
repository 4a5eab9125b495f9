-- Every cell of a table has positive sides, and is in range.
use Rattle.std.proofs.Common.{ap, subst, ℕ, ◌^◌, ◌<◌, arith, suc-mul, List, ℤ}
use native.Mathlib.Nat.{one-le-pow}
use Rattle.std.proofs.lemmas.List.{get_or_default}
use Rattle.table.specs.declared.Head.{Head}
use Rattle.table.specs.Mesh.{Cell, at, past}
use Rattle.table.specs.Rows.{IsTable, cells_in}
use Rattle.table.proofs.Cells.{length-table, at_table}
use Rattle.table.proofs.Wellformed.{formed-facts}
use Rattle.table.proofs.Stores.{read-corners}
use Rattle.coarsest.proofs.Sides.{Span, cell-sides}
use Rattle.net.specs.Laws.{IsWithin, widest, AllLeaves}

positive : (n a b : ℕ) → Span n a b → a < b
positive n a b s = let e = s.1 in omega (arith, suc-mul s.0 (2 ^ n), one-le-pow n 2 (omega arith))

module _ (row : List ℤ) (head : Head) (formed : IsTable row head) where
  pub cell_within : (i : ℕ) → i < head.count → IsWithin widest (at (cells_in row head) i).box
  cell_within i h =
      let c = read-corners row i in
      let cs = cells_in row head in
      let b = (at cs i).box in
      let s = cell-sides head.max_level cs (formed-facts row head formed).cells i (rw length-table h) in
      let e = at_table row head.count i h in
      record {
        area = (positive _ b.x0 b.x1 s.0, positive _ b.y0 b.y1 s.1);
        east = omega (arith, ap (λ (c : Cell). c.box.x1) e);
        north = omega (arith, ap (λ (c : Cell). c.box.y1) e);
      }

  pub cells_are_within : AllLeaves (IsWithin widest) (cells_in row head)
  cells_are_within k d h leaf =
      let l = length-table row head.count in
      subst (IsWithin widest) (ap (λ (c : Cell). c.box) (get_or_default (cells_in row head) k past d h)) (cell_within k (omega arith))
