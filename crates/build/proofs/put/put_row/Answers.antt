use Rattle.std.proofs.Common.{List, [], ◌∷◌, ℤ, ◌+◌, arith, sym, ap, ◌∙◌}
use Rattle.build.specs.Grid.{boxed, cell_of, row_to}
use Rattle.build.specs.Steps.{placed}
use Rattle.build.proofs.Placing.{row-none, row_more, length-row, placed-more}
use Rattle.build.proofs.put.put_row.Goals as goal

pub loop-i-init : goal.loop-i-init
loop-i-init c =
    let a = c.args in
    record { put = row-none a.t.now a.k a.poly a.r a.n }

pub loop-i-preserved : goal.loop-i-preserved
loop-i-preserved c =
    let a = c.args in
    let s = c.loop-i in
    let here = boxed a.poly (cell_of a.r a.n s.i) ∷ [] in
    let n = length-row a.poly a.r a.n s.i in
    let room = c.requires.room.room in
    record {
      put = c.put_root.ensures
          ∙ ap (λ (l : List ℤ). placed l (a.k + s.i) here) s.invariant.put
          ∙ placed-more a.t.now a.k (a.k + s.i) (row_to a.poly a.r a.n s.i) here (omega arith) (omega arith)
          ∙ ap (placed a.t.now a.k) (sym (row_more a.poly a.r a.n s.i));
    }
