use Rattle.std.proofs.Common.{arith, ap, sym, ◌∙◌}
use Rattle.table.specs.Mesh.{at, is_leaf}
use Rattle.coarsest.specs.declared.Engine.TheVariants.{Balancing}
use Rattle.coarsest.specs.Passes.{difference}
use Rattle.coarsest.proofs.Loops.{no-leaf}
use Rattle.coarsest.proofs.Rows.{row-none, row-shallow}
use Rattle.table.specs.TablesMut.{cells_mut}
use Rattle.even.proofs.Going.{on-start, on-as, on-makes}
use Rattle.even.proofs.evener.Evener.balance_row.Goals as goal

pub returns-then-level-difference : goal.returns-then-level-difference
returns-then-level-difference c =
    let s = c.args.table.now in
    let k = difference Balancing in
    on-makes _ _ _ _
    (on-as (sym (row-shallow k (cells_mut s) c.args.a c.args.stop
    (omega (arith, c.if-level-difference.true, c.difference.ensures, c.level.ensures, ap (λ t. (at t c.args.a).level) c.view-cells.ensures.cells))))
    (on-start s))

pub returns-then-not-is_leaf : goal.returns-then-not-is_leaf
returns-then-not-is_leaf c =
    let s = c.args.table.now in
    let k = difference Balancing in
    on-makes _ _ _ _
    (on-as (sym (row-none Balancing k (cells_mut s) c.args.a c.args.stop
    (λ b h. no-leaf Balancing k (cells_mut s) c.args.a b
    (sym (ap (λ t. is_leaf t c.args.a) c.view-cells.ensures.cells) ∙ sym c.is_leaf.ensures ∙ c.if-not-is_leaf.true))))
    (on-start s))
