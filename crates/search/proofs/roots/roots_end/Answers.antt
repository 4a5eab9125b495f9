use Rattle.std.proofs.Common.{◌+◌, ◌-◌, ◌≡◌, subst, ◌∙◌, arith}
use Rattle.table.specs.Tables.{cells}
use Rattle.table.proofs.Cells.{length-table}
use Rattle.table.proofs.Wellformed.{formed-facts}
use Rattle.search.specs.Search.{RootsBelow}
use Rattle.search.proofs.Rooted.{roots-all, roots_less}
use Rattle.search.proofs.roots.roots_end.Goals as goal

pub loop-id-init : goal.loop-id-init
loop-id-init c =
    let t = c.args.table.now in
    subst (RootsBelow (cells t)) (length-table t.row.now t.head.count) (roots-all (cells t))

pub loop-id-preserved : goal.loop-id-preserved
loop-id-preserved c =
    let t = c.args.table.now in
    let l = c.loop-id in
    let e : l.id ≡ l.id - 1 + 1 = omega arith in
    roots_less t.head.max_level (cells t) (formed-facts _ _ t.formed).cells (l.id - 1)
    (subst (RootsBelow (cells t)) e l.invariant)
    (λ z. c.if-level-eq0.false (c.level.ensures ∙ z))
