use Rattle.std.proofs.Common.{sym, subst, arith}
use Rattle.table.specs.Tables.{cells}
use Rattle.table.proofs.Cells.{length-table}
use Rattle.table.proofs.Wellformed.{formed-facts}
use Rattle.search.specs.Search.{RootsBelow}
use Rattle.search.proofs.Boxes.{blocks-indexed}
use Rattle.search.proofs.roots.Roots.index.Goals as goal

pub returns : goal.returns
returns c =
    let t = c.args.table.now in
    let l = c.loop-block in
    let same = l.invariant.0 in
    blocks-indexed t.head.max_level (cells t) (formed-facts _ _ t.formed).cells l.self l.block
    (omega (arith, length-table t.row.now t.head.count, c.roots_end-end.ensures.inside, same))
    (subst (RootsBelow (cells t)) (sym same) c.roots_end-end.ensures.below) l.invariant.1
    (omega (arith, same, c.loop-block-test.false))
