use Rattle.std.proofs.Common.{subst, arith}
use Rattle.cell.specs.Boxes.{Box}
use Rattle.table.specs.Tables.{cells}
use Rattle.table.proofs.Wellformed.{formed-facts}
use Rattle.search.specs.Search.{Clears}
use Rattle.search.specs.Roots.{block_box}
use Rattle.search.proofs.Boxes.{passed-block, passed-one}
use Rattle.search.proofs.Rooted.{root-inside, root-few}
use Rattle.search.proofs.around.Around.next_root.Goals as goal

pub skips-requires : goal.skips-requires
skips-requires c = omega (arith, root-few c.args.self.now c.loop-id.id c.loop-id-test.true)

pub overflow_add-id : goal.overflow_add-id
overflow_add-id c = omega (arith, root-few c.args.self.now c.loop-id.id c.loop-id-test.true)

pub meets_root-requires : goal.meets_root-requires
meets_root-requires c = root-inside c.args.self.now c.loop-id.id c.loop-id-test.true

pub overflow_add-id-else-meets_root : goal.overflow_add-id-else-meets_root
overflow_add-id-else-meets_root c = omega (arith, root-few c.args.self.now c.loop-id.id c.loop-id-test.true)

pub loop-id-preserved-then-skips : goal.loop-id-preserved-then-skips
loop-id-preserved-then-skips c =
    let s = c.args.self.now in
    let l = c.loop-id in (
      omega (arith, l.invariant.0),
      passed-block (cells s.table) s.cell c.args.from l.id s.roots.now s.indexed l.invariant.1
          (c.skips.ensures.block c.if-skips.true)
          (subst (λ (x : Box). Clears x (block_box s.roots.now l.id)) s.bounded (c.skips.ensures.apart c.if-skips.true)),
    )

pub loop-id-preserved : goal.loop-id-preserved
loop-id-preserved c =
    let s = c.args.self.now in
    let l = c.loop-id in (
      omega (arith, l.invariant.0),
      passed-one (cells s.table) s.cell c.args.from l.id l.invariant.1
          (λ e. c.meets_root.ensures c.if-meets_root.false ((formed-facts _ _ s.table.formed).cells.root l.id e).level),
    )
