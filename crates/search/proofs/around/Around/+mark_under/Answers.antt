use Rattle.std.proofs.Common.{ℕ, ◌+◌, ◌-◌, ◌<◌, ◌≤◌, sym, subst, arith}
use Rattle.table.specs.Mesh.{at}
use Rattle.table.specs.Tables.{cells}
use Rattle.table.proofs.Cells.{length-table}
use Rattle.table.proofs.Wellformed.{formed-facts}
use Rattle.search.specs.Search.{Under}
use Rattle.search.specs.Marks.{Wanted}
use Rattle.search.proofs.Marking.{marked-none, apart-unwanted, fine-unwanted, leaf-unwanted, leaf-marked, next-marked, kids-marked}
use Rattle.search.proofs.Trees.{Child, child}
use Rattle.search.proofs.around.Around.+mark_under.Goals.{In-Some}
use Rattle.search.proofs.around.Around.+mark_under.Goals as goal

-- a child of the cell that the code goes down to
below : (t : ℕ) (c : In-Some t) (j : ℕ) → c.in-Some.first ≤ j → j < c.in-Some.first + 4
    → Child c.args.self.now.table.head.max_level (cells c.args.self.now.table) c.args.c j
below t c j l h =
    let s = c.args.self.now in
    child _ _ (formed-facts _ _ s.table.formed).cells c.args.c c.in-Some.first j (sym c.in-Some.ensures) l h

pub overflow_add-child-end : goal.overflow_add-child-end
overflow_add-child-end t c =
    let s = c.args.self.now.table in
    let last = below t c (c.in-Some.first + 3) (omega arith) (omega arith) in
    omega (arith, last.inside, length-table s.row.now s.head.count)

pub returns-then-not-meets : goal.returns-then-not-meets
returns-then-not-meets t c =
    let s = c.args.self.now in
    marked-none (Wanted (cells s.table) s.cell c.args.levels) (Under (cells s.table) c.args.c) c.args.marks.now
    (apart-unwanted _ _ (formed-facts _ _ s.table.formed).cells s.cell c.args.levels c.args.c
    (c.meets.ensures c.if-not-meets.true))

pub returns-then-levels-level : goal.returns-then-levels-level
returns-then-levels-level t c =
    let s = c.args.self.now in
    marked-none (Wanted (cells s.table) s.cell c.args.levels) (Under (cells s.table) c.args.c) c.args.marks.now
    (fine-unwanted _ _ (formed-facts _ _ s.table.formed).cells s.cell c.args.levels c.args.c
    (omega (arith, c.if-levels-level.true, c.level-level.ensures)))

pub returns-then-levels-level-2 : goal.returns-then-levels-level-2
returns-then-levels-level-2 t c =
    let s = c.args.self.now in
    leaf-marked _ (cells s.table) (formed-facts _ _ s.table.formed).cells s.cell c.args.levels c.args.c
    (sym c.in_default.ensures) c.args.marks.now c.mark.new.self c.mark.ensures

pub returns-else-levels-level-2 : goal.returns-else-levels-level-2
returns-else-levels-level-2 t c =
    let s = c.args.self.now in
    marked-none (Wanted (cells s.table) s.cell c.args.levels) (Under (cells s.table) c.args.c) c.args.marks.now
    (leaf-unwanted _ _ (formed-facts _ _ s.table.formed).cells s.cell c.args.levels c.args.c (sym c.in_default.ensures)
    (omega (arith, c.if-levels-level-2.false, c.level-level.ensures)))

pub mark_under-requires : goal.mark_under-requires
mark_under-requires t c =
    let s = c.args.self.now.table in
    let j = c.loop-child.child in
    let k = below t (goal.at.mark_under-requires t c).In-Some j c.loop-child.auto.child c.loop-child-test.true in (
      subst (λ x. s.head.max_level - (at (cells s) j).level < x) c.decreases k.falls,
      omega (arith, k.inside, length-table s.row.now s.head.count),
    )

pub loop-child-preserved : goal.loop-child-preserved
loop-child-preserved t c =
    next-marked _ _ (formed-facts _ _ c.args.self.now.table.formed).cells _ _ c.args.c _ _ _ _ _ c.loop-child.invariant
    c.mark_under.ensures

pub returns : goal.returns
returns t c =
    kids-marked _ _ (formed-facts _ _ c.args.self.now.table.formed).cells _ _ c.args.c c.in-Some.first c.loop-child.child _ _
    (sym c.in-Some.ensures) c.loop-child-test.false c.loop-child.invariant
