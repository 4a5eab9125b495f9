use Rattle.std.proofs.Common.{ℕ, ◌+◌, ◌-◌, ◌<◌, ◌≤◌, sym, subst, arith}
use Rattle.table.specs.Mesh.{at}
use Rattle.table.specs.Tables.{cells}
use Rattle.table.proofs.Cells.{length-table}
use Rattle.table.proofs.Wellformed.{formed-facts}
use Rattle.search.specs.Around.{asks}
use Rattle.search.proofs.Least.{under-leaf}
use Rattle.search.proofs.Found.{found_none, found_as, found-kids}
use Rattle.search.proofs.Trees.{Child, child, apart-asks}
use Rattle.search.proofs.around.Around.+asked_under.Goals.{In-Some}
use Rattle.search.proofs.around.Around.+asked_under.Goals as goal

-- a child of the cell that the code goes down to
below : (t : ℕ) (c : In-Some t) (j : ℕ) → c.in-Some.first ≤ j → j < c.in-Some.first + 4
    → Child c.args.self.now.table.head.max_level (cells c.args.self.now.table) c.args.c j
below t c j l h =
    let s = c.args.self.now in
    child _ _ (formed-facts _ _ s.table.formed).cells c.args.c c.in-Some.first j (sym c.in-Some.ensures) l h

pub overflow_add-child-end : goal.overflow_add-child-end
overflow_add-child-end t c =
    let s = c.args.self.now.table in
    let last = below t c (c.in-Some.first + 3) (omega arith) (omega arith) in
    omega (arith, last.inside, length-table s.row.now s.head.count)

pub returns-then-not-meets : goal.returns-then-not-meets
returns-then-not-meets t c =
    let s = c.args.self.now in
    let l = length-table s.table.row.now s.table.head.count in
    found_none (asks s c.args.difference) _ _
    (λ b u h d. apart-asks _ _ (formed-facts _ _ s.table.formed).cells c.args.c c.args.difference s.cell
    (rw l s.inside) (c.meets.ensures c.if-not-meets.true) b u d)

pub returns-in_default : goal.returns-in_default
returns-in_default t c =
    found_as (asks c.args.self.now c.args.difference) _ _ _ _ c.asked_by.ensures
    (λ b u d. under-leaf _ _ (sym c.in_default.ensures) b u)

pub asked_under-requires : goal.asked_under-requires
asked_under-requires t c =
    let s = c.args.self.now.table in
    let j = c.loop-child.child in
    let k = below t (goal.at.asked_under-requires t c).In-Some j c.loop-child.auto.child c.loop-child-test.true in (
      subst (λ x. s.head.max_level - (at (cells s) j).level < x) c.decreases k.falls,
      omega (arith, k.inside, length-table s.row.now s.head.count),
    )

pub returns : goal.returns
returns t c =
    found-kids _ _ _ _ _ _ _ (sym c.in-Some.ensures) c.loop-child-test.false c.loop-child.invariant
