use Rattle.std.proofs.Common.{ℕ, ◌≡◌, ◌+◌, ◌-◌, ◌<◌, ◌≤◌, sym, subst, arith}
use Rattle.table.specs.Mesh.{at}
use Rattle.table.specs.Tables.{cells}
use Rattle.table.proofs.Cells.{length-table}
use Rattle.table.proofs.Wellformed.{formed-facts}
use Rattle.search.specs.Search.{Under}
use Rattle.search.specs.Around.{owes}
use Rattle.search.proofs.Least.{least-none, least-as, under-leaf, least-kids}
use Rattle.search.proofs.Trees.{Child, child, far-owes}
use Rattle.search.proofs.around.Around.+least_under.Goals.{In-Some}
use Rattle.search.proofs.around.Around.+least_under.Goals as goal

-- a child of the cell that the code goes down to
below : (t : ℕ) (c : In-Some t) (j : ℕ) → c.in-Some.first ≤ j → j < c.in-Some.first + 4
    → Child c.args.self.now.table.head.max_level (cells c.args.self.now.table) c.args.c j
below t c j l h =
    let s = c.args.self.now in
    child _ _ (formed-facts _ _ s.table.formed).cells c.args.c c.in-Some.first j (sym c.in-Some.ensures) l h

pub overflow_add-child-end : goal.overflow_add-child-end
overflow_add-child-end t c =
    let s = c.args.self.now.table in
    let last = below t c (c.in-Some.first + 3) (omega arith) (omega arith) in
    omega (arith, last.inside, length-table s.row.now s.head.count)

pub returns-then-not-is_near : goal.returns-then-not-is_near
returns-then-not-is_near t c =
    let s = c.args.self.now in
    let l = length-table s.table.row.now s.table.head.count in
    least-none (owes s c.args.difference) c.args.from (Under (cells s.table) c.args.c) c.args.best
    (λ b u f d. absurd (far-owes _ _ (formed-facts _ _ s.table.formed).cells c.args.c c.args.difference s.cell
    (rw l s.inside) (c.is_near.ensures c.if-not-is_near.true) b u d))

pub returns-in_default : goal.returns-in_default
returns-in_default t c =
    let s = c.args.self.now in
    least-as (owes s c.args.difference) c.args.from (λ (b : ℕ). c.args.c ≡ b) (Under (cells s.table) c.args.c) c.args.best
    c.least_own.result c.least_own.ensures (λ b u d. under-leaf (cells s.table) c.args.c (sym c.in_default.ensures) b u)

pub least_under-least-requires : goal.least_under-least-requires
least_under-least-requires t c =
    let s = c.args.self.now.table in
    let j = c.loop-child.child in
    let k = below t (goal.at.least_under-least-requires t c).In-Some j c.loop-child.auto.child c.loop-child-test.true in (
      subst (λ x. s.head.max_level - (at (cells s) j).level < x) c.decreases k.falls,
      omega (arith, k.inside, length-table s.row.now s.head.count),
    )

pub returns : goal.returns
returns t c =
    least-kids _ c.in-Some.first _ _ _ _ c.args.c c.loop-child.child _ (sym c.in-Some.ensures) c.loop-child-test.false
    c.loop-child.invariant
