use Rattle.std.proofs.Common.{ℕ, ◌+◌, ◌<◌, ◌≤◌, ◌≡◌, arith, subst, List, length}
use Rattle.refusals.specs.Limits.{widest_level}
use Rattle.table.specs.Mesh.{Cell, at}
use Rattle.table.specs.Tables.{cells}
use Rattle.table.specs.declared.view.Table.{Table}
use Rattle.table.proofs.Cells.{length-table}
use Rattle.table.proofs.Wellformed.{formed-facts}
use Rattle.coarsest.specs.Passes.{difference}
use Rattle.coarsest.proofs.Least.{level-most}
use Rattle.search.specs.declared.around.Around.{Around}
use Rattle.search.specs.declared.marks.Marks.{Marks}
use Rattle.search.specs.declared.marks.Levels.{Levels}
use Rattle.search.specs.Marks.{Wanted, Marked}
use Rattle.even.specs.Watch.{Reaches}
use Rattle.even.proofs.Watching.{kid-met}
use Rattle.even.proofs.evener.Evener.mark_kids.Goals as goal

-- what the search round a cell marked, said of the table
near : (g : Around) (t : List Cell) (p : ℕ) (levels : Levels) (old new : Marks) → cells g.table ≡ t → g.cell ≡ p
    → g.table.head.count ≡ length t → Marked (λ (a : ℕ). a < g.table.head.count) (Wanted (cells g.table) g.cell levels) old new
    → Marked (λ (a : ℕ). a < length t) (Wanted t p levels) old new
near g t p levels old new e f h x =
    subst (λ (y : List Cell). Marked (λ (a : ℕ). a < length t) (Wanted y p levels) old new) e
    (subst (λ (y : ℕ). Marked (λ (a : ℕ). a < length t) (Wanted (cells g.table) y levels) old new) f
    (subst (λ (y : ℕ). Marked (λ (a : ℕ). a < y) (Wanted (cells g.table) g.cell levels) old new) h x))

-- no cell is finer than the widest level
low : (t : Table) (p : ℕ) → p < t.head.count → (at (cells t) p).level ≤ widest_level
low t p h =
    let l = length-table t.row.now t.head.count in
    omega (
      arith,
      level-most t.head.max_level (cells t) (formed-facts _ _ t.formed).cells p (rw l h),
      t.range,
    )

pub overflow_add-level : goal.overflow_add-level
overflow_add-level c = omega (arith, low c.args.table.now c.args.parent c.requires.inside, c.level.ensures)

pub concerned-levels-requires : goal.concerned-levels-requires
concerned-levels-requires c = omega (arith, low c.args.table.now c.args.parent c.requires.inside, c.level.ensures)

pub mark_four-requires : goal.mark_four-requires
mark_four-requires c =
    let t = c.args.table.now in
    let g = ((formed-facts _ _ t.formed).cells.split c.args.parent c.args.first c.requires.kids).below in
    omega (arith, g, length-table t.row.now t.head.count, t.within, t.slots)

pub returns-clause-met : goal.returns-clause-met
returns-clause-met c y low high =
    let s = c.args.self.now in
    let t = cells c.args.table.now in
    let M = c.args.table.now.head.max_level in
    let e : c.level.result + 1 ≡ (at t c.args.parent).level + 1 = omega (arith, c.level.ensures) in
    let l = c.concerned-levels.result in
    let m = kid-met s.engine (difference s.engine) M t (formed-facts _ _ c.args.table.now.formed).cells c.args.parent c.args.first l
    c.requires.kids
    (subst (λ (z : ℕ). (x : ℕ) → Reaches s.engine (difference s.engine) M z x → (l.low ≤ x) × (x ≤ l.high)) e
    (λ x r. (c.concerned-levels.ensures.low x r, c.concerned-levels.ensures.high x r)))
    (length t) (omega arith) c.args.marks.now c.mark.new.marks c.mark_four.new.self
    (near c.new.result t c.args.parent l c.args.marks.now c.mark.new.marks c.new.ensures.cells c.new.ensures.cell
    (omega (arith, c.new.ensures.count, length-table c.args.table.now.row.now c.args.table.now.head.count)) c.mark.ensures)
    c.mark_four.ensures y low high in
    record { own = m.0; others = m.1 }
