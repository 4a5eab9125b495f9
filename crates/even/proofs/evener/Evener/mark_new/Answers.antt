use Rattle.std.proofs.Common.{ℕ, ◌+◌, ◌<◌, ◌≤◌, ◌≡◌, sym, ap, ◌∙◌, Some, arith}
use mathlib.Core.Logic.{by_cases}
use native.Mathlib.Decide.{dec_lt}
use Rattle.table.specs.Mesh.{at}
use Rattle.table.specs.Tables.{cells}
use Rattle.table.specs.declared.view.Table.{Table}
use Rattle.std.specs.Option.{is_some}
use Rattle.table.proofs.Cells.{length-table}
use Rattle.table.proofs.Meshes.{some_is}
use Rattle.table.proofs.Wellformed.{formed-facts}
use Rattle.even.proofs.Watching.{Group, group-of, met-kept, watched-new}
use Rattle.even.proofs.evener.Evener.mark_new.Goals as goal

-- the four that a new cell is one of, by the parent that the code reads
group : (t : Table) (x p : ℕ) → x < t.head.count → (at (cells t) x).parent ≡ Some p → Group (cells t) p x
group t x p h e =
    let l = length-table t.row.now t.head.count in
    group-of t.head.max_level (cells t) (formed-facts _ _ t.formed).cells p x (rw l h) e

-- and by the first child that it reads of that
record Four (t : Table) (x p f : ℕ) : Type 0 where
  inside : p < t.head.count
  low : f ≤ x
  high : x < f + 4
  below : f + 4 ≤ t.head.count

four : (t : Table) (x p f : ℕ) → x < t.head.count → (at (cells t) x).parent ≡ Some p → (at (cells t) p).kids ≡ Some f → Four t x p f
four t x p f h e k =
    let g = group t x p h e in
    let l = length-table t.row.now t.head.count in
    let s = some_is (at (cells t) p).kids f g.first k g.kids in
    record {
      inside = omega (arith, g.inside, l);
      low = omega (arith, g.low);
      high = omega (arith, g.high);
      below = omega (arith, g.below, l);
    }

pub kids-requires : goal.kids-requires
kids-requires c =
    let t = c.args.table.now in
    let g = group t _ _ c.loop-x-test.true (sym c.parent.ensures ∙ c.unwrap-parent.ensures) in
    omega (arith, g.inside, length-table t.row.now t.head.count)

pub unwrap-first-requires : goal.unwrap-first-requires
unwrap-first-requires c =
    let t = c.args.table.now in
    let g = group t _ _ c.loop-x-test.true (sym c.parent.ensures ∙ c.unwrap-parent.ensures) in
    ap is_some (c.kids.ensures ∙ g.kids)

pub mark_kids-requires-clause-inside : goal.mark_kids-requires-clause-inside
mark_kids-requires-clause-inside c =
    (four c.args.table.now _ _ _ c.loop-x-test.true (sym c.parent.ensures ∙ c.unwrap-parent.ensures)
    (sym c.kids.ensures ∙ c.unwrap-first.ensures)).inside

pub overflow_add-x : goal.overflow_add-x
overflow_add-x c =
    let t = c.args.table.now in
    let g = four t _ _ _ c.loop-x-test.true (sym c.parent.ensures ∙ c.unwrap-parent.ensures)
    (sym c.kids.ensures ∙ c.unwrap-first.ensures) in
    omega (arith, g.below, t.within, t.slots)

pub loop-x-smaller : goal.loop-x-smaller
loop-x-smaller c =
    let g = four c.args.table.now _ _ _ c.loop-x-test.true (sym c.parent.ensures ∙ c.unwrap-parent.ensures)
    (sym c.kids.ensures ∙ c.unwrap-first.ensures) in
    omega (arith, g.high, c.loop-x-test.true)

pub loop-x-preserved : goal.loop-x-preserved
loop-x-preserved c =
    let l = c.loop-x in
    let k = c.mark_kids in
    let g = four c.args.table.now _ _ _ c.loop-x-test.true (sym c.parent.ensures ∙ c.unwrap-parent.ensures)
    (sym c.kids.ensures ∙ c.unwrap-first.ensures) in
    let low = g.low in
    let high = g.high in (
      omega (arith, l.invariant.0),
      λ y a h. by_cases (dec_lt y l.x)
          (λ d. met-kept c.args.self.now (cells c.args.table.now) l.marks k.new.marks y k.ensures.kept (l.invariant.1 y a d))
          (λ d. k.ensures.met y (omega arith) h),
    )

pub returns : goal.returns
returns c =
    let t = c.args.table.now in
    watched-new c.args.self.now (cells t) c.loop-x.marks c.args.stop c.requires.settled
    (λ y a h. c.loop-x.invariant.1 y a (omega (arith, c.loop-x-test.false, length-table t.row.now t.head.count)))
