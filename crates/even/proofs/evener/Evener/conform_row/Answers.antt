use Rattle.std.proofs.Common.{ℕ, ◌≡◌, ◌<◌, ◌≤◌, arith, true, false, ap, subst, sym, ◌∙◌, List, Bool}
use Rattle.table.specs.Mesh.{Cell, at, is_leaf}
use Rattle.table.specs.Tables.{cells}
use Rattle.coarsest.specs.declared.Engine.TheVariants.{Conforming}
use Rattle.coarsest.specs.Passes.{due, split_if, difference}
use Rattle.coarsest.specs.Sweep.{row}
use Rattle.coarsest.proofs.Loops.{no-leaf}
use Rattle.coarsest.proofs.Rows.{row-none, row-finest}
use Rattle.search.specs.declared.around.Around.{Around}
use Rattle.search.specs.Search.{Found}
use Rattle.search.specs.Around.{asks}
use Rattle.table.specs.declared.edit.TableMut.{TableMut}
use Rattle.table.specs.TablesMut.{cells_mut}
use Rattle.even.specs.Makes.{Makes}
use Rattle.even.proofs.Going.{on-start, on-as, on-makes, formed_of, length-of}
use Rattle.even.proofs.Turns.{row-asked}
use Rattle.even.proofs.evener.Evener.conform_row.Goals as goal

pub returns-then-not-is_leaf : goal.returns-then-not-is_leaf
returns-then-not-is_leaf c =
    let s = c.args.table.now in
    let k = difference Conforming in
    on-makes _ _ _ _
    (on-as (sym (row-none Conforming k (cells_mut s) c.args.a c.args.stop
    (λ b h. no-leaf Conforming k (cells_mut s) c.args.a b
    (sym (ap (λ t. is_leaf t c.args.a) c.view-cells.ensures.cells) ∙ sym c.is_leaf.ensures ∙ c.if-not-is_leaf.true))))
    (on-start s))

pub returns-then-cells-level : goal.returns-then-cells-level
returns-then-cells-level c =
    let s = c.args.table.now in
    let k = difference Conforming in
    on-makes _ _ _ _
    (on-as (sym (row-finest k s.head.max_level (cells_mut s) c.args.a c.args.stop (formed_of s)
    (rw length-of c.requires.stop)
    (omega (arith, c.if-cells-level.true, c.level.ensures, ap (λ t. (at t c.args.a).level) c.view-cells.ensures.cells, ap (λ h. h.max_level) c.view-cells.ensures.head))))
    (on-start s))

-- a's row by what the search found
found : (k : ℕ) (s : TableMut) (g : Around) (a stop : ℕ) (r v : Bool) → a < stop → stop ≤ s.head.count → cells g.table ≡ cells_mut s
    → g.table.head.count ≡ s.head.count → g.cell ≡ a → Found (asks g k) (λ (b : ℕ). b < g.table.head.count) stop r
    → r ≡ v → row Conforming k (cells_mut s) a stop ≡ split_if v (cells_mut s) a
found k s g a stop r v ha hs e n f x d =
    row-asked k (cells_mut s) s.head.count a stop r v (rw length-of (omega arith)) hs
    (subst (λ (y : List Cell). Found (λ (b : ℕ). due k y b a) (λ (b : ℕ). b < s.head.count) stop r) e
    (subst (λ (y : ℕ). Found (λ (b : ℕ). due k (cells g.table) b y) (λ (b : ℕ). b < s.head.count) stop r) f
    (subst (λ (y : ℕ). Found (asks g k) (λ (b : ℕ). b < y) stop r) n x))) d

pub returns-then-not-is_asked : goal.returns-then-not-is_asked
returns-then-not-is_asked c =
    let s = c.args.table.now in
    let k = difference Conforming in
    on-makes _ _ _ _
    (on-as (sym (found k s c.new.result c.args.a c.args.stop c.is_asked.result false c.requires.own c.requires.stop
    (c.new.ensures.cells ∙ c.view-cells.ensures.cells) (c.new.ensures.count ∙ ap (λ h. h.count) c.view-cells.ensures.head) c.new.ensures.cell (rw c.difference-difference.ensures at c.is_asked.ensures) c.if-not-is_asked.true))
    (on-start s))

pub returns : goal.returns
returns c =
    let s = c.args.table.now in
    let k = difference Conforming in
    subst (λ (t : List Cell). Makes t s c.split.new.table c.split.result)
    (sym (found k s c.new.result c.args.a c.args.stop c.is_asked.result true c.requires.own c.requires.stop
    (c.new.ensures.cells ∙ c.view-cells.ensures.cells) (c.new.ensures.count ∙ ap (λ h. h.count) c.view-cells.ensures.head) c.new.ensures.cell (rw c.difference-difference.ensures at c.is_asked.ensures) c.if-not-is_asked.false))
    c.split.ensures
