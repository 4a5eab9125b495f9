use Rattle.std.proofs.Common.{ℕ, ◌+◌, ◌-◌, ◌/◌, ◌^◌, ◌≤◌, ◌≡◌, refl, sym, ap, subst, ◌∙◌, false, true, Some, arith}
use mathlib.Core.Bool.{false≢true}
use Rattle.refusals.specs.Limits.{max_slots}
use Rattle.table.specs.Mesh.{table, leaf_count, root_count}
use Rattle.table.specs.Formed.{cells_ok}
use Rattle.table.specs.Walk.{root_at, four_at}
use Rattle.table.proofs.All.{never}
use Rattle.table.proofs.Facts.{cells_ok-facts}
use Rattle.table.proofs.Cells.{length-table}
use Rattle.table.proofs.RootLaw.{leaves-by-roots, root_count-few}
use Rattle.table.proofs.Walk.{Found, found-cells, root-here, four-here, root-next, four-next}
use Rattle.table.proofs.Wellformed.{facts-cells}
use Rattle.table.proofs.formed.leaves_of.Goals as goal

pub loop-i-init : goal.loop-i-init
loop-i-init c = (omega arith, λ j h. absurd (omega arith), omega (arith, root_count-few c.args.t.now 0))

pub returns-then-not-root_here : goal.returns-then-not-root_here
returns-then-not-root_here c =
    let s = c.args in
    let i = c.loop-i.i in
    let small : s.n ≤ max_slots = omega arith in
    let went : root_at s.t.now s.n (2 ^ (s.m + 1)) i ≡ false =
    ap (λ (e : ℕ). root_at s.t.now s.n e i) (sym c.root_unit.ensures) ∙ sym c.root_here.ensures ∙ c.if-not-root_here.true in
    let wrong = never (cells_ok s.t.now s.n s.m) (λ e.
    false≢true (sym went ∙ root-here s.t.now s.n s.m small (cells_ok-facts s.t.now s.n s.m e) i (omega arith) (sym c.parent_at-p.ensures ∙ c.if-p-eq-NO_CELL.true))) in
    rw wrong refl

pub overflow_add-roots : goal.overflow_add-roots
overflow_add-roots c = record { fits = omega (arith, root_count-few c.args.t.now c.loop-i.i) }

pub loop-i-preserved-then-p-eq-NO_CELL : goal.loop-i-preserved-then-p-eq-NO_CELL
loop-i-preserved-then-p-eq-NO_CELL c =
    let s = c.args in
    let at = c.loop-i in
    let went : root_at s.t.now s.n (2 ^ (s.m + 1)) at.i ≡ true =
    ap (λ (e : ℕ). root_at s.t.now s.n e at.i) (sym c.root_unit.ensures) ∙ sym c.root_here.ensures ∙ c.if-not-root_here.false in
    let w = root-next s.t.now s.n s.m at.i (omega arith) at.invariant.1 went (sym c.parent_at-p.ensures ∙ c.if-p-eq-NO_CELL.true) in
    (w.within, w.found, omega (arith, w.counted))

pub returns-then-not-four_here : goal.returns-then-not-four_here
returns-then-not-four_here c =
    let s = c.args in
    let at = c.loop-i in
    let small : s.n ≤ max_slots = omega arith in
    let went = ap (four_at s.t.now s.n s.m at.i) (sym c.parent_at-p.ensures) ∙ sym c.four_here.ensures ∙ c.if-not-four_here.true in
    let wrong = never (cells_ok s.t.now s.n s.m) (λ e.
    false≢true (sym went ∙ four-here s.t.now s.n s.m small (cells_ok-facts s.t.now s.n s.m e) at.i (omega arith) (λ o. c.if-p-eq-NO_CELL.false (c.parent_at-p.ensures ∙ o)) at.invariant.1)) in
    rw wrong refl

pub loop-i-preserved : goal.loop-i-preserved
loop-i-preserved c =
    let s = c.args in
    let at = c.loop-i in
    let went = ap (four_at s.t.now s.n s.m at.i) (sym c.parent_at-p.ensures) ∙ sym c.four_here.ensures ∙ c.if-not-four_here.false in
    let w = four-next s.t.now s.n s.m at.i (omega arith) at.invariant.1 went (λ o. c.if-p-eq-NO_CELL.false (c.parent_at-p.ensures ∙ o)) in
    (w.within, w.found, omega (arith, w.counted))

pub overflow_sub-result : goal.overflow_sub-result
overflow_sub-result c = omega (arith, root_count-few c.args.t.now c.loop-i.i)

pub returns : goal.returns
returns c =
    let s = c.args in
    let at = c.loop-i in
    let small : s.n ≤ max_slots = omega arith in
    let e : at.i ≡ s.n = omega arith in
    let right = found-cells s.t.now s.n s.m small (λ j h. subst (λ (m : ℕ). Found s.t.now s.n s.m m j) e (at.invariant.1 j (omega arith))) in
    let law = leaves-by-roots s.m (table s.t.now s.n) (facts-cells s.t.now s.n s.m small (cells_ok-facts s.t.now s.n s.m right)) in
    let few = root_count-few s.t.now s.n in
    let roots : at.roots ≡ root_count (table s.t.now s.n) = at.invariant.2 ∙ ap (λ (m : ℕ). root_count (table s.t.now m)) e in
    let leaves : s.n - (s.n - at.roots) / 4 ≡ leaf_count (table s.t.now s.n) = omega (arith, length-table s.t.now s.n) in
    rw right (ap Some leaves)
