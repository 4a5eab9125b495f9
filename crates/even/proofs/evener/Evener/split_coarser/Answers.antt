use Rattle.std.proofs.Common.{arith, ap, ◌∙◌}
use Rattle.std.proofs.lemmas.Result.{err_from_is_err_and}
use Rattle.coarsest.specs.Passes.{with_each}
use Rattle.coarsest.specs.Sweep.{row}
use Rattle.even.proofs.Going.{on-start, on-makes}
use Rattle.even.proofs.Asking.{ended, leaf, finer, next, full}
use Rattle.even.proofs.evener.Evener.split_coarser.Goals as goal

pub loop-from-init : goal.loop-from-init
unfolding row with_each
loop-from-init c = (omega arith, on-start _)

pub returns-then-stop-c : goal.returns-then-stop-c
returns-then-stop-c c =
    on-makes _ _ _ _
    (ended _ _ _ _ _ _ _ c.loop-from.invariant.1 c.loop-from.invariant.0 c.requires.stop c.requires.own c.new.result
    (c.new.ensures.cells ∙ c.view.ensures.cells) (c.new.ensures.count ∙ ap (λ h. h.count) c.view.ensures.head) c.new.ensures.cell (rw c.difference-difference.ensures at c.least_due-c.ensures) c.if-stop-c.true)

pub split-requires-clause-leaf : goal.split-requires-clause-leaf
split-requires-clause-leaf c =
    leaf _ _ _ _ _ _ _ c.loop-from.invariant.1 c.loop-from.invariant.0 c.requires.stop c.requires.own c.new.result
    (c.new.ensures.cells ∙ c.view.ensures.cells) (c.new.ensures.count ∙ ap (λ h. h.count) c.view.ensures.head) c.new.ensures.cell (rw c.difference-difference.ensures at c.least_due-c.ensures) c.if-stop-c.false

pub split-requires-clause-finer : goal.split-requires-clause-finer
split-requires-clause-finer c =
    finer _ _ _ _ _ _ _ c.loop-from.invariant.1 c.loop-from.invariant.0 c.requires.stop c.requires.own c.new.result
    (c.new.ensures.cells ∙ c.view.ensures.cells) (c.new.ensures.count ∙ ap (λ h. h.count) c.view.ensures.head) c.new.ensures.cell (rw c.difference-difference.ensures at c.least_due-c.ensures) c.if-stop-c.false

pub returns-in_err-split : goal.returns-in_err-split
returns-in_err-split c =
    let p = err_from_is_err_and c.from_residual.result c.from_residual.ensures.1 in
    rw (p.1, p.2)
    (full _ _ _ _ _ _ _ c.loop-from.invariant.1 c.loop-from.invariant.0 c.requires.stop c.requires.own c.new.result
    (c.new.ensures.cells ∙ c.view.ensures.cells) (c.new.ensures.count ∙ ap (λ h. h.count) c.view.ensures.head) c.new.ensures.cell (rw c.difference-difference.ensures at c.least_due-c.ensures) c.if-stop-c.false
    c.split.new.table _ c.in_err-split.ensures)

pub loop-from-preserved : goal.loop-from-preserved
loop-from-preserved c = (
  omega (arith, c.if-stop-c.false),
  next _ _ _ _ _ _ _ c.loop-from.invariant.1 c.loop-from.invariant.0 c.requires.stop c.requires.own c.new.result
      (c.new.ensures.cells ∙ c.view.ensures.cells) (c.new.ensures.count ∙ ap (λ h. h.count) c.view.ensures.head) c.new.ensures.cell (rw c.difference-difference.ensures at c.least_due-c.ensures) c.if-stop-c.false
      c.split.new.table _ c.in_ok-split.ensures,
)
