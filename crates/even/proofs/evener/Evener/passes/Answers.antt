use Rattle.std.proofs.Common.{sym, subst, List}
use Rattle.std.proofs.lemmas.Result.{err_from_is_err_and}
use Rattle.table.specs.Mesh.{Cell}
use Rattle.search.specs.Roots.{Indexes}
use Rattle.even.specs.Watch.{Watched}
use Rattle.even.proofs.Going.{on-makes}
use Rattle.even.proofs.Passing.{passes-full, passes-goes, passes-same, passes-done, passes-left, passes-settled, roots-inside}
use Rattle.even.proofs.evener.Evener.passes.Goals as goal

pub returns-in_err-pass : goal.returns-in_err-pass
returns-in_err-pass c =
    let l = c.passes in
    let p = err_from_is_err_and c.from_residual.result c.from_residual.ensures.1 in
    rw (p.1, p.2) (passes-full _ _ _ _ l.invariant.0 l.invariant.1 c.pass.new.table _ c.in_err-pass.ensures)

pub returns-then-calm : goal.returns-then-calm
returns-then-calm c =
    let l = c.passes in
    on-makes _ _ _ _ (passes-done _ _ _ _ l.invariant.0 l.invariant.1 c.pass.new.table _ c.in_ok-pass.ensures c.if-calm.true)

pub pass-requires-clause-indexed : goal.pass-requires-clause-indexed
pass-requires-clause-indexed c = c.passes.invariant.0.roots _ c.requires.indexed

pub mark_new-requires-clause-indexed : goal.mark_new-requires-clause-indexed
mark_new-requires-clause-indexed c =
    let l = c.passes in
    let r = c.args.self.now.roots.now in
    subst (Indexes r) (sym c.view.ensures.cells)
    ((passes-goes _ _ _ _ l.invariant.0 l.invariant.1 c.pass.new.table _ c.in_ok-pass.ensures).roots r c.requires.indexed)

pub mark_new-requires-clause-roots : goal.mark_new-requires-clause-roots
mark_new-requires-clause-roots c =
    let r = c.args.self.now.roots.now in
    roots-inside r c.passes.table (c.passes.invariant.0.roots r c.requires.indexed)

pub mark_new-requires-clause-settled : goal.mark_new-requires-clause-settled
mark_new-requires-clause-settled c =
    let l = c.passes in
    passes-settled _ _ _ _ l.invariant.0 l.invariant.1 c.pass.new.table _ c.in_ok-pass.ensures _ c.view.ensures.cells

pub passes-smaller : goal.passes-smaller
passes-smaller c =
    let l = c.passes in
    passes-left _ _ _ _ l.invariant.0 l.invariant.1 c.pass.new.table _ c.in_ok-pass.ensures c.if-calm.false

pub passes-preserved : goal.passes-preserved
passes-preserved c =
    let l = c.passes in (
      passes-goes _ _ _ _ l.invariant.0 l.invariant.1 c.pass.new.table _ c.in_ok-pass.ensures,
      passes-same _ _ _ _ l.invariant.0 l.invariant.1 c.pass.new.table _ c.in_ok-pass.ensures,
      subst (λ (t : List Cell). Watched c.args.self.now t c.mark_new.new.marks) c.view.ensures.cells c.mark_new.ensures,
    )
