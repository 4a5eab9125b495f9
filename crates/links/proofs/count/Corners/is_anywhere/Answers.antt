use Rattle.std.proofs.Common.{◌≡◌, ◌<◌, ◌≤◌, ◌-◌, ℕ, false, sym, subst, ◌∙◌, ⊎_elim, arith}
use Rattle.table.specs.Tables.{cells}
use Rattle.cell.proofs.Offsets.{below?}
use Rattle.links.specs.Count.{meets}
use Rattle.links.proofs.Marks.{met-some, met-none}
use Rattle.links.proofs.count.Corners.is_anywhere.Goals as goal

pub returns-then-meets : goal.returns-then-meets
returns-then-meets c =
    let s = c.args.self.now in
    let most = c.loop-earlier.invariant.0 in
    let some = c.loop-earlier-test.true in
    sym (met-some (cells s.table) s.polygons c.args.node c.args.id (c.loop-earlier.earlier - 1) (omega arith) (sym c.meets.ensures ∙ c.if-meets.true))

pub loop-earlier-preserved : goal.loop-earlier-preserved
loop-earlier-preserved c =
    let s = c.args.self.now in
    let l = c.loop-earlier in
    let most = l.invariant.0 in
    let some = c.loop-earlier-test.true in (
      omega arith,
      λ i h below. ⊎_elim
          (λ (g : l.earlier - 1 < i). l.invariant.1 i (omega arith) below)
          (λ (g : i ≤ l.earlier - 1).
          let e : l.earlier - 1 ≡ i = omega arith in
          subst (λ (j : ℕ). meets (cells s.table) s.polygons c.args.node j ≡ false) e (sym c.meets.ensures ∙ c.if-meets.false))
          (below? (l.earlier - 1) i),
    )

pub returns : goal.returns
returns c =
    let s = c.args.self.now in
    let end = c.loop-earlier-test.false in
    sym (met-none (cells s.table) s.polygons c.args.node c.args.id (λ i h. c.loop-earlier.invariant.1 i (omega arith) h))
