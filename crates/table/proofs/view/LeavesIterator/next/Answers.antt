use Rattle.std.proofs.Common.{◌≡◌, ◌∷◌, ◌+◌, arith, length, sym, ap, ◌∙◌}
use Rattle.table.specs.Mesh.{is_leaf}
use Rattle.table.specs.Tables.{cells, leaves_left}
use Rattle.table.proofs.Tables.{taken_left, skipped_left}
use Rattle.table.proofs.view.LeavesIterator.next.Goals as goal

first : (c : goal.Then-is_leaf) → leaves_left c.args.self.now
    ≡ c.loop-self.self.next ∷ leaves_left (record { table = c.loop-self.self.table; next = c.loop-self.self.next + 1 })
first c =
    let s = c.loop-self.self in
    sym c.loop-self.invariant.1
    ∙ taken_left (is_leaf (cells s.table)) _ _ c.loop-self-test.true (sym c.is_leaf.ensures ∙ c.if-is_leaf.true)

pub returns-then-is_leaf-clause-steps : goal.returns-then-is_leaf-clause-steps
returns-then-is_leaf-clause-steps c = first c

pub returns-then-is_leaf-clause-goes : goal.returns-then-is_leaf-clause-goes
returns-then-is_leaf-clause-goes c =
    record { on = λ f. (tt, tt, omega (arith, ap length (first c))); keeps = tt; rests = λ f. tt }

pub loop-self-preserved : goal.loop-self-preserved
loop-self-preserved c =
    let s = c.loop-self.self in (
      c.loop-self.invariant.0,
      sym (skipped_left (is_leaf (cells s.table)) _ _ c.loop-self-test.true (sym c.is_leaf.ensures ∙ c.if-is_leaf.false))
          ∙ c.loop-self.invariant.1,
    )
