use Rattle.std.proofs.Common.{◌≡◌, List, ℤ, ap, ◌∙◌, arith, rules}
use Rattle.table.specs.declared.Head.{Head}
use Rattle.table.specs.declared.edit.TableMut.{TableMut}
use Rattle.table.specs.Rows.{IsTable}
use Rattle.table.proofs.Wellformed.{formed-facts}
use Rattle.even.specs.Undo.{undone}
use Rattle.even.specs.Makes.{GoesOn}
use Rattle.even.proofs.Going.{length-of}
use Rattle.even.proofs.Undoing.{undone-formed}
use Rattle.even.proofs.even_out.Goals as goal

pub passes-requires-clause-watched : goal.passes-requires-clause-watched
passes-requires-clause-watched c a b ha hb d =
    let t = c.new-table.result in
    c.all-marks.ensures a (omega (arith, length-of t, t.within, t.slots))

-- what was split is taken back
back : (row : List ℤ) (head : Head) (t u : TableMut) → IsTable row head → t.row.now ≡ row → t.head ≡ head → GoesOn t u
    → undone head.count u.row.now ≡ row
back row head t u formed same e g =
    g.undone head.count (omega (arith, ap (λ h. h.count) e)) ∙ ap (undone head.count) same
    ∙ undone-formed row head (formed-facts _ _ formed)

pub returns-in_err-passes-clause-undone : goal.returns-in_err-passes-clause-undone
returns-in_err-passes-clause-undone c =
    let e = back c.args.row.now c.args.head c.new-table.result c.passes.new.table c.requires c.new-table.ensures.row
    c.new-table.ensures.head c.passes.ensures.goes_on in
    search (rules, e)

pub returns-clause-undone : goal.returns-clause-undone
returns-clause-undone c =
    let e = back c.args.row.now c.args.head c.new-table.result c.passes.new.table c.requires c.new-table.ensures.row
    c.new-table.ensures.head c.passes.ensures.goes_on in
    search (rules, e)
