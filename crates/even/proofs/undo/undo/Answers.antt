use Rattle.std.proofs.Common.{rules, ◌≡◌, get_or, pos, arith, w64, to_z, of_z}
use Rattle.even.specs.Undo.{undone_at}
use Rattle.even.proofs.Undoing.{undo-turn, undo-ends}
use Rattle.even.proofs.undo.undo.Goals as goal

pub loop-j-preserved : goal.loop-j-preserved
loop-j-preserved c =
    let l = c.loop-j in
    let e : to_z w64 (of_z w64 c.undone_at.result) ≡ undone_at c.args.n l.j (get_or l.row l.j (pos 0)) = search rules in
    undo-turn _ _ _ _ _ l.invariant c.loop-j-test.true e

pub returns : goal.returns
returns c = undo-ends _ _ _ c.loop-j.j c.loop-j.invariant (omega arith)
