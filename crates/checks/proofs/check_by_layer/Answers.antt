use Rattle.std.proofs.Common.{refl, sym, ap, ◌∙◌, arith}
use Rattle.std.specs.Result.{result_ok}
use Rattle.checks.specs.Checks.{layers_says}
use Rattle.checks.proofs.Faults.{fit-facts}
use Rattle.checks.proofs.Rooms.{after-walk}
use Rattle.checks.proofs.check_by_layer.Goals as goal

pub find_fault-requires : goal.find_fault-requires
find_fault-requires c =
    let f = fit-facts _ _ _ _ (sym c.fit.ensures ∙ c.if-not-fit.false) in
    λ i h. (let k = f.1 i h in let l = f.0 in record { layer = k; component = omega arith })

pub returns-clause-work_row : goal.returns-clause-work_row
unfolding layers_says
returns-clause-work_row c =
    let table = c.ok_or.ensures.ok_part ∙ ap result_ok c.in_ok-table.was in
    let net = c.ok_or-2.ensures.ok_part ∙ ap result_ok c.in_ok-net.was in
    let same_row = rw table at c.new.ensures.same_row in
    let same_head = rw table at c.new.ensures.same_head in
    let same_rows = rw net at c.judge.ensures.same_rows in
    let formed = rw (same_row, same_head) at c.in_ok-table.table.formed in
    let sound = rw same_rows at c.in_ok-net.net.sound in
    let fit = rw (same_row, same_head) at (sym c.fit.ensures ∙ c.if-not-fit.false) in
    rw same_rows at c.find_fault.ensures.room ∙ after-walk _ _ c.args.work.now _ (rw (formed, sound, fit) refl)
