use Rattle.std.proofs.Common.{refl, ap, ◌∙◌}
use Rattle.std.specs.Result.{result_ok}
use Rattle.checks.specs.Checks.{conforming_says}
use Rattle.checks.proofs.Rooms.{after-walk}
use Rattle.checks.proofs.check_network_conforming.Goals as goal

pub returns-clause-work_row : goal.returns-clause-work_row
unfolding conforming_says
returns-clause-work_row c =
    let table = c.ok_or.ensures.ok_part ∙ ap result_ok c.in_ok-table.was in
    let net = c.ok_or-2.ensures.ok_part ∙ ap result_ok c.in_ok-net.was in
    let same_rows = rw net at c.judge.ensures.same_rows in
    let formed = rw (rw table at c.new.ensures.same_row, rw table at c.new.ensures.same_head) at c.in_ok-table.table.formed in
    let sound = rw same_rows at c.in_ok-net.net.sound in
    rw same_rows at c.find_fault.ensures.room ∙ after-walk _ _ c.args.work.now _ (rw (formed, sound) refl)
