use Rattle.std.proofs.Common.{◌≡◌, length, arith, sym, ap, ◌∙◌}
use Rattle.refusals.specs.Said.{if_accepted}
use Rattle.build.specs.Board.{board_of}
use Rattle.build.specs.Steps.{roots_said}
use Rattle.build.proofs.Fitting.{ring-alone, says-alone, leaves-alone}
use Rattle.build.proofs.Answering.{cut-counted}
use Rattle.build.proofs.cut.Goals as goal

pub cut_alone-requires-clause-short : goal.cut_alone-requires-clause-short
cut_alone-requires-clause-short c =
    let j = c.args.board.now in
    let b = board_of j.settings j.list.now j.outlines in
    let one : length b.counts ≡ 1 = omega (arith, j.fit.rows, c.in-len1.len_at_least, c.in-len1.len_below) in
    rw (ring-alone b j.fit one) at (j.fit.few 0 (omega (arith, one)))

pub returns-in-len1 : goal.returns-in-len1
returns-in-len1 c =
    let j = c.args.board.now in
    let b = board_of j.settings j.list.now j.outlines in
    let g = c.cutter-cutter.ensures in
    let t = c.args.table.now in
    let answer = c.cut_alone.result in
    let one : length b.counts ≡ 1 = omega (arith, j.fit.rows, c.in-len1.len_at_least, c.in-len1.len_below) in
    cut-counted b t c.cut_alone.new.table answer (rw (g.unit, g.cap, g.cell) at c.cut_alone.ensures.answer ∙ sym (says-alone b j.fit one _))
    (rw (g.cap, g.cell) at c.cut_alone.ensures.slots ∙ ap (λ roots. if_accepted (roots_said answer) roots t) (leaves-alone b j.fit one (length t)))
