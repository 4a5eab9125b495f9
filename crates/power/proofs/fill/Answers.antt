use Rattle.std.proofs.Common.{◌+◌, ◌<◌, ◌≡◌, refl, ap, ◌∙◌, map, take, arith, length}
use Rattle.std.proofs.lemmas.List.{take_all}
use Rattle.refusals.specs.Said.{written}
use Rattle.net_rows.specs.Nets.{blank_cell}
use Rattle.net_rows.proofs.Written.{mapped_more}
use Rattle.power.specs.Powers.{cell_slope, cell_power}
use Rattle.power.proofs.fill.Goals as goal

pub returns-then-c-cells : goal.returns-then-c-cells
unfolding cell_power cell_slope
returns-then-c-cells c =
    let a = c.args in
    let cells = a.net.now.rows.cells.now in
    let f = cell_power a.net.now.rows.nodes.now a.potentials.now in
    mapped_more f cells a.answers.now c.loop-c.answers c.loop-c.c blank_cell c.power.result (omega arith) (omega arith) c.loop-c.invariant.filled
    (rw (c.power.ensures, c.grad.ensures, c.cell_values-first.ensures.values) refl)
    ∙ ap (λ xs. written (map f xs) a.answers.now) (take_all (c.loop-c.c + 1) cells (omega arith))

pub loop-c-preserved : goal.loop-c-preserved
unfolding cell_power cell_slope
loop-c-preserved c =
    let a = c.args in
    let l = c.loop-c in
    let cells = a.net.now.rows.cells.now in
    let f = cell_power a.net.now.rows.nodes.now a.potentials.now in
    let more : l.c + 1 < length cells = omega arith in
    let one = mapped_more f cells a.answers.now l.answers l.c blank_cell c.power-p.result (omega arith) (omega arith) l.invariant.filled
    (rw (c.power-p.ensures, c.grad-in-loop-c.ensures, c.cell_values-first.ensures.values) refl) in
    let two = mapped_more f cells a.answers.now _ (l.c + 1) blank_cell c.power-q.result more (omega arith) one
    (rw (c.power-q.ensures, c.grad-in-loop-c-2.ensures, c.cell_values-second.ensures.values) refl) in
    let next : l.c + 1 + 1 ≡ l.c + 2 = omega arith in
    record { within = omega arith; filled = two ∙ ap (λ i. written (map f (take i cells)) a.answers.now) next }

pub returns : goal.returns
returns c =
    let a = c.args in
    let f = cell_power a.net.now.rows.nodes.now a.potentials.now in
    c.loop-c.invariant.filled ∙ ap (λ xs. written (map f xs) a.answers.now) (take_all c.loop-c.c a.net.now.rows.cells.now (omega arith))
