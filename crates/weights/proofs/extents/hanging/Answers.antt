use Rattle.std.proofs.Common.{◌<◌, length, arith}
use Rattle.weights.specs.Ways.{axis_across}
use Rattle.weights.specs.Bare.{nodes_of, faced}
use Rattle.weights.proofs.Facing.{faced-long}
use Rattle.weights.proofs.Middles.{found_column, found_row, not_found, found_next}
use Rattle.weights.proofs.extents.hanging.Goals as goal

pub returns-then-ahead-step : goal.returns-then-ahead-step
returns-then-ahead-step c =
    let a = c.args in
    let start = c.start-start.result in
    let known = c.start-start.ensures _ c.requires.corners_known in
    let there : start < length (faced a.net.now (axis_across a.way)) = omega (arith, faced-long a.net.now (axis_across a.way)) in
    not_found a.way (nodes_of a.net.now) a.cell.now _ c.axis-axis.ensures _ _ c.node-near.ensures.value c.node-far.ensures.value _ c.side-side.ensures
    start _ c.node-first.ensures.value c.if-first-near.true c.if-first-side.true _ _ (c.requires.stepped start there c.if-step-gt0.true) c.if-first-middle.true c.if-ahead-step.true

pub returns-then-ahead-step-2 : goal.returns-then-ahead-step-2
returns-then-ahead-step-2 c =
    let a = c.args in
    let start = c.start-start.result in
    let known = c.start-start.ensures _ c.requires.corners_known in
    let there : start < length (faced a.net.now (axis_across a.way)) = omega (arith, faced-long a.net.now (axis_across a.way)) in
    found_next a.way (nodes_of a.net.now) a.cell.now _ c.axis-axis.ensures _ _ c.node-near.ensures.value c.node-far.ensures.value _ c.side-side.ensures
    start _ c.node-first.ensures.value c.if-first-near.true c.if-first-side.true _ _ (c.requires.stepped start there c.if-step-gt0.true) c.if-first-middle.true c.if-ahead-step-2.true

pub returns-in-Column : goal.returns-in-Column
returns-in-Column c =
    let a = c.args in
    found_column a.way (nodes_of a.net.now) a.cell.now _ c.axis-axis.ensures _ _ c.node-near.ensures.value c.node-far.ensures.value _ c.side-side.ensures
    c.in-Column.is _ (c.last_at.ensures (nodes_of a.net.now) c.requires.lined)

pub returns-in-Row : goal.returns-in-Row
returns-in-Row c =
    let a = c.args in
    found_row a.way (nodes_of a.net.now) a.cell.now _ c.axis-axis.ensures _ _ c.node-near.ensures.value c.node-far.ensures.value _ c.side-side.ensures
    c.in-Row.is _ (c.last_at-in-Row.ensures (nodes_of a.net.now) c.requires.lined)
