use Rattle.std.proofs.Common.{List, take, subst, arith}
use Rattle.std.proofs.lemmas.List.{take_more, take_all, length-map}
use Rattle.net_rows.specs.Nodes.{in_mesh}
use Rattle.net.specs.Net.{NetCell}
use Rattle.weights.specs.Ways.{way_of}
use Rattle.weights.specs.Bare.{nodes_of}
use Rattle.weights.proofs.Hanging.{Raised, raised_none, raised_on, raised_all}
use Rattle.weights.proofs.extents.raise_hanging.Goals as goal

pub loop-cell-init : goal.loop-cell-init
loop-cell-init c = raised_none (way_of c.args.way) (nodes_of c.args.net.now) _ c.requires.own_gaps

pub loop-cell-preserved : goal.loop-cell-preserved
loop-cell-preserved c =
    let net = c.args.net.now in
    let w = way_of c.args.way in
    let i = c.loop-cell.cell-index in
    let m = length-map net.nodes.now in_mesh in
    let r = c.requires.room in
    raised_on w (nodes_of net) (take i net.cells.now) _ c.loop-cell.extents (omega arith) c.loop-cell.invariant _ c.hanging-node.ensures
    _ c.size.ensures _ c.raise.ensures _ (take_more net.cells.now i _ c.loop-cell-test.true)

pub returns : goal.returns
returns c =
    let net = c.args.net.now in
    let w = way_of c.args.way in
    raised_all w (nodes_of net) net.cells.now _ (subst (λ (cs : List NetCell). Raised w (nodes_of net) cs c.loop-cell.extents) (take_all c.loop-cell.cell-index net.cells.now c.loop-cell-test.false) c.loop-cell.invariant)
