use Rattle.std.proofs.Common.{◌≡◌, refl, sym, ap, ◌∙◌, true, false, ◌<◌, List, arith, length, length-set, take_all}
use lib.ListN.{get_or-replicate}
use Rattle.refusals.specs.Limits.{max_polygons}
use Rattle.table.specs.Mesh.{Cell}
use Rattle.table.specs.Tables.{cells}
use Rattle.table.proofs.Cells.{length-table}
use Rattle.links.specs.Count.{has_leaf}
use Rattle.links.proofs.Marks.{below_most, mark-more, mark-skip}
use Rattle.links.proofs.count.used.Goals as goal
use Rattle.links.proofs.count.used.Goals.{then-is_leaf, else-is_leaf}

pub loop-id-init : goal.loop-id-init
unfolding has_leaf
loop-id-init c = (refl, λ k h. get_or-replicate max_polygons k false false h)

pub bounds-used-polygon : goal.bounds-used-polygon
bounds-used-polygon c =
    let t = c.args.table.now in
    let low = below_most t.row.now t.head t.formed c.loop-id.id c.loop-id-test.true in
    let is = c.polygon.ensures in
    omega arith

pub loop-id-preserved : goal.loop-id-preserved
loop-id-preserved c =
    let t = c.args.table.now in
    let i = c.loop-id.invariant in
    let n = length-table t.row.now t.head.count in
    let h : c.loop-id.id < length (cells t) = omega arith in
    let is = sym c.is_leaf.ensures in
    elim c.if-is_leaf.branch [
      | then-is_leaf w ↦
          rw (w.used-is, w.polygon.ensures)
          (length-set c.loop-id.used _ true ∙ i.0, mark-more (cells t) c.loop-id.used c.loop-id.id i.0 h (is ∙ w.if-is_leaf.true) i.1)
      | else-is_leaf w ↦ rw w.used-is (i.0, mark-skip (cells t) c.loop-id.used c.loop-id.id h (is ∙ w.if-is_leaf.false) i.1)
    ]

pub returns : goal.returns
returns c k h =
    let t = c.args.table.now in
    let n = length-table t.row.now t.head.count in
    let end : c.loop-id.id ≡ t.head.count = omega arith in
    c.loop-id.invariant.1 k h ∙ ap (λ (cs : List Cell). has_leaf cs k) (take_all c.loop-id.id (cells t) (omega arith))
