use Rattle.std.proofs.Common.{◌<◌, length, get_or, drop, fold, sym, arith, to_z, of_z, w64, to_z-of_z}
use Rattle.std.proofs.lemmas.List.Elements.{All-get_or}
use Rattle.links.specs.Made.{lead}
use Rattle.links.proofs.Leads.{nearest-none, next-leads, next-behind, nearest-all}
use Rattle.links.proofs.nearest.nearest.Goals.{then-far-least, else-far-least}
use Rattle.links.proofs.nearest.nearest.Goals as goal

pub returns-then-count-eq0 : goal.returns-then-count-eq0
returns-then-count-eq0 g c = let e = c.count-count.ensures in sym (nearest-none c.args.nodes.now c.args.x c.args.y (g.L.NodeList.numbers c.args.list.now) (omega arith))

pub loop-k-preserved : goal.loop-k-preserved
loop-k-preserved g c =
    let ns = g.L.NodeList.numbers c.args.list.now in
    let nodes = c.args.nodes.now in
    let e = c.count-count.ensures in
    let t = c.loop-k-test.true in
    let h : c.loop-k.k < length ns = omega arith in
    let i = c.loop-k.invariant in
    let n = All-get_or (λ j. j < length nodes) ns c.loop-k.k 0 h c.requires.known in
    let m = c.number-i.ensures in
    let f = c.distance-far.ensures in
    let q = c.loop-k in
    let first = fold (lead nodes (to_z w64 (of_z w64 c.args.x)) (to_z w64 (of_z w64 c.args.y))) (get_or ns 0 0) (drop 1 ns) in
    elim c.if-far-least.branch [
      | then-far-least w ↦ rw (w.best-is, w.least-is) (record {
        known = omega arith;
        so_far = f;
        rest = next-leads nodes _ _ ns q.best q.k c.number-i.result first c.distance-far.result q.least h m f i.so_far i.rest w.if-far-least.true;
      })
      | else-far-least w ↦ rw (w.best-is, w.least-is) (record {
        known = i.known;
        so_far = i.so_far;
        rest = next-behind nodes _ _ ns q.best q.k c.number-i.result first c.distance-far.result q.least h m f i.so_far i.rest w.if-far-least.false;
      })
    ]

pub returns : goal.returns
returns g c =
    let e = c.count-count.ensures in
    let t = c.loop-k-test.false in
    let n = c.if-count-eq0.false in
    sym (nearest-all c.args.nodes.now c.args.x c.args.y (g.L.NodeList.numbers c.args.list.now) c.loop-k.best c.loop-k.k (omega arith) (omega arith) (simp (to_z-of_z c.ranges.x, to_z-of_z c.ranges.y) at c.loop-k.invariant.rest))
