use Rattle.std.proofs.Common.{◌-◌, length, take, drop, get_or, ap, sym}
use Rattle.std.proofs.lemmas.List.Elements.{All-take, All-drop}
use Rattle.net_rows.specs.Facts.{AreKnown}
use Rattle.net_rows.specs.declared.rows.NetCell.{NetCell}
use Rattle.links.proofs.Parts.{list-past, list-is}
use Rattle.links.proofs.by_polygon.NetByPolygon.cells_of.Goals as goal

pub returns-then-self-polygon-clause-corners : goal.returns-then-self-polygon-clause-corners
returns-then-self-polygon-clause-corners c =
    let net = c.args.self.now in
    sym (list-past net.cells.now net.starts.now c.args.polygon c.if-self-polygon.true)

pub returns-clause-known : goal.returns-clause-known
returns-clause-known c =
    let net = c.args.self.now in
    let P = λ (q : NetCell). AreKnown (length net.nodes.now) q.corners in
    All-take P _ _ (All-drop P _ _ net.known)

pub returns-clause-corners : goal.returns-clause-corners
returns-clause-corners c =
    let net = c.args.self.now in
    let start = get_or net.starts.now c.args.polygon 0 in
    list-is net.cells.now net.starts.now c.args.polygon _ c.if-self-polygon.false
    (ap (λ end. take (end - start) (drop start net.cells.now)) c.end_of.ensures.value)
