use Rattle.std.proofs.Common.{IsTrue, arith}
use Rattle.std.proofs.lemmas.List.Elements.{All-get_or}
use Rattle.links.specs.Judged.{via_in_range}
use Rattle.links.specs.Made.{via_links}
use Rattle.links.proofs.Behind.{stands-none, stands-all, next-room, next-stands}
use Rattle.links.proofs.by_layer.NodesByLayer.write_vias.Goals as goal

pub loop-via-init : goal.loop-via-init
loop-via-init c = stands-none _ _ _

pub write_via-count-requires : goal.write_via-count-requires
write_via-count-requires c =
    let a = c.args in
    let l = c.loop-via in
    let s = c.requires.side_room in
    let k = l.auto.sides in
    record {
      in_range = All-get_or (λ q. IsTrue (via_in_range q)) a.vias.now l.via-index _ c.loop-via-test.true c.requires.in_range;
      side_room = omega arith;
      room = next-room (via_links a.self.now.nodes.now) a.vias.now a.edges.now c.requires.room l.edges l.count l.via-index _ c.loop-via-test.true l.invariant;
    }

pub loop-via-preserved : goal.loop-via-preserved
loop-via-preserved c =
    let a = c.args in
    let l = c.loop-via in
    next-stands (via_links a.self.now.nodes.now) a.vias.now a.edges.now c.requires.room l.edges l.count l.via-index _ c.loop-via-test.true l.invariant
    _ _ c.write_via-count.ensures.row c.write_via-count.ensures.count

pub returns : goal.returns
returns c =
    let a = c.args in
    let l = c.loop-via in
    let s = stands-all (via_links a.self.now.nodes.now) a.vias.now a.edges.now l.edges l.count l.via-index c.loop-via-test.false l.invariant in
    record { count = s.0; row = s.1 }
