use Rattle.std.proofs.Common.{◌+◌, length, arith, refl, sym}
use Rattle.build.specs.Board.{board_of}
use Rattle.build.proofs.Boards.{no-roots, length-roots-more, roots-mono, polygon-placed}
use Rattle.build.proofs.Placing.{placed-none, room-down}
use Rattle.build.proofs.put.put_all.Goals as goal

pub loop-p-init : goal.loop-p-init
loop-p-init c =
    let a = c.args in
    let b = board_of a.board.now.settings a.board.now.list.now a.board.now.outlines in
    let e = no-roots b in
    record { start = refl; next = rw e refl; put = rw e (sym (placed-none a.t.now 0)) }

pub put_strips-k-requires : goal.put_strips-k-requires
put_strips-k-requires c =
    let a = c.args in
    let b = board_of a.board.now.settings a.board.now.list.now a.board.now.outlines in
    let s = c.loop-p in
    let g = c.cutter-cutter.ensures in
    let ring = c.ring-points.ensures.points in
    let fits = roots-mono b (s.p + 1) (length b.counts) (omega arith) in
    let more = length-roots-more b s.p in
    rw (g.cap, g.cell, c.ready.ensures, ring)
    (record {
      room = record {
        room = room-down _ _ _ _ (omega (arith, s.invariant.next, fits, more)) c.requires.room s.auto.t;
        few = omega (arith, c.requires.few, s.auto.t);
      };
      polygon_in_range = omega (arith, c.loop-p-test.true, a.board.now.fit.polys);
    })

pub loop-p-preserved : goal.loop-p-preserved
loop-p-preserved c =
    let a = c.args in
    let b = board_of a.board.now.settings a.board.now.list.now a.board.now.outlines in
    let s = c.loop-p in
    let g = c.cutter-cutter.ensures in
    let ring = c.ring-points.ensures.points in
    let put = rw (g.cap, g.cell, c.ready.ensures, ring) at c.put_strips-k.ensures in
    let fits = roots-mono b (s.p + 1) (length b.counts) (omega arith) in
    record {
      start = c.ring-points.ensures.next;
      next = omega (arith, put.next, s.invariant.next, length-roots-more b s.p);
      put = polygon-placed b a.t.now s.t c.put_strips-k.new.t s.k s.p s.invariant.next s.invariant.put put.slots
          (room-down _ _ _ _ (omega (arith, fits)) c.requires.room refl);
    }
