-- The roots of the polygons passed stand in the table.
use Rattle.std.proofs.Common.{length, sum, take, ◌≡◌}
use Rattle.build.specs.Board.{board_of, roots_to}
use Rattle.build.specs.Steps.{placed}
use Rattle.build.proofs.put.put_all.Given as goal

abbrev pub invariant-loop-p : goal.invariant-loop-p
invariant-loop-p l =
    let b = board_of l.board.settings l.board.list.now l.board.outlines in
    let roots = roots_to b l.p in
    record {
      start : l.at ≡ sum (take l.p b.counts);
      next : l.k ≡ length roots;
      put : l.t ≡ placed l.initial.t 0 roots;
    }
