-- What stands in the row and what is still to come make up the row that is wanted.
use Rattle.std.proofs.Common.{◌≡◌, ◌≤◌, length, ◌+◌}
use Rattle.std.specs.Iterator.Adapters.{enumerate_source, enumerate_count}
use Rattle.strips.specs.Said.{laid, laying}
use Rattle.strips.specs.Strips.{strips_of}
use Rattle.strips.specs.Coming.{coming}
use Rattle.strips.proofs.lay.Given as goal

abbrev pub invariant-loop-n : goal.invariant-loop-n
invariant-loop-n l =
    let all = strips_of l.ring.points.now in
    let rest = coming (enumerate_source l.n-iterator) in
    let k = enumerate_count l.n-iterator in
    record {
      counted : k + length rest ≡ length all;
      fits : length all ≤ length l.out;
      laid : laying l.out k rest ≡ laid all l.fn.out;
    }
