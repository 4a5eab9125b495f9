-- The bytes still to be put make the row what it is to be.
use Rattle.std.proofs.Common.{◌≡◌}
use lib.Seq.{sets}
use Rattle.std.specs.Int.{bytes_high_first}
use Rattle.fields.proofs.offset.put_at.Given as goal

abbrev pub invariant-loop-i : goal.invariant-loop-i
invariant-loop-i l = (sets l.bytes l.at (bytes_high_first l.i l.rest) ≡ sets l.fn.bytes l.at (bytes_high_first l.width l.value))
