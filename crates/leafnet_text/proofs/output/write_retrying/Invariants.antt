-- A failed write leaves nothing.
use Rattle.std.specs.Io.KnownBytes.{Keeps}
use Rattle.leafnet_text.proofs.output.write_retrying.Given as goal

abbrev pub invariant-loop-turn : goal.invariant-loop-turn
invariant-loop-turn g l = Keeps (g.W.WriteEnd.contents l.initial.writer) (g.W.WriteEnd.contents l.writer)
