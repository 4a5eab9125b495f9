-- A failed read takes nothing.
use Rattle.std.specs.Io.KnownBytes.{Keeps}
use Rattle.leafnet_text.proofs.source.read_retrying.Given as goal

abbrev pub invariant-loop-turn : goal.invariant-loop-turn
invariant-loop-turn g l = Keeps (g.R.ReadEnd.remaining l.initial.reader) (g.R.ReadEnd.remaining l.reader)
