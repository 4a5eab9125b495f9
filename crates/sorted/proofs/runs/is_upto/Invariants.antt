-- The columns passed are equal, so those from here on decide.
use Rattle.std.proofs.Common.{◌≡◌, drop}
use Rattle.sorted.specs.Upto.{is_upto}
use Rattle.sorted.proofs.runs.is_upto.Given as goal

abbrev pub invariant-loop-c : goal.invariant-loop-c
invariant-loop-c g l = is_upto l.key l.entry ≡ is_upto (drop l.c l.key) (drop l.c l.entry)
