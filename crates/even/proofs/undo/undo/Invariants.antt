-- The numbers before j are undone, and the others are as they were.
use Rattle.std.proofs.Common.{◌≡◌}
use Rattle.even.proofs.Undoing.{undoing}
use Rattle.even.proofs.undo.undo.Given as goal

abbrev pub invariant-loop-j : goal.invariant-loop-j
invariant-loop-j l = l.row ≡ undoing l.n l.initial.row l.j
