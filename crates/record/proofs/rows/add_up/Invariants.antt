-- The counts still to come add up to what is left as all do to all.
use Rattle.std.proofs.Common.{◌≡◌, drop}
use Rattle.record.specs.Writing.{add_up}
use Rattle.record.proofs.rows.add_up.Given as goal

abbrev pub invariant-loop-p : goal.invariant-loop-p
invariant-loop-p l = add_up (drop l.p-index l.polygons) l.left ≡ add_up l.polygons l.points
