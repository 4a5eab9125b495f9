-- The cells passed stand in the table.
use Rattle.std.proofs.Common.{◌≡◌}
use Rattle.build.specs.Grid.{row_to}
use Rattle.build.specs.Steps.{placed}
use Rattle.build.proofs.put.put_row.Given as goal

abbrev pub invariant-loop-i : goal.invariant-loop-i
invariant-loop-i l =
    record { put : l.t ≡ placed l.initial.t l.k (row_to l.poly l.r l.n l.i) }
