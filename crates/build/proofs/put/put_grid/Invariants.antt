-- The rows passed stand in the table.
use Rattle.std.proofs.Common.{length, ◌+◌, ◌≡◌}
use Rattle.build.specs.Grid.{grid_to}
use Rattle.build.specs.Steps.{placed}
use Rattle.build.proofs.put.put_grid.Given as goal

abbrev pub invariant-loop-j : goal.invariant-loop-j
invariant-loop-j l =
    record {
      next : l.at ≡ l.k + length (grid_to l.poly l.s l.g l.j);
      put : l.t ≡ placed l.initial.t l.k (grid_to l.poly l.s l.g l.j);
    }
