-- The powers of the cells passed, and behind them what the row held.
use Rattle.std.proofs.Common.{◌≤◌, ◌-◌, ◌≡◌, map, length, take}
use Rattle.refusals.specs.Said.{written}
use Rattle.power.specs.Powers.{cell_power}
use Rattle.power.proofs.fill.Given as goal

abbrev pub invariant-loop-c : goal.invariant-loop-c
invariant-loop-c l = record {
  within : l.c ≤ length l.net.rows.cells.now;
  filled : l.answers ≡ written (map (cell_power l.net.rows.nodes.now l.potentials) (take l.c l.net.rows.cells.now)) l.fn.answers;
}

abbrev pub decreases-loop-c : goal.decreases-loop-c
decreases-loop-c l = length l.net.rows.cells.now - l.c
