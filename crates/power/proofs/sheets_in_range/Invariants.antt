-- Whether those passed are in range.
use Rattle.std.proofs.Common.{◌≡◌, drop}
use Rattle.std.specs.List.{list_all}
use Rattle.floats.specs.Fractions.{in_sheet}
use Rattle.power.proofs.sheets_in_range.Given as goal

abbrev pub invariant-loop-c : goal.invariant-loop-c
invariant-loop-c l = l.good ≡ list_all (λ c. in_sheet c.sheet) (drop l.c l.cells)
