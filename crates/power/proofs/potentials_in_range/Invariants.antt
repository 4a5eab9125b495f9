-- Whether those passed are in range.
use Rattle.std.proofs.Common.{◌≡◌, take}
use Rattle.std.specs.List.{list_all}
use Rattle.floats.specs.Fractions.{in_potential}
use Rattle.power.proofs.potentials_in_range.Given as goal

abbrev pub invariant-loop-u : goal.invariant-loop-u
invariant-loop-u l = l.good ≡ list_all in_potential (take l.u-index l.potentials)
