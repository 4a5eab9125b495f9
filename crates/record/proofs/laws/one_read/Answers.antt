use Rattle.std.proofs.Common.{ℕ, List, get_or, refl}
use Rattle.refusals.proofs.Settled.{one-said}
use Rattle.record.specs.declared.board.Read.{Read}
use Rattle.record.specs.Reading.{numbers}
use Rattle.record.proofs.laws.one_read.Goals as goal

-- the settings and the counts out of their numbers
abbrev read_from : List ℕ → Read
read_from vs =
    record {
      settings = record { level = get_or vs 0 0; cap = get_or vs 1 0; target = get_or vs 2 0 };
      counts = record { layers = get_or vs 3 0; polygons = get_or vs 4 0; points = get_or vs 5 0; splits = get_or vs 6 0 };
    }

pub returns : goal.returns
returns c = one-said (λ (r : Read). numbers r.settings r.counts) read_from (λ r. refl)
