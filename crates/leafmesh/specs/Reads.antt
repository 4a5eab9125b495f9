-- A ReadOutcome of what a read says: every field is settled, and one that does not apply is 0.
use Rattle.std.specs.Prelude.{ℕ, List, [], slice_index}
use Rattle.refusals.specs.Said.{Said, accepted, refused}
use Rattle.leafmesh.specs.declared.boards.ReadOutcome.{ReadOutcome}

-- the settings, then the counts
abbrev read_with : ℕ → ℕ → List ℕ → ReadOutcome
read_with n p vs =
    record {
      number = n;
      place = p;
      level = slice_index vs 0;
      cap = slice_index vs 1;
      target = slice_index vs 2;
      layers = slice_index vs 3;
      polygons = slice_index vs 4;
      points = slice_index vs 5;
      splits = slice_index vs 6;
    }

abbrev pub read_outcome_of : Said → ReadOutcome
read_outcome_of (accepted vs) = read_with 0 0 vs
read_outcome_of (refused n p) = read_with n p []
