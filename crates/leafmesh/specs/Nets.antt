-- A NetOutcome and a CheckOutcome of what a call says: every field is settled, and one that does not apply is 0.
use Rattle.std.specs.Prelude.{[], ◌∷◌, slice_index}
use Rattle.refusals.specs.Said.{Said, accepted, refused}
use Rattle.leafmesh.specs.declared.nets.NetOutcome.{NetOutcome}
use Rattle.leafmesh.specs.declared.nets.CheckOutcome.{CheckOutcome}

-- how many nodes, edges and cells, and how many links
abbrev pub net_outcome_of : Said → NetOutcome
net_outcome_of (accepted vs) = record { number = 0; place = 0; nodes = slice_index vs 0; edges = slice_index vs 1; cells = slice_index vs 2; links = slice_index vs 3 }
net_outcome_of (refused n p) = record { number = n; place = p; nodes = 0; edges = 0; cells = 0; links = 0 }

-- none, or the node and the edge's two ends
abbrev pub check_outcome_of : Said → CheckOutcome
check_outcome_of (accepted []) = record { number = 0; place = 0; broken = 0; node = 0; from = 0; to = 0 }
check_outcome_of (accepted (m ∷ ends)) = record { number = 0; place = 0; broken = 1; node = m; from = slice_index ends 0; to = slice_index ends 1 }
check_outcome_of (refused n p) = record { number = n; place = p; broken = 0; node = 0; from = 0; to = 0 }
