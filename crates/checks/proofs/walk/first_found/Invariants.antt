-- No leaf passed has a fault.
use Rattle.std.proofs.Common.{◌≡◌, []}
use Rattle.std.specs.List.{filter_map}
use Rattle.table.specs.Slots.{cell_at}
use Rattle.checks.specs.Walks.{leaf_found, found_on}
use Rattle.checks.specs.Scopes.{class_of}
use Rattle.checks.proofs.walk.first_found.Given as goal

abbrev pub invariant-loop-id : goal.invariant-loop-id
invariant-loop-id g l =
    filter_map (λ id. found_on id (leaf_found (g.L.Lookup.nodes l.net) (g.L.Lookup.edges l.net) (class_of l.scope (cell_at l.table.row.now id).poly) l.sides (cell_at l.table.row.now id))) l.yielded ≡ []
