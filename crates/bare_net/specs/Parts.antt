-- The parts of a row of slots. Definitions only.
use Rattle.std.specs.Prelude.{ℕ, List, [], length, slice_index, map}
use Rattle.net.specs.Net.{Edge, weld}
use Rattle.net.specs.First.{Part, same_part}
use Rattle.bare_net.specs.declared.parts.Parts.{Parts}
use Rattle.bare_net.specs.Edges.{part_at, parts_from}

abbrev pub part_count : Parts → ℕ
part_count p = length p.slots.now

abbrev pub part_of : Parts → ℕ → Part
part_of p j = part_at p.sides.now (slice_index p.slots.now j)

-- of each polygon and pair the first
unfoldable pub edges_among : Parts → List Edge
edges_among p = map (λ (q : Part). q.edge) (weld same_part [] (parts_from (part_of p) (part_count p)))
