-- The parts of the sides, of which the first of each polygon and pair is an edge. Definitions only.
use Rattle.std.specs.Prelude.{◌≡◌, ℕ, ◌*◌, ◌<◌, min, max, List, [], ◌∷◌, length, slice_index, map}
use Rattle.std.specs.List.{range_with_len}
use Rattle.net.specs.Net.{Edge, NetCell, weld}
use Rattle.net.specs.First.{Part, part, same_part}
use Rattle.bare_net.specs.declared.sides.Sides.{Sides}
use Rattle.bare_net.specs.Sides.{slot_of, leaf_in, edge_at, cell_at}

abbrev pub slot_count : Sides → ℕ
slot_count s = 8 * length s.leaves.entries.now

abbrev pub part_at : Sides → ℕ → Part
part_at s j = part (leaf_in s (slot_of j).leaf).piece (edge_at s (slot_of j))

abbrev pub parts_from : (ℕ → Part) → ℕ → List Part
parts_from f n = map f (range_with_len 0 n)

abbrev pub parts_in : Sides → List Part
parts_in s = parts_from (part_at s) (slot_count s)

unfoldable pub edges_in : Sides → List Edge
edges_in s = map (λ (p : Part). p.edge) (weld same_part [] (parts_in s))

unfoldable pub cells_in : Sides → List NetCell
cells_in s = map (cell_at s) (range_with_len 0 (length s.leaves.entries.now))

-- what tells parts apart: the polygon, and the two nodes, the lesser first
abbrev pub key_of : (ℕ → Part) → ℕ → List ℕ
key_of f j = (f j).piece ∷ min (f j).edge.from (f j).edge.to ∷ max (f j).edge.from (f j).edge.to ∷ []

-- numbers of slots
abbrev pub AreSlots : Sides → List ℕ → Type 0
AreSlots s slots = (i : ℕ) → i < length slots → slice_index slots i < slot_count s

-- slots whose parts weld to the same as those of all
pub record AreListed (s : Sides) (slots : List ℕ) : Type 0 where
  pub known : AreSlots s slots
  pub alike : weld same_part [] (map (part_at s) slots) ≡ weld same_part [] (parts_in s)
