-- When a lent row is a table, and what it holds. Ghost fields cite this file, so it names no struct but the head.
use Rattle.std.specs.Prelude.{ℕ, ◌+◌, ◌==◌, IsTrue, List, [], ◌∷◌, ℤ, filter}
use Rattle.std.specs.List.{range_with_len, flat_map}
use Rattle.refusals.specs.Limits.{max_polygons}
use Rattle.table.specs.declared.Head.{Head}
use Rattle.table.specs.Mesh.{Cell, at, table, is_leaf}
use Rattle.table.specs.Formed.{well_formed}

abbrev pub head_of : ℕ → ℕ → ℕ → Head
head_of count leaves max_level = record { count = count; leaves = leaves; max_level = max_level }

-- the numbers of a head, in an answer's values
abbrev pub head_values : Head → List ℕ
head_values h = h.count ∷ h.leaves ∷ h.max_level ∷ []

-- the head of a table once one of its leaves is split
abbrev pub after_split : Head → Head
after_split h = head_of (h.count + 4) (h.leaves + 3) h.max_level

-- the row is well formed under this head (exactly if `WellFormed` holds: `Table::new` says so)
abbrev pub IsTable : List ℤ → Head → Type 0
IsTable row head = IsTrue (well_formed row head)

-- the cells, by id
abbrev pub cells_in : List ℤ → Head → List Cell
cells_in row head = table row head.count

-- the leaves by id
abbrev pub leaves_in : List ℤ → Head → List ℕ
leaves_in row head = filter (is_leaf (cells_in row head)) (range_with_len 0 head.count)

-- the leaves by polygon, then id
unfoldable pub order_in : List ℤ → Head → List ℕ
order_in row head =
    flat_map (λ p. filter (λ i. (at (cells_in row head) i).polygon == p) (leaves_in row head))
    (range_with_len 0 max_polygons)
