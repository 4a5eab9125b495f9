-- The sides of cells as entries of a row: two nodes, the lesser first, the cell, and which side of it. Definitions only.
use Rattle.std.specs.Prelude.{◌≡◌, ℕ, ◌+◌, ◌*◌, ◌/◌, ◌%◌, ◌<◌, ◌≤◌, min, max, List, [], ◌∷◌, map, length, slice_index, Option, MatchOption, IsPermutation, IsSorted}
use Rattle.std.specs.List.{range_with_len}
use Rattle.std.specs.Ordering.{nat_cmp}
use Rattle.std.specs.Cmp.Lexicographic.{slice_cmp}
use Rattle.net_rows.specs.declared.rows.Corners.{Corners}
use Rattle.net_rows.specs.Nets.{nth_cell, pair_of}
use Rattle.net.specs.Net.{NetCell}

-- the corners in their order, round the cell
abbrev pub round : Corners → List ℕ
round c = c.southwest ∷ c.southeast ∷ c.northeast ∷ c.northwest ∷ []

-- corner s of cell v; side s goes from it to the next one
abbrev pub corner_of : List NetCell → ℕ → ℕ → ℕ
corner_of cs v s = slice_index (round (nth_cell cs v).corners) s

abbrev pub side_pair : List NetCell → ℕ → ℕ → List ℕ
side_pair cs v s = pair_of (corner_of cs v s) (corner_of cs v ((s + 1) % 4))

-- side s of cell v
abbrev pub side_of : List NetCell → ℕ → ℕ → List ℕ
side_of cs v s = min (corner_of cs v s) (corner_of cs v ((s + 1) % 4)) ∷ max (corner_of cs v s) (corner_of cs v ((s + 1) % 4)) ∷ v ∷ s ∷ []

-- the i-th of all sides, four to a cell
abbrev pub side_entry : List NetCell → ℕ → List ℕ
side_entry cs i = side_of cs (i / 4) (i % 4)

-- the sides of the cells, in order
pub record Sided (cs : List NetCell) (row : List (List ℕ)) : Type 0 where
  pub same : IsPermutation (map (side_entry cs) (range_with_len 0 (4 * length cs))) row
  pub sorted : IsSorted (slice_cmp nat_cmp) row

-- the first cell that has two nodes as the ends of a side, where there is one
pub record IsFirstCell (cs : List NetCell) (a b v : ℕ) : Type 0 where
  pub inside : v < length cs
  pub side : ℕ
  pub is_side : side < 4
  pub there : side_pair cs v side ≡ pair_of a b
  pub first : (u s : ℕ) → u < length cs → s < 4 → side_pair cs u s ≡ pair_of a b → v ≤ u

abbrev pub FirstCellIs : List NetCell → ℕ → ℕ → Option ℕ → Type 0
FirstCellIs cs a b o = MatchOption o ((u s : ℕ) → u < length cs → s < 4 → side_pair cs u s ≡ pair_of a b → ⊥) (IsFirstCell cs a b)
