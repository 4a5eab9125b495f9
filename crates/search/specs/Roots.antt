-- An index of the roots: a box for each 64 ids that holds the roots among them.
use Rattle.std.specs.Prelude.{ℕ, ◌/◌, ◌<◌, ◌≤◌, ◌≡◌, List, length, slice_index_or, None}
use Rattle.cell.specs.Boxes.{Box}
use Rattle.table.specs.Mesh.{Cell, at}
use Rattle.search.specs.Search.{RootsBelow, Within}
use Rattle.search.specs.declared.roots.Bounds.{Bounds}
use Rattle.search.specs.declared.roots.Roots.{Roots}

abbrev pub bounds_box : Bounds → Box
bounds_box b = record { x0 = b.x0; y0 = b.y0; x1 = b.x1; y1 = b.y1 }

-- the box of the 64 ids that i is one of
abbrev pub block_box : Roots → ℕ → Box
block_box r i = bounds_box (slice_index_or r.blocks (i / 64) (record { x0 = 0; y0 = 0; x1 = 0; y1 = 0 }))

-- the box holds each cell of level 0 from `from` below `to`
abbrev pub HoldsRoots : List Cell → ℕ → ℕ → Box → Type 0
HoldsRoots t from to b = (i : ℕ) → from ≤ i → i < to → (at t i).level ≡ 0 → Within (at t i).box b

-- each root's id is below the end, and the box of its 64 ids holds it
pub record Indexes (r : Roots) (t : List Cell) : Type 0 where
  pub inside : r.end ≤ length t
  pub below : RootsBelow t r.end
  pub holds : (i : ℕ) → (at t i).parent ≡ None → Within (at t i).box (block_box r i)
