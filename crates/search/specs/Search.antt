-- What the searches find: closed boxes that meet, the subtree of a cell, and the least id of a kind.
use Rattle.std.specs.Prelude.{ℕ, ◌+◌, ◌<◌, ◌≤◌, ◌≡◌, Bool, true, false, ◌&&◌, List, [], ◌∷◌, None, Some, nat_lt}
use Rattle.std.specs.Prelude.{nat_le}
use Rattle.cell.specs.Boxes.{Box, num}
use Rattle.table.specs.Mesh.{Cell, at}
use Rattle.coarsest.specs.Names.{Route}

-- two closed boxes have a point in common
unfoldable pub meet : Box → Box → Bool
meet a b = (nat_le a.x0 b.x1 && nat_le b.x0 a.x1) && (nat_le a.y0 b.y1 && nat_le b.y0 a.y1)

-- the cell C meets A and is coarser by more than k
unfoldable pub near_cells : ℕ → Cell → Cell → Bool
near_cells k A C = nat_lt (C.level + k) A.level && meet A.box C.box

-- the route from c, the topmost quadrant first, leads to b
abbrev pub Reach : List Cell → Route → ℕ → ℕ → Type 0
Reach t [] c b = c ≡ b
Reach t (q ∷ p) c b = (f : ℕ) × ((at t c).kids ≡ Some f) × Reach t p (f + num q) b

-- b stands in the subtree of c
pub record Under (t : List Cell) (c b : ℕ) : Type 0 where
  pub route : Route
  pub reach : Reach t route c b

-- r is the least id from `from` below `best` for which `asks` holds, of all ids that are `seen`; best, where there is
-- none
pub record Least (asks : ℕ → Bool) (seen : ℕ → Type 0) (from best r : ℕ) : Type 0 where
  pub most : r ≤ best
  pub found : r < best → (from ≤ r) × (asks r ≡ true)
  pub least : (b : ℕ) → seen b → from ≤ b → asks b ≡ true → r ≤ b

-- whether `asks` holds for an id below `stop`, of all ids that are `seen`
pub record Found (asks : ℕ → Bool) (seen : ℕ → Type 0) (stop : ℕ) (r : Bool) : Type 0 where
  pub yes : r ≡ true → (b : ℕ) × (b < stop) × (asks b ≡ true)
  pub no : r ≡ false → (b : ℕ) → seen b → b < stop → asks b ≡ true → ⊥

-- no root has this id or one above it
abbrev pub RootsBelow : List Cell → ℕ → Type 0
RootsBelow t top = (i : ℕ) → (at t i).parent ≡ None → i < top

-- the box b holds the box a
pub record Within (a b : Box) : Type 0 where
  pub x0 : b.x0 ≤ a.x0
  pub y0 : b.y0 ≤ a.y0
  pub x1 : a.x1 ≤ b.x1
  pub y1 : a.y1 ≤ b.y1

-- the box a meets nothing that the box b holds
abbrev pub Clears : Box → Box → Type 0
Clears a b = (x : Box) → Within x b → meet a x ≡ false

-- no root from c below r meets the cell a
abbrev pub Passed : List Cell → ℕ → ℕ → ℕ → Type 0
Passed t a c r = (i : ℕ) → c ≤ i → i < r → (at t i).parent ≡ None → meet (at t a).box (at t i).box ≡ false
