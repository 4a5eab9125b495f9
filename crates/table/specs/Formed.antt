-- The rules' "Well-formed table", clause by clause; and the test whose answer the code gives, which holds exactly if
-- the definition does (proofs/Wellformed.antt). How the code comes to that answer is in Walk.antt.
use Rattle.std.specs.Prelude.{ℕ, suc, ◌+◌, ◌*◌, ◌-◌, ◌/◌, ◌%◌, ◌^◌, ◌<◌, ◌≤◌, ◌≡◌, Bool, true, ◌&&◌, List, ℤ, pos}
use Rattle.std.specs.Prelude.{length, None, Some, ◌==◌, if◌then◌else◌, nat_lt, nat_le, slice_index_or}
use Rattle.std.specs.List.{list_all, range_with_len}
use Rattle.refusals.specs.Limits.{widest_level, max_slots, max_polygons}
use Rattle.cell.specs.Boxes.{Quad, num, quadrant, quad_at}
use Rattle.cell.specs.declared.Cell as Held
use Rattle.cell.specs.Cells.{no_cell, child_of}
use Rattle.table.specs.declared.Head.{Head}
use Rattle.table.specs.Slots.{same_z, cell_at, in_slot}
use Rattle.table.specs.Mesh.{Cell, at, table, leaf_count}

-- ---- the definition

-- "in order SW, SE, NW, NE, cut at the exact midpoints", "each naming it as parent, one level finer, same polygon"
pub record Kid (t : List Cell) (i : ℕ) (q : Quad) (j : ℕ) : Type 0 where
  pub box : (at t j).box ≡ quadrant (at t i).box q
  pub level : (at t j).level ≡ suc (at t i).level
  pub parent : (at t j).parent ≡ Some i
  pub polygon : (at t j).polygon ≡ (at t i).polygon

-- "a split cell has four children with consecutive ids, all above its own and below the count"; its level is then below
-- max_level
pub record Split (M : ℕ) (t : List Cell) (i f : ℕ) : Type 0 where
  pub above : i < f
  pub below : f + 4 ≤ length t
  pub finer : (at t i).level < M
  pub kid : (q : Quad) → Kid t i q (f + num q)

-- "each non-root is one of its parent's four"
pub record Born (t : List Cell) (i j : ℕ) : Type 0 where
  pub first : ℕ
  pub place : Quad
  pub split : (at t j).kids ≡ Some first
  pub here : i ≡ first + num place

-- "a root has level 0" and "sides that are positive multiples of 2^(max_level+1)"
pub record Root (M : ℕ) (c : Cell) : Type 0 where
  pub level : c.level ≡ 0
  pub wide : (n : ℕ) × (c.box.x1 ≡ c.box.x0 + suc n * 2 ^ (M + 1))
  pub high : (n : ℕ) × (c.box.y1 ≡ c.box.y0 + suc n * 2 ^ (M + 1))

-- the clauses on the cells, whatever row holds them
pub record Formed (M : ℕ) (t : List Cell) : Type 0 where
  pub split : (i f : ℕ) → (at t i).kids ≡ Some f → Split M t i f
  pub born : (i j : ℕ) → i < length t → (at t i).parent ≡ Some j → Born t i j
  pub root : (i : ℕ) → (at t i).parent ≡ None → Root M (at t i)

pub record WellFormed (t : List ℤ) (head : Head) : Type 0 where
  -- "max_level in range"
  pub range : head.max_level ≤ widest_level
  -- "length a multiple of 8 and slots in range"
  pub whole : length t % 8 ≡ 0
  pub slots : length t / 8 ≤ max_slots
  -- "count at most slots"
  pub count : head.count ≤ length t / 8
  -- "all slots at or past the count zero"
  pub rest : (j : ℕ) → head.count * 8 ≤ j → j < length t → slice_index_or t j (pos 0) ≡ pos 0
  -- every number of a cell is one that a cell has: its coordinates in range, the others not negative
  pub held : (i : ℕ) → i < head.count → in_slot t i ≡ true
  -- "level at most max_level"
  pub level : (i : ℕ) → i < head.count → (cell_at t i).level ≤ head.max_level
  -- "Polygon indices are below 256"
  pub polygon : (i : ℕ) → i < head.count → (cell_at t i).poly < max_polygons
  -- the clauses on roots, children and parents
  pub cells : Formed head.max_level (table t head.count)
  -- "leaves is the number of cells below the count without a child"
  pub leaves : head.leaves ≡ leaf_count (table t head.count)

-- ---- the test

abbrev pub zero_at : List ℤ → ℕ → Bool
zero_at t j = same_z (slice_index_or t j (pos 0)) (pos 0)

unfoldable pub rest_zero : List ℤ → ℕ → Bool
rest_zero t n = list_all (zero_at t) (range_with_len (n * 8) (length t - n * 8))

-- a side from a to b is a positive multiple of the step
unfoldable pub side_ok : ℕ → ℕ → ℕ → Bool
side_ok step a b = nat_lt a b && (b - a) % step == 0

unfoldable pub root_ok : ℕ → Held.Cell → Bool
root_ok step c = c.level == 0 && side_ok step c.x0 c.x1 && side_ok step c.y0 c.y1

-- cell i is one of its parent's four
unfoldable pub born_ok : List ℤ → ℕ → ℕ → ℕ → Bool
born_ok t n i p = nat_lt p n && nat_le (cell_at t p).first i && nat_lt i ((cell_at t p).first + 4)

-- the same cell, but for its children
unfoldable pub same_but : Held.Cell → Held.Cell → Bool
same_but a b =
    a.x0 == b.x0 && a.y0 == b.y0 && a.x1 == b.x1 && a.y1 == b.y1
    && a.level == b.level && a.parent == b.parent && a.poly == b.poly

unfoldable pub kid_ok : List ℤ → ℕ → Held.Cell → ℕ → Bool
kid_ok t i c k = same_but (cell_at t (c.first + k)) (child_of i (quad_at k) c)

unfoldable pub kids_ok : List ℤ → ℕ → ℕ → ℕ → Held.Cell → Bool
kids_ok t n M i c =
    if c.first == no_cell then true
    else nat_lt i c.first && nat_le (c.first + 4) n && nat_lt c.level M
    && kid_ok t i c 0 && kid_ok t i c 1 && kid_ok t i c 2 && kid_ok t i c 3

unfoldable pub place_ok : List ℤ → ℕ → ℕ → ℕ → Held.Cell → Bool
place_ok t n step i c = if c.parent == no_cell then root_ok step c else born_ok t n i c.parent

unfoldable pub cell_ok : List ℤ → ℕ → ℕ → ℕ → Bool
cell_ok t n M i =
    in_slot t i && nat_le (cell_at t i).level M && nat_lt (cell_at t i).poly max_polygons
    && place_ok t n (2 ^ (M + 1)) i (cell_at t i) && kids_ok t n M i (cell_at t i)

-- "length a multiple of 8 and slots in range"
abbrev pub holds_whole_slots : ℕ → Bool
holds_whole_slots size = size % 8 == 0 && nat_le (size / 8) max_slots

unfoldable pub shape_ok : ℕ → ℕ → ℕ → Bool
shape_ok size n M = nat_le M widest_level && holds_whole_slots size && nat_le n (size / 8)

unfoldable pub cells_ok : List ℤ → ℕ → ℕ → Bool
cells_ok t n M = list_all (cell_ok t n M) (range_with_len 0 n)

unfoldable pub well_formed : List ℤ → Head → Bool
well_formed t head =
    shape_ok (length t) head.count head.max_level
    && (rest_zero t head.count
    && (cells_ok t head.count head.max_level && head.leaves == leaf_count (table t head.count)))
