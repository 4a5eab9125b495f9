-- A ring: a row of points, x and y each, every point joined to the next and the last to the first. Coordinates are
-- offset by 2^36, as a cell's are: a ring is judged before it is cut, so that none is out of range.
use Rattle.std.specs.Prelude.{ℕ, ◌+◌, Bool, not, ◌&&◌, ◌||◌, List, [], length, ℤ, pos, ◌==◌}
use Rattle.std.specs.Prelude.{if◌then◌else◌, nat_lt, nat_le, slice_index_or}
use Rattle.std.specs.List.{list_all, list_any, range_with_len}
use Rattle.refusals.specs.Limits.{max_points}
use Rattle.cell.specs.Ticks.{off, in_range}
use Rattle.strips.specs.declared.ring.Edge.{Edge}

abbrev pub x_at : List (List ℤ) → ℕ → ℕ
x_at ps i = off (slice_index_or (slice_index_or ps i []) 0 (pos 0))

abbrev pub y_at : List (List ℤ) → ℕ → ℕ
y_at ps i = off (slice_index_or (slice_index_or ps i []) 1 (pos 0))

-- the point after point i: the first follows the last
abbrev pub after : List (List ℤ) → ℕ → ℕ
after ps i = if nat_lt (i + 1) (length ps) then i + 1 else 0

-- the ring's edge from point i to the next
unfoldable pub edge_at : List (List ℤ) → ℕ → Edge
edge_at ps i = record { x0 = x_at ps i; y0 = y_at ps i; x1 = x_at ps (after ps i); y1 = y_at ps (after ps i) }

unfoldable pub vertical : Edge → Bool
vertical e = e.x0 == e.x1

-- its ends differ in both x and y
unfoldable pub slants : Edge → Bool
slants e = not (e.x0 == e.x1) && not (e.y0 == e.y1)

-- it goes from y lo, or below, to y hi, or above, or the other way
unfoldable pub reaches : ℕ → ℕ → Edge → Bool
reaches lo hi e = (nat_le e.y0 lo && nat_le hi e.y1) || (nat_le e.y1 lo && nat_le hi e.y0)

abbrev pub both_in_range : List ℤ → Bool
both_in_range p = in_range (slice_index_or p 0 (pos 0)) && in_range (slice_index_or p 1 (pos 0))

abbrev pub point_in_range : List (List ℤ) → ℕ → Bool
point_in_range ps i = both_in_range (slice_index_or ps i [])

-- the rules' ranges: the number of points, and every coordinate
unfoldable pub ring_in_range : List (List ℤ) → Bool
ring_in_range ps = nat_le (length ps) max_points && list_all (point_in_range ps) (range_with_len 0 (length ps))

abbrev pub slants_at : List (List ℤ) → ℕ → Bool
slants_at ps i = slants (edge_at ps i)

-- the rules: two neighbouring ring points, last to first included, differ in both x and y
unfoldable pub ring_slants : List (List ℤ) → Bool
ring_slants ps = list_any (slants_at ps) (range_with_len 0 (length ps))
