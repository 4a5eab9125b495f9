-- The first of equal keys, and the numbering of the new ones: what a sort of the keys gives, and what the net is computed from. Definitions only.
use Rattle.std.specs.Prelude.{Bool, ◌&&◌, List, [], ◌∷◌, ◌≡◌, ℕ, ◌+◌, ◌≤◌, ◌<◌, ◌==◌, nat_eq, length, slice_index_or, Float, filter, count_by}
use Rattle.std.specs.List.{range_with_len}
use Rattle.cell.specs.Boxes.{Box, mid}
use Rattle.net.specs.Net.{position_of, MeshNode, Edge, NetCell, same_pair, Poly, node_at}

abbrev pub key : List ℕ → ℕ → ℕ
key ks i = slice_index_or ks i 0

-- the least j whose key is the key at i
abbrev pub first_of : List ℕ → ℕ → ℕ
first_of ks i = position_of nat_eq ks (key ks i)

abbrev pub is_new : List ℕ → ℕ → Bool
is_new ks i = first_of ks i == i

-- how many of the first n are new, and which
unfoldable pub rank : List ℕ → ℕ → ℕ
rank ks n = count_by (is_new ks) (range_with_len 0 n)

unfoldable pub news : List ℕ → ℕ → List ℕ
news ks n = filter (is_new ks) (range_with_len 0 n)

-- the parts of edges of all polygons, before any is left out, each with its polygon: the first with a polygon and a pair is kept
pub record Part : Type 0 where
  pub piece : ℕ
  pub edge : Edge

abbrev pub part : ℕ → Edge → Part
part k e = record { piece = k; edge = e }

abbrev pub same_part : Part → Part → Bool
same_part p q = (p.piece == q.piece) && same_pair p.edge q.edge

-- the number of what stands at i: of those with equal keys the number of the first
abbrev pub number_by : List ℕ → ℕ → ℕ
number_by ks i = rank ks (first_of ks i)

-- the cell of the leaf whose corners stand at c to c + 3
abbrev pub patch_by : List ℕ → ℕ → Float → NetCell
patch_by ks c s =
    record {
      corners = record { southwest = number_by ks c; southeast = number_by ks (c + 1); northeast = number_by ks (c + 2); northwest = number_by ks (c + 3) };
      sheet = s;
    }

-- the middles of a leaf's south, north, west and east sides
abbrev pub mids_at : Poly → Box → List MeshNode
mids_at p r = node_at p (mid r.x0 r.x1) r.y0 ∷ node_at p (mid r.x0 r.x1) r.y1 ∷ node_at p r.x0 (mid r.y0 r.y1) ∷ node_at p r.x1 (mid r.y0 r.y1) ∷ []

-- ---- the same of a row of first places, as the code has it

-- how many below n are their own first
unfoldable pub rank_in : List ℕ → ℕ → ℕ
rank_in fs n = count_by (λ i. slice_index_or fs i 0 == i) (range_with_len 0 n)

-- a row of first places
pub record Firsts (fs : List ℕ) : Type 0 where
  pub low : (i : ℕ) → i < length fs → slice_index_or fs i 0 ≤ i
  pub own : (i : ℕ) → i < length fs → slice_index_or fs (slice_index_or fs i 0) 0 ≡ slice_index_or fs i 0
