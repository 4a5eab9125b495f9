-- The leaves of all polygons in one list, and the net before the weights by indices into it: what rows of numbers hold. Definitions only.
-- Lists with a count beside them go by recursion, as their lemmas do: std's `fold` and `range_with_len` would add a turn to each.
use Rattle.std.specs.Prelude.{Bool, List, [], ◌∷◌, ◌++◌, map, ℕ, zero, suc, ◌+◌, ◌*◌, nat_lt, Float, slice_index_or, if◌then◌else◌, flat_map}
use Rattle.cell.specs.Boxes.{Box, mid}
use Rattle.net.specs.Net.{Poly, MeshNode, Edge, NetCell, Piece, corners_at, across, upright, One, Half, ◌·◌, ◌÷◌}
use Rattle.net.specs.First.{first_of, number_by, patch_by, mids_at, Part, part}

-- a leaf, with its polygon and its polygon's index
pub record Leaf : Type 0 where
  pub piece : ℕ
  pub poly : Poly
  pub box : Box

abbrev pub leaf : ℕ → Poly → Box → Leaf
leaf k p r = record { piece = k; poly = p; box = r }

-- the leaf past the end
abbrev pub no_leaf : Leaf
no_leaf = leaf 0 (record { layer = 0; component = 0; sheet = One }) (record { x0 = 0; y0 = 0; x1 = 0; y1 = 0 })

abbrev pub leaf_at : List Leaf → ℕ → Leaf
leaf_at ls v = slice_index_or ls v no_leaf

-- the leaves of the polygons from k on
unfoldable pub leaves_from : List Piece → ℕ → List Leaf
leaves_from [] k = []
leaves_from (q ∷ qs) k = map (leaf k q.poly) q.leaves ++ leaves_from qs (suc k)

-- the places of one leaf: 0 to 3 the corners SW, SE, NE, NW, 4 to 7 the middles of its south, north, west and east sides
abbrev pub place_x : Box → ℕ → ℕ
place_x r zero = r.x0
place_x r (suc zero) = r.x1
place_x r (suc (suc zero)) = r.x1
place_x r (suc (suc (suc zero))) = r.x0
place_x r (suc (suc (suc (suc zero)))) = mid r.x0 r.x1
place_x r (suc (suc (suc (suc (suc zero))))) = mid r.x0 r.x1
place_x r (suc (suc (suc (suc (suc (suc zero)))))) = r.x0
place_x r (suc (suc (suc (suc (suc (suc (suc s))))))) = r.x1

abbrev pub place_y : Box → ℕ → ℕ
place_y r zero = r.y0
place_y r (suc zero) = r.y0
place_y r (suc (suc zero)) = r.y1
place_y r (suc (suc (suc zero))) = r.y1
place_y r (suc (suc (suc (suc zero)))) = r.y0
place_y r (suc (suc (suc (suc (suc zero))))) = r.y1
place_y r (suc (suc (suc (suc (suc (suc zero)))))) = mid r.y0 r.y1
place_y r (suc (suc (suc (suc (suc (suc (suc s))))))) = mid r.y0 r.y1

abbrev pub corners_in : Leaf → List MeshNode
corners_in l = corners_at l.poly l.box

abbrev pub mids_in : Leaf → List MeshNode
mids_in l = mids_at l.poly l.box

-- the corners of all leaves, and behind them the middles
unfoldable pub flat_places : List Leaf → List MeshNode
flat_places ls = flat_map corners_in ls ++ flat_map mids_in ls

-- ---- the parts of edges, eight to a leaf: a side in halves, or the whole side twice, of which the second is never the first

-- a side from the place a to the place b, with the middle m, that has the resistance r
abbrev pub side_twice : List ℕ → Bool → ℕ → ℕ → ℕ → Float → List Edge
side_twice ks hit a m b r =
    let g = if hit then One ÷ (r · Half) else One ÷ r in
    record { from = number_by ks a; to = if hit then number_by ks m else number_by ks b; conductance = g }
    ∷ record { from = if hit then number_by ks m else number_by ks a; to = number_by ks b; conductance = g } ∷ []

unfoldable pub slots_by : List ℕ → ℕ → ℕ → ℕ → Float → Float → List Edge
slots_by ks n c m f t =
    side_twice ks (nat_lt (first_of ks m) n) c m (c + 1) f
    ++ (side_twice ks (nat_lt (first_of ks (m + 1)) n) (c + 3) (m + 1) (c + 2) f
    ++ (side_twice ks (nat_lt (first_of ks (m + 2)) n) c (m + 2) (c + 3) t
    ++ side_twice ks (nat_lt (first_of ks (m + 3)) n) (c + 1) (m + 3) (c + 2) t))

-- of the leaves from t on, where there are z in all, and `up k` in the polygons up to k
unfoldable pub flat_slots : List ℕ → ℕ → (ℕ → ℕ) → ℕ → List Leaf → List Part
flat_slots ks z up t [] = []
flat_slots ks z up t (l ∷ ls) =
    map (part l.piece) (slots_by ks (4 * up l.piece) (4 * t) (4 * z + 4 * t) (across l.poly l.box) (upright l.poly l.box))
    ++ flat_slots ks z up (suc t) ls

unfoldable pub flat_patches : List ℕ → ℕ → List Leaf → List NetCell
flat_patches ks t [] = []
flat_patches ks t (l ∷ ls) = patch_by ks (4 * t) l.poly.sheet ∷ flat_patches ks (suc t) ls
