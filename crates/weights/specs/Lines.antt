-- Nodes on the lines of an axis, as entries of a row, and the extents of nodes along an axis. Definitions only.
use Rattle.std.specs.Prelude.{◌≡◌, ℕ, Bool, ◌+◌, ◌-◌, ◌<◌, ◌≤◌, max, ◌&&◌, ◌==◌, nat_lt, if◌then◌else◌, List, [], ◌∷◌, map, length, slice_index, slice_index_or, slice_set, Option, MatchOption, IsPermutation, IsSorted}
use Rattle.std.specs.List.{range_with_len}
use Rattle.std.specs.Option.{option_map_or}
use Rattle.std.specs.Ordering.{nat_cmp}
use Rattle.std.specs.Cmp.Lexicographic.{slice_cmp}
use Rattle.net.specs.Net.{MeshNode, NetCell, Way, nth, turned, next_gap, prev_gap, extent}
use Rattle.net_rows.specs.declared.axis.Axis.{Axis}
use Rattle.net_rows.specs.declared.axis.Axis.TheVariants.{Column, Row}

-- along columns a node is as it is; a row is a column once x and y are exchanged
abbrev pub facing : Axis → MeshNode → MeshNode
facing Column m = m
facing Row m = turned m

abbrev pub all_facing : Axis → List MeshNode → List MeshNode
all_facing Column ns = ns
all_facing Row ns = map turned ns

-- ---- entries

-- where a node stands: its layer, its line and the place along it
abbrev pub place_of : MeshNode → List ℕ
place_of m = m.layer ∷ m.x ∷ m.y ∷ []

-- its place and its number
abbrev pub entry_of : List MeshNode → ℕ → List ℕ
entry_of ns i = (nth ns i).layer ∷ (nth ns i).x ∷ (nth ns i).y ∷ i ∷ []

abbrev pub entries : List MeshNode → List (List ℕ)
entries ns = map (entry_of ns) (range_with_len 0 (length ns))

-- a row of the nodes' entries, in order
pub record Lined (ns : List MeshNode) (row : List (List ℕ)) : Type 0 where
  pub same : IsPermutation (entries ns) row
  pub sorted : IsSorted (slice_cmp nat_cmp) row

abbrev pub at : List (List ℕ) → ℕ → List ℕ
at row k = slice_index_or row k []

-- from the k-th entry to the next, where that is of the same line
abbrev pub rise_of : List (List ℕ) → ℕ → ℕ
rise_of row k =
    if nat_lt (k + 1) (length row)
    && (slice_index (at row (k + 1)) 0 == slice_index (at row k) 0 && slice_index (at row (k + 1)) 1 == slice_index (at row k) 1)
    then slice_index (at row (k + 1)) 2 - slice_index (at row k) 2
    else 0

-- the next entry is of the same place
abbrev pub shares_place : List (List ℕ) → ℕ → Bool
shares_place row k =
    nat_lt (k + 1) (length row)
    && (slice_index (at row (k + 1)) 0 == slice_index (at row k) 0
    && (slice_index (at row (k + 1)) 1 == slice_index (at row k) 1 && slice_index (at row (k + 1)) 2 == slice_index (at row k) 2))

-- the last node at a place, where there is one
pub record IsLast (ns : List MeshNode) (p : List ℕ) (k : ℕ) : Type 0 where
  pub inside : k < length ns
  pub there : place_of (nth ns k) ≡ p
  pub last : (i : ℕ) → i < length ns → place_of (nth ns i) ≡ p → i ≤ k

abbrev pub LastIs : List MeshNode → List ℕ → Option ℕ → Type 0
LastIs ns p o = MatchOption o ((i : ℕ) → i < length ns → place_of (nth ns i) ≡ p → ⊥) (IsLast ns p)

-- ---- extents

-- the gaps of the nodes, forth and back
pub record Gapped (ns : List MeshNode) (forth back : List ℕ) : Type 0 where
  pub next : (i : ℕ) → i < length ns → slice_index forth i ≡ next_gap ns i
  pub prev : (i : ℕ) → i < length ns → slice_index back i ≡ prev_gap ns i

-- the next place on the line of node i where nodes stand is a step away, and the last node there
pub record IsStep (ns : List MeshNode) (i step node : ℕ) : Type 0 where
  pub nearest : (k : ℕ) → k < length ns → (nth ns k).layer ≡ (nth ns i).layer → (nth ns k).x ≡ (nth ns i).x → (nth ns i).y < (nth ns k).y
      → (nth ns i).y + step ≤ (nth ns k).y
  pub last : IsLast ns ((nth ns i).layer ∷ (nth ns i).x ∷ ((nth ns i).y + step) ∷ []) node

-- the steps from the nodes; one of 0 says nothing
abbrev pub Stepped : List MeshNode → List (List ℕ) → Type 0
Stepped ns steps =
    (i : ℕ) → i < length ns → 0 < slice_index (at steps i) 0 → IsStep ns i (slice_index (at steps i) 0) (slice_index (at steps i) 1)

-- what becomes of extents of which a node's, where there is one, is to be no less than a size
abbrev pub raised : List ℕ → Option ℕ → ℕ → List ℕ
raised xs node s = option_map_or (λ k. slice_set xs k (max (slice_index xs k) s)) node xs

-- the extents of the nodes one way
abbrev pub Reaches : Way → List MeshNode → List NetCell → List ℕ → Type 0
Reaches w ns cs xs = (i : ℕ) → i < length ns → slice_index xs i ≡ extent w ns cs i
