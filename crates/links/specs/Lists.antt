-- The nodes in order of layer, component and number. Definitions only.
use Rattle.std.specs.Prelude.{◌≡◌, ℕ, ◌<◌, List, [], ◌∷◌, map, length, nat_eq, slice_index, filter, All, IsSorted}
use Rattle.std.specs.List.{starts_with}
use Rattle.std.specs.Ordering.{nat_cmp}
use Rattle.std.specs.Cmp.Lexicographic.{slice_cmp}
use Rattle.net_rows.specs.declared.rows.Node.{Node}
use Rattle.net_rows.specs.Nets.{nth_node}
use Rattle.sorted.specs.Firsts.{IsInOrder}
use Rattle.links.specs.Made.{nodes_of}

-- a node's layer, component and number
abbrev pub entry_of : List Node → ℕ → List ℕ
entry_of nodes i = (nth_node nodes i).layer ∷ (nth_node nodes i).component ∷ i ∷ []

-- a row of the nodes' entries, in order
abbrev pub AreInOrder : List Node → List (List ℕ) → Type 0
AreInOrder nodes row = IsInOrder (entry_of nodes) (length nodes) row

-- the numbers of entries
abbrev pub numbers_of : List (List ℕ) → List ℕ
numbers_of entries = map (λ e. slice_index e 2) entries

-- the runs of a row: of each layer and component the numbers of its nodes
abbrev pub AreRuns : List Node → List (List ℕ) → Type 0
AreRuns nodes row =
    (layer component : ℕ) → numbers_of (filter (λ e. starts_with nat_eq e (layer ∷ component ∷ [])) row) ≡ nodes_of nodes layer component

-- a layer's list: a row whose runs are those of the layer's components
pub record IsLayer (nodes : List Node) (layer : ℕ) (list : List (List ℕ)) : Type 0 where
  pub sorted : IsSorted (slice_cmp nat_cmp) list
  pub runs : (component : ℕ) → numbers_of (filter (λ e. starts_with nat_eq e (layer ∷ component ∷ [])) list) ≡ nodes_of nodes layer component

-- each entry has the number of a node
abbrev pub AreKnown : List Node → List (List ℕ) → Type 0
AreKnown nodes entries = All (λ i. i < length nodes) (numbers_of entries)
