-- The rules' `check_network_conforming` and by-layer check. A fault is none, or a node and the two ends of the edge
-- that it stands inside.
use Rattle.std.specs.Prelude.{ℕ, ◌&&◌, if◌then◌else◌, List, [], ◌∷◌, slice_index, slice_index_or, slice_get, ℤ, Option, None, Some, Result}
use Rattle.std.specs.List.{filter_map}
use Rattle.std.specs.Option.{option_map}
use Rattle.refusals.specs.declared.Refusal.{Refusal}
use Rattle.refusals.specs.declared.Refusal.TheVariants.{BadTable}
use Rattle.refusals.specs.Said.{Said, accepted, refusal, said}
use Rattle.cell.specs.declared.Cell.{Cell}
use Rattle.table.specs.declared.Head.{Head}
use Rattle.table.specs.Slots.{cell_at}
use Rattle.table.specs.Formed.{well_formed}
use Rattle.table.specs.Rows.{cells_in, leaves_in}
use Rattle.net_rows.specs.declared.rows.Node.{Node}
use Rattle.net_rows.specs.declared.rows.Edge.{Edge}
use Rattle.net_rows.specs.declared.rows.NetCell.{NetCell}
use Rattle.net_rows.specs.Nets.{sound_net}
use Rattle.net_rows.specs.Polygons.{polygons_fit}
use Rattle.checks.specs.declared.asked.Class.{Class}
use Rattle.checks.specs.declared.asked.Class.TheVariants.{Any, Of}
use Rattle.checks.specs.declared.asked.Side.{Side}
use Rattle.checks.specs.declared.asked.Hanging.{Hanging}
use Rattle.checks.specs.Nodes.{node_at, nodes_between, joined}
use Rattle.checks.specs.Sides.{sides_of}

-- ---- by place: the middle of a side

-- "An edge without a node at both ends and at its middle is passed over"; one whose midpoint node lacks a half is a
-- fault
unfoldable pub fault : List Edge → Option ℕ → Option ℕ → Option ℕ → Option Hanging
fault edges None a b = None
fault edges (Some m) None b = None
fault edges (Some m) (Some a) None = None
fault edges (Some m) (Some a) (Some b) =
    if joined edges a m && joined edges m b then None else Some (record { node = m; start = a; end = b })

unfoldable pub middle_fault : List Node → List Edge → Class → Side → Option Hanging
middle_fault nodes edges class s =
    fault edges (node_at nodes class s.middle) (node_at nodes class s.start) (node_at nodes class s.end)

-- ---- by layer: every node between the ends of a side

-- the first of the nodes that lacks an edge to the point before or after it: the points are `before`, the nodes, `end`
unfoldable pub first_unjoined : List Edge → ℕ → List ℕ → ℕ → Option ℕ
first_unjoined edges before [] end = None
first_unjoined edges before (n ∷ rest) end =
    if joined edges before n && joined edges n (slice_index_or rest 0 end) then first_unjoined edges n rest end else Some n

-- a side without a node at both ends is passed over
unfoldable pub chain : List Edge → List ℕ → Option ℕ → Option ℕ → Option Hanging
chain edges between None b = None
chain edges between (Some a) None = None
chain edges between (Some a) (Some b) =
    option_map (λ n. record { node = n; start = a; end = b }) (first_unjoined edges a between b)

unfoldable pub chain_fault : List Node → List Edge → Class → Side → Option Hanging
chain_fault nodes edges class s =
    chain edges (nodes_between nodes class s.start s.end) (node_at nodes class s.start) (node_at nodes class s.end)

-- ---- the first fault

-- the check by place asks for the middle alone; the by-layer check, which asks for nodes of a layer and component,
-- for all
unfoldable pub side_fault : List Node → List Edge → Class → Side → Option Hanging
side_fault nodes edges Any s = middle_fault nodes edges Any s
side_fault nodes edges (Of layer component) s = chain_fault nodes edges (Of layer component) s

-- the four edges of a leaf, anticlockwise: south, east, north, west
unfoldable pub leaf_fault : List Node → List Edge → Class → Cell → Option Hanging
leaf_fault nodes edges class c = slice_get (filter_map (side_fault nodes edges class) (sides_of c)) 0

-- the first fault of a table's leaves, by id, each held against the nodes of its polygon's class
unfoldable pub fault_by : (ℕ → Class) → List ℤ → Head → List Node → List Edge → Option Hanging
fault_by class t head nodes edges =
    slice_get (filter_map (λ id. leaf_fault nodes edges (class (cell_at t id).poly) (cell_at t id)) (leaves_in t head)) 0

-- "finds nodes by x and y alone"
abbrev pub net_fault : List ℤ → Head → List Node → List Edge → Option Hanging
net_fault = fault_by (λ p. Any)

-- "with nodes of the leaf's own layer and component"
abbrev pub own_class : List ℕ → List ℕ → ℕ → Class
own_class layers components p = Of (slice_index layers p) (slice_index components p)

abbrev pub layer_fault : List ℤ → Head → List Node → List Edge → List ℕ → List ℕ → Option Hanging
layer_fault t head nodes edges layers components = fault_by (own_class layers components) t head nodes edges

-- the values of an answer: none, or the node and the two ends
abbrev pub fault_values : Option Hanging → List ℕ
fault_values None = []
fault_values (Some h) = h.node ∷ h.start ∷ h.end ∷ []

abbrev pub checked_said : Result (Option Hanging) Refusal → Said
checked_said = said fault_values

-- "The checks: 7 only"
unfoldable pub conforming_says : List ℤ → Head → List Node → List Edge → List NetCell → Said
conforming_says t head nodes edges cells =
    if well_formed t head && sound_net nodes edges cells
    then accepted (fault_values (net_fault t head nodes edges))
    else refusal BadTable

unfoldable pub layers_says : List ℤ → Head → List Node → List Edge → List NetCell → List ℕ → List ℕ → Said
layers_says t head nodes edges cells layers components =
    if well_formed t head && sound_net nodes edges cells && polygons_fit (cells_in t head) layers components
    then accepted (fault_values (layer_fault t head nodes edges layers components))
    else refusal BadTable
