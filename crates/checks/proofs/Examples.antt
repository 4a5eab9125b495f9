-- Small nets, computed of the definitions: a root of 8 by 8 ticks, and a fifth node at the middle of its south edge.
-- These are examples that a reader can hold the definitions to, and no proof cites them. Assumes nothing.
use Rattle.std.proofs.Common.{ℕ, ◌≡◌, refl, List, [], ◌∷◌, ◌++◌, ℤ, pos, None, Some}
use lib.Ieee.{nan}
use Rattle.cell.specs.Cells.{no_cell}
use Rattle.cell.specs.Ticks.{off, on}
use Rattle.table.specs.Rows.{head_of}
use Rattle.table.specs.Slots.{counted, cell_at}
use Rattle.table.specs.Mesh.{table}
use Rattle.net_rows.specs.declared.rows.Node.{Node}
use Rattle.net_rows.specs.declared.rows.Edge.{Edge}
use Rattle.checks.specs.Sides.{places_between}
use Rattle.checks.specs.Nodes.{nodes_between, here, joins}
use Rattle.checks.specs.Checks.{fault, middle_fault, first_unjoined, chain, chain_fault, side_fault, leaf_fault, fault_by, net_fault, layer_fault}

abbrev root : List ℤ
root = pos 0 ∷ pos 0 ∷ pos 8 ∷ pos 8 ∷ pos 0 ∷ pos no_cell ∷ pos no_cell ∷ pos 0 ∷ []

abbrev node : ℕ → ℕ → ℕ → Node
node layer x y = record { layer = layer; component = 0; x = pos x; y = pos y }

-- the nodes at the corners
abbrev corners : List Node
corners = node 1 0 0 ∷ node 1 8 0 ∷ node 1 8 8 ∷ node 1 0 8 ∷ []

-- the fifth node is of the layer that is given
abbrev five : ℕ → List Node
five layer = corners ++ node layer 4 0 ∷ []

abbrev edge : ℕ → ℕ → Edge
edge from to = record { from = from; to = to; conductance = nan }

-- both halves are there, or one is not: the node and the ends of the edge
whole : net_fault root (head_of 1 1 2) (five 1) (edge 0 4 ∷ edge 1 4 ∷ []) ≡ None
unfolding fault_by leaf_fault side_fault middle_fault fault table cell_at counted off on here joins
whole = refl

half : net_fault root (head_of 1 1 2) (five 1) (edge 0 4 ∷ edge 0 1 ∷ []) ≡ Some (record { node = 4; start = 0; end = 1 })
unfolding fault_by leaf_fault side_fault middle_fault fault table cell_at counted off on here joins
half = refl

-- a node of another layer counts for the first check alone
other : net_fault root (head_of 1 1 2) (five 2) [] ≡ Some (record { node = 4; start = 0; end = 1 })
unfolding fault_by leaf_fault side_fault middle_fault fault table cell_at counted off on here joins
other = refl

layered : layer_fault root (head_of 1 1 2) (five 2) [] (1 ∷ []) (0 ∷ []) ≡ None
unfolding fault_by leaf_fault side_fault chain_fault chain first_unjoined nodes_between places_between table cell_at counted off on here joins
layered = refl

-- by layer a node off the middle of the side is named too
off_middle : layer_fault root (head_of 1 1 2) (corners ++ node 1 2 0 ∷ []) (edge 0 1 ∷ []) (1 ∷ []) (0 ∷ []) ≡ Some (record { node = 4; start = 0; end = 1 })
unfolding fault_by leaf_fault side_fault chain_fault chain first_unjoined nodes_between places_between table cell_at counted off on here joins
off_middle = refl

-- the ends of a side are no nodes between them: with no node there nothing is asked
ends : layer_fault root (head_of 1 1 2) corners [] (1 ∷ []) (0 ∷ []) ≡ None
unfolding fault_by leaf_fault side_fault chain_fault chain first_unjoined nodes_between places_between table cell_at counted off on here joins
ends = refl

-- a chain of two nodes that are joined passes, though no edge goes from the start to the middle
chained : layer_fault root (head_of 1 1 2) (corners ++ node 1 2 0 ∷ node 1 4 0 ∷ []) (edge 0 4 ∷ edge 4 5 ∷ edge 5 1 ∷ []) (1 ∷ []) (0 ∷ []) ≡ None
unfolding fault_by leaf_fault side_fault chain_fault chain first_unjoined nodes_between places_between table cell_at counted off on here joins
chained = refl
