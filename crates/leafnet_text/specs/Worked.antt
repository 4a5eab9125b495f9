-- Lines that the rules give, letter by letter, each with its newline, and some more: the law that src/laws.rt promises. Definitions only.
use Rattle.std.specs.Prelude.{ℕ, ◌≡◌, [], ◌∷◌, codes, false, ℤ, pos, negsuc, Float}
use Rattle.std.specs.Float.{fin}
use Rattle.refusals.specs.Said.{refused}
use Rattle.leafnet_text.specs.declared.lines.Totals.{Totals}
use Rattle.leafnet_text.specs.declared.lines.Leaf.{Leaf}
use Rattle.net_rows.specs.declared.rows.Node.{Node}
use Rattle.net_rows.specs.declared.rows.Edge.{Edge}
use Rattle.leafnet_text.specs.Lines.{ended, totals_line, leaf_line, node_line, edge_line, refusal_line}

abbrev totals : ℕ → ℕ → ℕ → ℕ → ℕ → Totals
totals cells leaves nodes edges splits = record { cells = cells; leaves = leaves; nodes = nodes; edges = edges; splits = splits }

abbrev leaf : ℕ → ℕ → ℕ → ℤ → ℤ → ℤ → ℤ → Leaf
leaf id polygon level x0 y0 x1 y1 = record { id = id; polygon = polygon; level = level; rect = record { x0 = x0; y0 = y0; x1 = x1; y1 = y1 } }

abbrev node : ℕ → ℕ → ℤ → ℤ → Node
node layer component x y = record { layer = layer; component = component; x = x; y = y }

abbrev edge : ℕ → ℕ → Float → Edge
edge from to conductance = record { from = from; to = to; conductance = conductance }

abbrev half : Float
half = fin false 1 (negsuc 0)

-- the rules' worked board
abbrev pub WorkedBoardIsPrinted : Type 0
WorkedBoardIsPrinted =
    (ended (totals_line (totals 1 1 4 4 0))
    ∷ ended (leaf_line (leaf 0 0 0 (pos 0) (pos 0) (pos 4) (pos 4)))
    ∷ ended (node_line 0 (node 1 0 (pos 0) (pos 0)))
    ∷ ended (node_line 1 (node 1 0 (pos 4) (pos 0)))
    ∷ ended (node_line 2 (node 1 0 (pos 4) (pos 4)))
    ∷ ended (node_line 3 (node 1 0 (pos 0) (pos 4)))
    ∷ ended (edge_line (edge 0 1 half))
    ∷ ended (edge_line (edge 3 2 half))
    ∷ ended (edge_line (edge 0 3 half))
    ∷ ended (edge_line (edge 1 2 half))
    ∷ [])
    ≡ (codes "cells 1 leaves 1 nodes 4 edges 4 splits 0\n"
    ∷ codes "leaf 0 0 0 0 0 4 4\n"
    ∷ codes "node 0 1 0 0 0\n"
    ∷ codes "node 1 1 0 4 0\n"
    ∷ codes "node 2 1 0 4 4\n"
    ∷ codes "node 3 1 0 0 4\n"
    ∷ codes "edge 0 1 3fe0000000000000\n"
    ∷ codes "edge 3 2 3fe0000000000000\n"
    ∷ codes "edge 0 3 3fe0000000000000\n"
    ∷ codes "edge 1 2 3fe0000000000000\n"
    ∷ [])

-- a refusal
abbrev pub RefusalIsPrinted : Type 0
RefusalIsPrinted = ended (refusal_line (refused 3 28)) ≡ codes "refused 3 28\n"

-- numbers at the ends of their ranges and below 0, and bits with zeros in front
abbrev pub RangesArePrinted : Type 0
RangesArePrinted =
    (ended (node_line 10 (node 65535 4294967295 (negsuc 68719476735) (pos 90)))
    ∷ ended (edge_line (edge 255 1023 (fin false 1 (negsuc 1021))))
    ∷ [])
    ≡ (codes "node 10 65535 4294967295 -68719476736 90\n"
    ∷ codes "edge 255 1023 0010000000000000\n"
    ∷ [])
