-- No node hangs: of what balance and conform end in, and of a board of one polygon. Assumes nothing.
use Rattle.std.proofs.Common.{refl, [], ◌∷◌}
use Rattle.cell.specs.Boxes.{Box}
use Rattle.coarsest.specs.Passes.{balance, conform}
use Rattle.coarsest.proofs.Ends.{balance-evens, conform-evens}
use Rattle.net.specs.Net.{same_node, leaves_of, pieces, corners_of, nodes_from, bare, weigh, network}
use Rattle.net.proofs.All.{All, all-at, all-weld, all_nil}
use Rattle.net.proofs.Leaves.{piece_of}
use Rattle.std.specs.List.{slice_index_or}
use Rattle.laws.specs.Nodes.{HangsNot}
use Rattle.laws.specs.Hanging.{NoNodeHangs, BalanceHangsNot, ConformMeetsAtEnds, OnePolygonHangsNot}
use Rattle.laws.proofs.Ends.{on-conformed}
use Rattle.laws.proofs.HangsNot.{no-node-hangs}
use Rattle.laws.proofs.Evens.{evens-even, balance-fit, conform-strip}

-- ---- the laws that src/hanging.rt promises

pub none-hangs : NoNodeHangs
none-hangs M t ps k p formed balanced h fit i r a j x b =
    let P : Box → Type 0 = λ b. All (HangsNot (network t ps) p b) (corners_of (piece_of t p k)) in
    all-at (HangsNot (network t ps) p (slice_index_or (leaves_of t k) i r)) x (corners_of (piece_of t p k)) j
    (all-at P r (leaves_of t k) i (no-node-hangs t ps k p h M formed balanced fit) a) b

pub balance-none : BalanceHangsNot
balance-none M t ps k p formed h fit =
    none-hangs M (balance M t) ps k p (balance-evens M t formed).formed (evens-even 1 M t (balance M t) (balance-evens M t formed)) h (balance-fit M t formed k fit)

pub conform-meets : ConformMeetsAtEnds
conform-meets M t k i j x y formed strip a b c =
    on-conformed M (conform M t) (conform-evens M t formed).formed k (conform-strip M t formed k strip) (evens-even 0 M t (conform M t) (conform-evens M t formed)) i j a b x y c

pub one-none : OnePolygonHangsNot
unfolding network weigh bare pieces nodes_from
one-none M t p formed balanced fit i r a j x b =
    let n = network t (p ∷ []) in
    let P : Box → Type 0 = λ b. All (HangsNot n p b) (corners_of (piece_of t p 0)) in
    let Q = HangsNot n p (slice_index_or (leaves_of t 0) i r) in
    all-at Q x n.nodes j (all-weld Q same_node [] (corners_of (piece_of t p 0)) (all_nil Q) (all-at P r (leaves_of t 0) i (no-node-hangs t (p ∷ []) 0 p refl M formed balanced fit) a)) b

pub ruleset hangs = (none-hangs, balance-none, one-none)
