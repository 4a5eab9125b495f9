-- Gaps by ways.
use Rattle.std.proofs.Common.{ℕ, List, arith}
use Rattle.net.specs.Net.{MeshNode, gap}
use Rattle.net_rows.specs.declared.axis.Axis.TheVariants.{Column, Row}
use Rattle.weights.specs.declared.extents.Way.TheVariants.{Up, Down, Right, Left}
use Rattle.weights.specs.Lines.{all_facing, Gapped}
use Rattle.weights.specs.Ways.{GapsAlong}
use Rattle.weights.proofs.Facing.{facing-length}

module _ (ns : List MeshNode) (forth back : List ℕ) where
  pub up-gaps : Gapped (all_facing Column ns) forth back → GapsAlong ns Up forth
  unfolding gap
  up-gaps G i h = G.next i h

  pub down-gaps : Gapped (all_facing Column ns) forth back → GapsAlong ns Down back
  unfolding gap
  down-gaps G i h = G.prev i h

  pub right-gaps : Gapped (all_facing Row ns) forth back → GapsAlong ns Right forth
  unfolding gap
  right-gaps G i h = let f = facing-length Row ns in G.next i (omega arith)

  pub left-gaps : Gapped (all_facing Row ns) forth back → GapsAlong ns Left back
  unfolding gap
  left-gaps G i h = let f = facing-length Row ns in G.prev i (omega arith)
