-- Half a width is the limit for roots that fit: the computed board that src/hanging.rt promises. Definitions only.
use Rattle.std.specs.Prelude.{ℕ, ◌-◌, ◌*◌, ◌≤◌, ◌≡◌, List, [], ◌∷◌, None}
use Rattle.table.specs.Mesh.{Cell, at}
use Rattle.table.specs.Formed.{Formed}
use Rattle.laws.specs.Grids.{LeafOf, Balanced}
use Rattle.laws.specs.Nodes.{EndOrMiddle, Corner}

-- a whole root of the polygon 0
abbrev pub whole_root : ℕ → ℕ → ℕ → ℕ → Cell
whole_root x0 y0 x1 y1 =
    record { box = record { x0 = x0; y0 = y0; x1 = x1; y1 = y1 }; level = 0; parent = None; kids = None; polygon = 0 }

-- two roots, the second on the first and a quarter of the width further east
abbrev pub offset : List Cell
offset = whole_root 0 0 4 4 ∷ whole_root 1 4 5 8 ∷ []

-- a corner (x, y) of the leaf j of the polygon k stands inside the north side of its leaf i, and not at its middle
pub record StandsOffMiddle (t : List Cell) (k i j x y : ℕ) : Type 0 where
  pub below : LeafOf t k i
  pub above : LeafOf t k j
  pub corner : Corner (at t j).box x y
  pub north : y ≡ (at t i).box.y1
  pub west : (at t i).box.x0 ≤ x
  pub east : x ≤ (at t i).box.x1
  pub neither : EndOrMiddle (at t i).box.x0 (at t i).box.x1 x → ⊥

-- in this balanced table two roots of one polygon are equally wide and a quarter of the width apart, and one of its
-- nodes is loose
pub record OffsetsAreBound : Type 0 where
  pub formed : Formed 1 offset
  pub balanced : Balanced offset
  pub wide : (at offset 1).box.x1 - (at offset 1).box.x0 ≡ (at offset 0).box.x1 - (at offset 0).box.x0
  pub quarter : ((at offset 1).box.x0 - (at offset 0).box.x0) * 4 ≡ (at offset 0).box.x1 - (at offset 0).box.x0
  pub loose : StandsOffMiddle offset 0 0 1 1 4
