-- Rings of two or three bands, cut into base cells of unequal widths: what the by-layer check answers of their nets.
-- The law that src/made.rt
-- promises. Definitions only.
use Rattle.std.specs.Prelude.{ℕ, ◌≡◌, List, [], ◌∷◌, ℤ, pos, length, Option, None, Some}
use Rattle.strips.specs.Strips.{strips_of}
use Rattle.build.specs.Grid.{Root, flat, roots_in}
use Rattle.table.specs.Rows.{head_of}
use Rattle.checks.specs.declared.asked.Hanging.{Hanging}
use Rattle.checks.specs.Checks.{layer_fault}
use Rattle.net.specs.Net.{Poly, One}
use Rattle.laws.specs.Made.{layers_of, components_of, node_row}
use Rattle.laws.specs.MadeNets.{made}

abbrev pub point : ℕ → ℕ → List ℤ
point x y = pos x ∷ pos y ∷ []

-- a polygon of layer 1 and component 0
abbrev pub copper : List Poly
copper = record { layer = 1; component = 0; sheet = One } ∷ []

-- the base cells of a ring, at most 256 along a strip's side
abbrev pub cells_of : List (List ℤ) → ℕ → List Root
cells_of ring size = roots_in 0 256 size (strips_of ring)

-- the answer of the by-layer check for the net of the base cells
unfoldable pub bands_fault : List (List ℤ) → ℕ → Option Hanging
bands_fault ring size =
    let row = flat (cells_of ring size) in
    let roots = length (cells_of ring size) in
    let head = head_of roots roots 0 in
    let net = made row head copper in
    layer_fault row head (node_row net) net.edges (layers_of copper) (components_of copper)

-- a narrow band on a wide one: its corner (4,2) stands a third of the way along the wide cell's north side, and no
-- edge joins it to (6,2)
abbrev pub narrow_on_wide : List (List ℤ)
narrow_on_wide = point 0 0 ∷ point 6 0 ∷ point 6 2 ∷ point 4 2 ∷ point 4 4 ∷ point 0 4 ∷ []

-- two cells on a wide one: (4,2) stands there, too, and the cells' own edges join it to both sides
abbrev pub two_on_one : List (List ℤ)
two_on_one = point 0 0 ∷ point 6 0 ∷ point 6 2 ∷ point 8 2 ∷ point 8 4 ∷ point 0 4 ∷ []

-- a cell in the middle third of a wide one's side: of its corners (8,2) comes first from (12,2)
abbrev pub middle_third : List (List ℤ)
middle_third = point 0 0 ∷ point 12 0 ∷ point 12 2 ∷ point 8 2 ∷ point 8 4 ∷ point 4 4 ∷ point 4 2 ∷ point 0 2 ∷ []

abbrev pub at_side : ℕ → ℕ → ℕ → Option Hanging
at_side node start end = Some (record { node = node; start = start; end = end })

pub record UnequalBands : Type 0 where
  pub narrow_on_wide : bands_fault narrow_on_wide 6 ≡ at_side 4 2 3
  pub two_on_one : bands_fault two_on_one 6 ≡ None
  pub middle_third : bands_fault middle_third 12 ≡ at_side 5 2 3
