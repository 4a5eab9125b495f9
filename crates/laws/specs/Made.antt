-- The rows of a made net, and those of its polygons' layers and components. Definitions only.
use Rattle.std.specs.Prelude.{List, map, ◌≡◌, ℕ, ◌^◌, ◌<◌, slice_index_or, AllPairs}
use Rattle.net_rows.specs.declared.rows.Node.{Node}
use Rattle.net_rows.specs.Nodes.{in_ticks}
use Rattle.net.specs.Net.{Poly, Net, One}

-- ---- polygons

-- the polygon past the end
abbrev pub no_poly : Poly
no_poly = record { layer = 0; component = 0; sheet = One }

abbrev pub poly_at : List Poly → ℕ → Poly
poly_at ps k = slice_index_or ps k no_poly

abbrev pub layers_of : List Poly → List ℕ
layers_of ps = map (λ p. p.layer) ps

abbrev pub components_of : List Poly → List ℕ
components_of ps = map (λ p. p.component) ps

-- two polygons differ in layer or component
abbrev pub Apart : Poly → Poly → Type 0
Apart p q = p.layer ≡ q.layer → p.component ≡ q.component → ⊥

-- no two polygons have the same layer and component
abbrev pub AllApart : List Poly → Type 0
AllApart ps = AllPairs Apart ps

-- the rules' ranges: a layer of 16 bits, a component of 32
pub record InRange (p : Poly) : Type 0 where
  pub layer : p.layer < 2 ^ 16
  pub component : p.component < 2 ^ 32

-- ---- the net's rows: its edges and cells stand in them as they are

abbrev pub node_row : Net → List Node
node_row n = map in_ticks n.nodes

-- what the type of a node has room for
pub record HasRoom (n : Node) : Type 0 where
  pub layer : n.layer < 2 ^ 16
  pub component : n.component < 2 ^ 32
