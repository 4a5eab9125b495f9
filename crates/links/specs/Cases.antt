-- Links of small boards, worked out by hand from the rules, and the test that the definitions make the same, number for number and bit for
-- bit. Links are in ticks, and the table's coordinates 2 ^ 36 more.
use Rattle.std.specs.Prelude.{Bool, List, [], ◌∷◌, map, length, drop, ℕ, ◌+◌, pos, nat_eq, None, IsTrue}
use Rattle.std.specs.Borrow.{Bor}
use Rattle.std.specs.List.{list_all}
use lib.Pointwise.{pointwise}
use Rattle.std.specs.Float.{binary64}
use Rattle.std.specs.Float.Ieee.{to_bits}
use Rattle.table.specs.Mesh.{Cell}
use Rattle.net.specs.Net.{Poly, Edge, One, network}
use Rattle.floats.specs.Fractions.{float}
use Rattle.links.specs.declared.rows.Contact.{Contact}
use Rattle.links.specs.declared.rows.Via.{Via}
use Rattle.links.specs.declared.rows.Terminal.{Terminal}
use Rattle.links.specs.declared.rows.Channel.{Channel}
use Rattle.links.specs.declared.rows.Links.{Links}
use Rattle.links.specs.Made.{linked_network}

-- the edges that come behind the mesh's: from, to, the bits of the conductance
pub record Case : Type 0 where
  pub table : List Cell
  pub polys : List Poly
  pub links : Links
  pub behind : List (List ℕ)

abbrev of_edge : Edge → List ℕ
of_edge e = e.from ∷ e.to ∷ to_bits binary64 e.conductance ∷ []

unfoldable pub agrees : Case → Bool
agrees c =
    pointwise (pointwise nat_eq)
    (map of_edge (drop (length (network c.table c.polys).edges) (linked_network c.table c.polys c.links).edges)) c.behind

-- ---- boards and links in few words

-- a leaf by its rectangle in ticks, and its polygon
abbrev leaf : ℕ → ℕ → ℕ → ℕ → ℕ → Cell
leaf x0 y0 x1 y1 polygon =
    record {
      box = record { x0 = 68719476736 + x0; y0 = 68719476736 + y0; x1 = 68719476736 + x1; y1 = 68719476736 + y1 };
      level = 0;
      parent = None;
      kids = None;
      polygon = polygon;
    }

abbrev copper : ℕ → Poly
copper layer = record { layer = layer; component = 0; sheet = One }

abbrev lent : {X : Type 0} → List X → Bor (List X)
lent xs = record { ref_ptr = (0, 0); now = xs }

abbrev contact : ℕ → ℕ → Contact
contact from to = record { from = from; to = to }

-- a via of component 0 by its layers, its centre, its half sizes and its resistance
abbrev via : ℕ → ℕ → ℕ → ℕ → ℕ → ℕ → ℕ → Via
via bottom top x y w h r =
    record {
      bottom = bottom;
      top = top;
      component = 0;
      footprint = record { x = pos x; y = pos y; half_width = pos w; half_height = pos h };
      resistance = float r;
    }

-- a channel of component 0 by its places and its resistance
abbrev terminal : ℕ → ℕ → Terminal
terminal x y = record { component = 0; x = pos x; y = pos y }

abbrev channel : ℕ → ℕ → ℕ → ℕ → ℕ → Channel
channel x y z w r = record { drain = terminal x y; source = terminal z w; resistance = float r }

abbrev edge : ℕ → ℕ → ℕ → List ℕ
edge a b g = a ∷ b ∷ g ∷ []

-- ---- the cases

-- one square on layer 1, nodes 0 to 3, and one on layer 2, nodes 4 to 7
unfoldable pub two_layers : Case
two_layers = record {
  table = leaf 0 0 4 4 0 ∷ leaf 0 0 4 4 1 ∷ [];
  polys = copper 1 ∷ copper 2 ∷ [];
  links = record {
    contacts = lent (contact 0 1 ∷ contact 1 0 ∷ contact 0 0 ∷ contact 0 2 ∷ []);
    vias = lent (
        -- on a corner
        via 1 2 0 0 0 0 2
        -- a half size is 0, so a point: the first of two corners as near
        ∷ via 1 2 4 2 0 2 1
        -- two corners inside on either layer, on the border
        ∷ via 1 2 4 2 1 2 1
        -- none inside: the first of four as near
        ∷ via 1 2 2 2 1 1 3
        -- of one layer: nodes to themselves, and twice along a cell's side
        ∷ via 1 1 2 0 2 1 1
        -- to a layer without nodes
        ∷ via 1 3 0 0 0 0 1
        ∷ []
        );
    channel_layer = 1;
    channels = lent (channel 0 0 4 4 4 ∷ channel 0 0 4 0 4 ∷ []);
  };
  behind =
      edge 0 4 0x3ff0000000000000 ∷ edge 4 0 0x3ff0000000000000 ∷ edge 0 0 0x3ff0000000000000
      ∷ edge 0 4 0x3fe0000000000000
      ∷ edge 1 5 0x3ff0000000000000
      ∷ edge 1 5 0x3fd0000000000000 ∷ edge 1 6 0x3fd0000000000000 ∷ edge 2 5 0x3fd0000000000000 ∷ edge 2 6 0x3fd0000000000000
      ∷ edge 0 4 0x3fd5555555555555
      ∷ edge 0 0 0x3fd0000000000000 ∷ edge 0 1 0x3fe0000000000000 ∷ edge 1 0 0x3fe0000000000000 ∷ edge 1 1 0x3fd0000000000000
      ∷ edge 0 2 0x3fd0000000000000 ∷ edge 0 1 0x3fe0000000000000 ∷ [];
}

-- 2 ^ 28 + 1 ticks away, 2 ticks to the side are lost in the rounded distance: the first of the two corners wins, though the other is nearer
unfoldable pub rounded_alike : Case
rounded_alike = record {
  table = leaf 0 0 2 2 0 ∷ leaf 268435457 2 268435459 4 1 ∷ leaf 268435457 0 268435459 2 1 ∷ [];
  polys = copper 1 ∷ copper 1 ∷ [];
  links = record { contacts = lent (contact 0 1 ∷ []); vias = lent []; channel_layer = 1; channels = lent [] };
  behind = edge 0 4 0x3ff0000000000000 ∷ [];
}

unfoldable pub cases : List Case
cases = two_layers ∷ rounded_alike ∷ []

unfoldable pub all_agree : List Case → Bool
all_agree cs = list_all agrees cs

-- the definitions make of each case the links that were worked out
abbrev pub CasesAgree : Type 0
CasesAgree = IsTrue (all_agree cases)
