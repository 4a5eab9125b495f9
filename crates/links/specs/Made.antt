-- The links of a net, by the rules' "Links". Nodes are in ticks, as a caller holds them. Definitions only.
use Rattle.std.specs.Prelude.{Bool, ◌&&◌, ◌==◌, ℕ, ◌*◌, ℤ, pos, ◌-ℤ◌, nat_abs, int_lt, List, [], ◌∷◌, ◌++◌, map, length}
use Rattle.std.specs.Prelude.{slice_get, slice_index_or, filter, fold, flat_map, option_and_then, option_to_list, Option, None, Some, if◌then◌else◌, Float}
use Rattle.std.specs.List.{range_with_len}
use Rattle.std.specs.Int.Signed.{le_z}
use Rattle.std.specs.Float.Ieee as Ieee
use Rattle.floats.specs.Fractions.{◌·◌, ◌÷◌, ◌⊕◌, float}
use Rattle.net_rows.specs.declared.rows.Node.{Node}
use Rattle.net_rows.specs.Nodes.{in_ticks}
use Rattle.net_rows.specs.Nets.{nth_node}
use Rattle.table.specs.Mesh.{Cell}
use Rattle.net.specs.Net.{MeshNode, Edge, Poly, Piece, Net, One, number, corners_of, pieces, bare, weigh}
use Rattle.links.specs.declared.rows.Contact.{Contact}
use Rattle.links.specs.declared.rows.Footprint.{Footprint}
use Rattle.links.specs.declared.rows.Via.{Via}
use Rattle.links.specs.declared.rows.Terminal.{Terminal}
use Rattle.links.specs.declared.rows.Channel.{Channel}
use Rattle.links.specs.declared.rows.Links.{Links}
use Rattle.links.specs.declared.link.Link.{Link}

-- ---- what a link conducts

-- 1 of a contact; a via's 1/R is shared by its pairs, two quotients, each rounded once; 1/R of a channel
unfoldable pub conductance_of : Link → ℕ → Float
conductance_of Link.Contact pairs = One
conductance_of (Link.Via resistance) pairs = One ÷ resistance ÷ float pairs
conductance_of (Link.Channel resistance) pairs = One ÷ resistance

-- ---- lists of nodes

-- the nodes of a layer and component by number, each once
abbrev pub is_of : ℕ → ℕ → Node → Bool
is_of layer component n = (n.layer == layer) && (n.component == component)

unfoldable pub nodes_of : List Node → ℕ → ℕ → List ℕ
nodes_of nodes layer component = filter (λ i. is_of layer component (nth_node nodes i)) (range_with_len 0 (length nodes))

-- of each polygon the corner nodes SW, SE, NE, NW of its leaves by id, repeats kept
unfoldable pub corner_lists : List MeshNode → List Piece → List (List ℕ)
corner_lists n pieces = map (λ q. map (number n) (corners_of q)) pieces

-- ---- the nearest node

-- "dx · dx + dy · dy": the differences are exact, each product is rounded once and so is the sum
abbrev pub square : Float → Float
square d = d · d

abbrev pub distance : ℤ → ℤ → Node → Float
distance x y n = square (float (nat_abs (n.x -ℤ x))) ⊕ square (float (nat_abs (n.y -ℤ y)))

-- a node takes the lead where it is less far than the best so far: of equals the first stays
abbrev pub lead : List Node → ℤ → ℤ → ℕ → ℕ → ℕ
lead nodes x y best i = if Ieee.lt (distance x y (nth_node nodes i)) (distance x y (nth_node nodes best)) then i else best

unfoldable pub nearest : List Node → ℤ → ℤ → List ℕ → Option ℕ
nearest nodes x y [] = None
nearest nodes x y (i ∷ is) = Some (fold (lead nodes x y) i is)

-- ---- the links

abbrev pub edge : Float → ℕ → ℕ → Edge
edge g a b = record { from = a; to = b; conductance = g }

-- one link, or none where an end is missing
unfoldable pub joined : Float → Option ℕ → Option ℕ → List Edge
joined g None to = []
joined g (Some a) None = []
joined g (Some a) (Some b) = edge g a b ∷ []

-- from the first node of the one polygon to the nearest of the other; past the last polygon there is no node
unfoldable pub contact_links : List Node → List (List ℕ) → Contact → List Edge
contact_links nodes lists c =
    let from = slice_get (slice_index_or lists c.from []) 0 in
    joined (conductance_of Link.Contact 1) from
    (option_and_then (λ a. nearest nodes (nth_node nodes a).x (nth_node nodes a).y (slice_index_or lists c.to [])) from)

-- the border counts
abbrev pub covers : Footprint → Node → Bool
covers f n = le_z (pos (nat_abs (n.x -ℤ f.x))) f.half_width && le_z (pos (nat_abs (n.y -ℤ f.y))) f.half_height

abbrev pub has_area : Footprint → Bool
has_area f = int_lt (pos 0) f.half_width && int_lt (pos 0) f.half_height

-- the nodes inside the footprint, where it has area
unfoldable pub inside : List Node → Footprint → List ℕ → List ℕ
inside nodes f candidates = if has_area f then filter (λ i. covers f (nth_node nodes i)) candidates else []

-- those, or where there is none the nearest to the centre
unfoldable pub or_nearest : List Node → Footprint → List ℕ → List ℕ → List ℕ
or_nearest nodes f candidates [] = option_to_list (nearest nodes f.x f.y candidates)
or_nearest nodes f candidates (i ∷ is) = i ∷ is

-- a via's nodes on a layer
unfoldable pub side_of : List Node → Via → ℕ → List ℕ
side_of nodes v layer =
    let candidates = nodes_of nodes layer v.component in
    or_nearest nodes v.footprint candidates (inside nodes v.footprint candidates)

-- every pair, the bottom node outermost
unfoldable pub pairs : Float → List ℕ → List ℕ → List Edge
pairs g bottom top = flat_map (λ a. map (edge g a) top) bottom

unfoldable pub via_links : List Node → Via → List Edge
via_links nodes v =
    let bottom = side_of nodes v v.bottom in
    let top = side_of nodes v v.top in
    pairs (conductance_of (Link.Via v.resistance) (length bottom * length top)) bottom top

-- the node of a terminal
abbrev pub terminal_node : List Node → ℕ → Terminal → Option ℕ
terminal_node nodes layer t = nearest nodes t.x t.y (nodes_of nodes layer t.component)

unfoldable pub channel_links : List Node → ℕ → Channel → List Edge
channel_links nodes layer c =
    joined (conductance_of (Link.Channel c.resistance) 1) (terminal_node nodes layer c.drain) (terminal_node nodes layer c.source)

-- contacts, vias, channels, each in order
unfoldable pub links_of : List Node → List (List ℕ) → Links → List Edge
links_of nodes lists l =
    flat_map (contact_links nodes lists) l.contacts.now
    ++ (flat_map (via_links nodes) l.vias.now
    ++ flat_map (channel_links nodes l.channel_layer) l.channels.now)

-- ---- the net with its links

-- the links of the net of these polygons' leaves
abbrev pub links_on : List Piece → Links → List Edge
links_on qs l = links_of (map in_ticks (bare qs).nodes) (corner_lists (bare qs).nodes qs) l

-- the mesh edges, and behind them the links
unfoldable pub linked : List Piece → Links → Net
linked qs l = record { nodes = (bare qs).nodes; cells = (bare qs).cells; edges = (bare qs).edges ++ links_on qs l }

-- the weights run over all of its edges
unfoldable pub linked_network : List Cell → List Poly → Links → Net
linked_network t ps l = weigh (linked (pieces t ps 0) l)
