-- The laws of links, which src/laws.rt promises. Definitions only.
use Rattle.std.specs.Prelude.{◌≡◌, ℕ, ◌*◌, ◌^◌, ◌<◌, ◌≤◌, ℤ, false, List, [], length, take, slice_index_or, All, Contains, MatchOption, IsTrue, Float}
use Rattle.std.specs.Int.{abs_diff}
use Rattle.std.specs.Float.{◌<ᶠ◌, ◌≤ᶠ◌}
use lib.Ieee.Exact.{HasValue}
use Rattle.refusals.specs.Limits.{max_slots}
use Rattle.table.specs.Mesh.{Cell, leaf_count}
use Rattle.floats.specs.Fractions.{◌÷◌, in_sheet}
use Rattle.net_rows.specs.declared.rows.Node.{Node}
use Rattle.net_rows.specs.Nets.{nth_node}
use Rattle.net.specs.Net.{Poly, Piece, Edge, Ends, One, bare, network}
use Rattle.net.specs.Laws.{AllLeaves, IsWithin, widest, IsPositive}
use Rattle.links.specs.declared.rows.Contact.{Contact}
use Rattle.links.specs.declared.rows.Via.{Via}
use Rattle.links.specs.declared.rows.Channel.{Channel}
use Rattle.links.specs.declared.rows.Links.{Links}
use Rattle.links.specs.declared.link.Link.{Link}
use Rattle.links.specs.Judged.{in_resistance, links_in_range}
use Rattle.links.specs.Made.{conductance_of, corner_lists, distance, nearest, contact_links, via_links, channel_links, links_of, linked, linked_network}

-- ---- the mesh

-- with no link the net is that of the mesh
abbrev pub NoLinksNoChange : Type 0
NoLinksNoChange =
    (t : List Cell) (ps : List Poly) (l : Links) → l.contacts.now ≡ [] → l.vias.now ≡ [] → l.channels.now ≡ []
    → linked_network t ps l ≡ network t ps

-- whatever the links: the nodes and the cells are those of the mesh, and its edges with their conductances come first
abbrev pub NodesStay : Type 0
NodesStay = (t : List Cell) (ps : List Poly) (l : Links) → (linked_network t ps l).nodes ≡ (network t ps).nodes

abbrev pub CellsStay : Type 0
CellsStay = (t : List Cell) (ps : List Poly) (l : Links) → (linked_network t ps l).cells ≡ (network t ps).cells

abbrev pub MeshEdgesComeFirst : Type 0
MeshEdgesComeFirst =
    (t : List Cell) (ps : List Poly) (l : Links)
    → take (length (network t ps).edges) (linked_network t ps l).edges ≡ (network t ps).edges

-- ---- the nearest

-- the number i stands among the candidates; by rounded distance from (x, y) none of them is nearer, and none before it is as near
pub record IsNearest (nodes : List Node) (x y : ℤ) (candidates : List ℕ) (i : ℕ) : Type 0 where
  pub place : ℕ
  pub among : place < length candidates
  pub found : slice_index_or candidates place i ≡ i
  pub least : All (λ j. distance x y (nth_node nodes i) ≤ᶠ distance x y (nth_node nodes j)) candidates
  pub first : All (λ j. distance x y (nth_node nodes i) <ᶠ distance x y (nth_node nodes j)) (take place candidates)

-- there is one, unless there is no candidate
abbrev pub NearestIsTheFirstOfTheLeast : Type 0
NearestIsTheFirstOfTheLeast =
    (nodes : List Node) (x y : ℤ) (candidates : List ℕ)
    → MatchOption (nearest nodes x y candidates) (candidates ≡ []) (IsNearest nodes x y candidates)

-- ---- the ends of links

-- each number is a node's
abbrev pub AreNodes : ℕ → List ℕ → Type 0
AreNodes count is = All (λ i. i < count) is

-- the polygons' lists hold nodes
abbrev pub ListsHoldNodes : Type 0
ListsHoldNodes = (qs : List Piece) → All (AreNodes (length (bare qs).nodes)) (corner_lists (bare qs).nodes qs)

-- both ends of every link are nodes, whatever the nodes and the links, where the polygons' lists hold nodes
abbrev pub LinksJoinNodes : Type 0
LinksJoinNodes =
    (nodes : List Node) (lists : List (List ℕ)) (l : Links) → All (AreNodes (length nodes)) lists
    → All (Ends (length nodes)) (links_of nodes lists l)

-- and so both ends of every edge of a net with links
abbrev pub LinkedEdgesJoinNodes : Type 0
LinkedEdgesJoinNodes = (qs : List Piece) (l : Links) → All (Ends (length (linked qs l).nodes)) (linked qs l).edges

-- the number i is of a node of the layer l and the component c
pub record IsNodeOf (nodes : List Node) (l c i : ℕ) : Type 0 where
  pub there : i < length nodes
  pub layer : (nth_node nodes i).layer ≡ l
  pub component : (nth_node nodes i).component ≡ c

-- from the via's bottom layer to its top layer, both of its component
pub record JoinsLayers (nodes : List Node) (v : Via) (e : Edge) : Type 0 where
  pub bottom : IsNodeOf nodes v.bottom v.component e.from
  pub top : IsNodeOf nodes v.top v.component e.to

-- from a node of the one polygon to a node of the other
pub record JoinsPolygons (lists : List (List ℕ)) (c : Contact) (e : Edge) : Type 0 where
  pub from : Contains (slice_index_or lists c.from []) e.from
  pub to : Contains (slice_index_or lists c.to []) e.to

-- from the drain's component to the source's, on the channel layer
pub record JoinsTerminals (nodes : List Node) (layer : ℕ) (c : Channel) (e : Edge) : Type 0 where
  pub drain : IsNodeOf nodes layer c.drain.component e.from
  pub source : IsNodeOf nodes layer c.source.component e.to

abbrev pub ContactsJoinTheirPolygons : Type 0
ContactsJoinTheirPolygons = (nodes : List Node) (lists : List (List ℕ)) (c : Contact) → All (JoinsPolygons lists c) (contact_links nodes lists c)

abbrev pub ChannelsJoinTheirTerminals : Type 0
ChannelsJoinTheirTerminals = (nodes : List Node) (layer : ℕ) (c : Channel) → All (JoinsTerminals nodes layer c) (channel_links nodes layer c)

abbrev pub ViasJoinTheirLayers : Type 0
ViasJoinTheirLayers = (nodes : List Node) (v : Via) → All (JoinsLayers nodes v) (via_links nodes v)

-- ---- what links conduct

-- as many nodes as the largest table has
abbrev pub most_nodes : ℕ
most_nodes = 4 * max_slots

-- a link in range has a conductance that is finite and above 0
abbrev pub LinksConduct : Type 0
LinksConduct =
    (nodes : List Node) (lists : List (List ℕ)) (l : Links) → length nodes ≤ most_nodes → IsTrue (links_in_range l)
    → All (λ e. IsPositive e.conductance) (links_of nodes lists l)

-- and so has every edge of a net with links, once it is weighed
abbrev pub LinkedEdgesConduct : Type 0
LinkedEdgesConduct =
    (t : List Cell) (ps : List Poly) (l : Links) → leaf_count t ≤ max_slots → AllLeaves (IsWithin widest) t → All (λ p. IsTrue (in_sheet p.sheet)) ps
    → IsTrue (links_in_range l) → All (λ e. IsPositive e.conductance) (linked_network t ps l).edges

-- ---- what the links of a via carry together

-- as many pairs as a via can have
abbrev pub most_pairs : ℕ
most_pairs = most_nodes * most_nodes

-- a via's links are alike: each has its part of as many as there are
abbrev pub ViaLinksAreAlike : Type 0
ViaLinksAreAlike =
    (nodes : List Node) (v : Via)
    → All (λ e. e.conductance ≡ conductance_of (Link.Via v.resistance) (length (via_links nodes v))) (via_links nodes v)

-- Let the fraction p / q be what 1/R is, rounded once: where the number of links is a power of two, each has exactly its part of it
abbrev pub PowersOfTwoShareAll : Type 0
PowersOfTwoShareAll =
    (r : Float) (m p q : ℕ) → IsTrue (in_resistance r) → 2 ^ m ≤ most_pairs → 0 < q → HasValue (One ÷ r) false p q
    → HasValue (conductance_of (Link.Via r) (2 ^ m)) false p (2 ^ m * q)

-- the fraction p / q is less than 2 ^ 53 of the unit 2 ^ i / 2 ^ j: its last place as a number of 53 digits has that unit, or a smaller one
abbrev pub HasLastPlace : ℕ → ℕ → ℕ → ℕ → Type 0
HasLastPlace p q i j = p * 2 ^ j < 2 ^ 53 * 2 ^ i * q

-- of k links each has a / c: together they are apart from p / q by at most k half units in the last place of its k-th part
abbrev pub LinksShareNearly : Type 0
LinksShareNearly =
    (r : Float) (k p q a c i j : ℕ) → IsTrue (in_resistance r) → 0 < k → k ≤ most_pairs → 0 < q → 0 < c → HasValue (One ÷ r) false p q
    → HasValue (conductance_of (Link.Via r) k) false a c → HasLastPlace p (k * q) i j
    → 2 * 2 ^ j * abs_diff (k * a * q) (p * c) ≤ k * 2 ^ i * (q * c)
