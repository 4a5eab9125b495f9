-- What the network calls say of a table, its polygons, its links and the lent rows, in the rules' order, and what they leave in the rows.
use Rattle.std.specs.Prelude.{ℕ, ◌+◌, ◌*◌, min, Bool, ◌==◌, ◌&&◌, not, nat_le, if◌then◌else◌, List, [], ◌∷◌, map}
use Rattle.std.specs.Prelude.{length, position, replicate, ℤ, Float, Option, None, Some, Result}
use Rattle.refusals.specs.Limits.{max_polygons}
use Rattle.refusals.specs.declared.Refusal.{Refusal}
use Rattle.refusals.specs.declared.Refusal.TheVariants.{OutOfRange, NoRoom, BadTable}
use Rattle.refusals.specs.Said.{Said, accepted, refusal, said, is_accepted}
use Rattle.table.specs.declared.Head.{Head}
use Rattle.table.specs.Formed.{well_formed}
use Rattle.table.specs.Rows.{cells_in, leaves_in}
use Rattle.floats.specs.Fractions.{in_sheet}
use Rattle.net_rows.specs.declared.rows.Node.{Node}
use Rattle.net_rows.specs.declared.rows.Edge.{Edge}
use Rattle.net_rows.specs.declared.rows.NetCell.{NetCell}
use Rattle.net_rows.specs.declared.rows.Polygons.{Polygons}
use Rattle.net_rows.specs.Polygons.{polygons_fit}
use Rattle.net_rows.specs.Nodes.{in_ticks}
use Rattle.refusals.specs.Said.{written}
use Rattle.net.specs.Net as Net
use Rattle.net.specs.Net.{Piece, pieces}
use Rattle.places.specs.Leaves.{polys_of}
use Rattle.links.specs.declared.rows.Links.{Links}
use Rattle.links.specs.Judged.{links_in_range}
use Rattle.links.specs.Made.{links_on, linked_network}
use Rattle.links.specs.Count.{most}
use Rattle.network.specs.declared.NetSize.{NetSize}
use Rattle.network.specs.declared.judge.Room.{Room}

-- the rows lent for a net, and the work room
pub record Rows : Type 0 where
  pub nodes : List Node
  pub edges : List Edge
  pub cells : List NetCell
  pub work : List ℕ

abbrev pub rows : List Node → List Edge → List NetCell → List ℕ → Rows
rows nodes edges cells work = record { nodes = nodes; edges = edges; cells = cells; work = work }

-- the polygons with their leaves
abbrev pub pieces_of : List ℤ → Head → Polygons → List Float → List Piece
pieces_of row head polygons sheets = pieces (cells_in row head) (polys_of polygons sheets) 0

-- the net of the table with its links: the rules' "The net" and "Links", with the weights of all edges
abbrev pub net_of : List ℤ → Head → Polygons → List Float → Links → Net.Net
net_of row head polygons sheets links = linked_network (cells_in row head) (polys_of polygons sheets) links

abbrev pub link_count : List ℤ → Head → Polygons → List Float → Links → ℕ
link_count row head polygons sheets links = length (links_on (pieces_of row head polygons sheets) links)

-- an answer's values: how many nodes, edges and cells there are, and how many of the edges, the last ones, are links
abbrev pub size_values : NetSize → List ℕ
size_values s = s.nodes ∷ s.edges ∷ s.cells ∷ s.links ∷ []

abbrev pub netted_said : Result NetSize Refusal → Said
netted_said = said size_values

abbrev pub counted : Net.Net → ℕ → Said
counted w links = accepted (length w.nodes ∷ length w.edges ∷ length w.cells ∷ links ∷ [])

-- 7: a bad table, a polygon index at or past the polygon count, or polygons' rows of unequal length
abbrev pub fits : List ℤ → Head → Polygons → List Float → Bool
fits row head polygons sheets =
    well_formed row head
    && (polygons_fit (cells_in row head) polygons.layers.now polygons.components.now && length sheets == length polygons.layers.now)

-- 3: "an r_sheet, lowest polygon first, those without leaves too"
abbrev pub first_bad : List Float → Option ℕ
first_bad sheets = position (λ sheet. not (in_sheet sheet)) sheets

abbrev pub unless_bad : Option ℕ → Said → Said
unless_bad (Some polygon) otherwise = refusal (OutOfRange polygon)
unless_bad None otherwise = otherwise

-- 7, then 3: the polygon count, an r_sheet, a value of a link
unfoldable pub judged : List ℤ → Head → Polygons → List Float → Links → Said → Said
judged row head polygons sheets links otherwise =
    if fits row head polygons sheets then
    (if nat_le (length polygons.layers.now) max_polygons then
    unless_bad (first_bad sheets)
    (if links_in_range links then otherwise else refusal (OutOfRange 0))
    else refusal (OutOfRange 0))
    else refusal BadTable

-- 6: "fewer than 4 node rows, 1 cell row or 64 work numbers of 64 bits for each leaf, or fewer edge rows than 8 for each leaf and one for each link"
abbrev pub edge_count : ℕ → ℕ → ℕ
edge_count leaves links = 8 * leaves + links

abbrev pub holds : Room → ℕ → Bool
holds room leaves = nat_le (4 * leaves) room.nodes && (nat_le leaves room.cells && nat_le (64 * leaves) room.work)

abbrev pub has_room : Room → ℕ → ℕ → Bool
has_room room leaves links = holds room leaves && nat_le (edge_count leaves links) room.edges

abbrev pub room_of : Rows → Room
room_of lent = record { nodes = length lent.nodes; edges = length lent.edges; cells = length lent.cells; work = length lent.work }

unfoldable pub network_says : List ℤ → Head → Polygons → List Float → Links → Rows → Said
network_says row head polygons sheets links lent =
    let made = link_count row head polygons sheets links in
    judged row head polygons sheets links
    (if has_room (room_of lent) (length (leaves_in row head)) made then counted (net_of row head polygons sheets links) made else refusal NoRoom)

-- the rows afterwards: the net in front of each, the rest as it was; the work room zero

abbrev pub filled : Net.Net → Rows → Rows
filled w lent =
    record {
      nodes = written (map in_ticks w.nodes) lent.nodes;
      edges = written w.edges lent.edges;
      cells = written w.cells lent.cells;
      work = replicate (length lent.work) 0;
    }

-- a refused call changes nothing
unfoldable pub network_leaves : List ℤ → Head → Polygons → List Float → Links → Rows → Rows
network_leaves row head polygons sheets links lent =
    if is_accepted (network_says row head polygons sheets links lent) then filled (net_of row head polygons sheets links) lent else lent

-- ---- how many edge rows the call asks for; more than an answer can hold is the largest number that it can

abbrev pub rows_said : Result ℕ Refusal → Said
rows_said = said (λ n. n ∷ [])

unfoldable pub edge_rows_says : List ℤ → Head → Polygons → List Float → Links → Said
edge_rows_says row head polygons sheets links =
    judged row head polygons sheets links
    (accepted (min (edge_count (length (leaves_in row head)) (link_count row head polygons sheets links)) most ∷ []))
