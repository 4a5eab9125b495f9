-- What `leafnet` says of a record, and prints for it: totals, leaves, nodes and edges, each on a line; or the first refusal of any step, on a line, and nothing else.
use Rattle.std.specs.Prelude.{ℕ, List, ◌++◌, ◌≡◌, if◌then◌else◌, nat_le, ℤ, length, map, replicate, Option, Some, None, Result, Ok, Err, IsTrue}
use Rattle.std.specs.List.{flat_map, enumerate_from}
use Rattle.refusals.specs.declared.Refusal.{Refusal}
use Rattle.refusals.specs.Said.{Said, accepted, refused, refusal, is_accepted}
use Rattle.cell.specs.Ticks.{on}
use Rattle.table.specs.declared.Head.{Head}
use Rattle.table.specs.Slots.{cell_at}
use Rattle.table.specs.Rows.{order_in}
use Rattle.table.specs.Leaves.{list_says}
use Rattle.record.specs.Board.{Board}
use Rattle.net_rows.specs.declared.rows.Node.{Node}
use Rattle.net_rows.specs.declared.rows.Edge.{Edge}
use Rattle.net_rows.specs.Nodes.{in_ticks}
use Rattle.links.specs.Judged.{no_links}
use Rattle.network.specs.Says.{net_of, network_says}
use Rattle.leafnet_text.specs.declared.lines.Totals.{Totals}
use Rattle.leafnet_text.specs.declared.lines.Leaf.{Leaf}
use Rattle.leafnet_text.specs.Lines.{ended, totals_line, leaf_line, node_line, edge_line, refusal_line}
use Rattle.leafnet_text.specs.Rooms.{input_room, leaf_room, net_rows}
use Rattle.leafnet_text.specs.Boards.{Given, given_by, polygons_of, board_in}
use Rattle.leafnet_text.specs.Growing.{roots_say, splits_say, balance_says, balanced_row, balanced_head, balance_splits}

-- ---- a board that nothing refuses

-- the leaf in slot id of a table
abbrev pub leaf_at : List ℤ → ℕ → Leaf
leaf_at row id =
    let c = cell_at row id in
    record {
      id = id;
      polygon = c.poly;
      level = c.level;
      rect = record { x0 = on c.x0; y0 = on c.y0; x1 = on c.x1; y1 = on c.y1 };
    }

abbrev pub leaf_lines : List ℤ → List ℕ → List ℕ
leaf_lines row = flat_map (λ id. ended (leaf_line (leaf_at row id)))

abbrev pub node_lines : List Node → List ℕ
node_lines nodes = flat_map (λ n. ended (node_line n.0 n.1)) (enumerate_from 0 nodes)

abbrev pub edge_lines : List Edge → List ℕ
edge_lines = flat_map (λ e. ended (edge_line e))

-- of a table, what balance split, the leaves in order, and the net
unfoldable pub lines_text : List ℤ → Head → ℕ → List ℕ → List Node → List Edge → List ℕ
lines_text row head splits order nodes edges =
    let totals : Totals = record { cells = head.count; leaves = length order; nodes = length nodes; edges = length edges; splits = splits } in
    ended (totals_line totals) ++ (leaf_lines row order ++ (node_lines nodes ++ edge_lines edges))

-- ---- the steps

-- what comes of a call: its refusal, or what the next says once it is accepted
abbrev pub unless_refused : Said → Said → Said
unless_refused (accepted values) next = next
unless_refused (refused number place) next = refused number place

-- of a board's table and what balance split: the text, as bytes, or the refusal of its net. A record has no links
unfoldable pub net_says : Given → List ℤ → Head → ℕ → Said
net_says g row head splits =
    let net = net_of row head (polygons_of g) g.sheets no_links in
    unless_refused (network_says row head (polygons_of g) g.sheets no_links net_rows)
    (accepted (lines_text row head splits (order_in row head) (map in_ticks net.nodes) net.edges))

-- its leaf order, and its net
unfoldable pub table_says : Given → List ℤ → Head → ℕ → Said
table_says g row head splits = unless_refused (list_says row head (order_in row head) (replicate leaf_room 0)) (net_says g row head splits)

-- a board's mesh: its roots, the record's splits one by one, balance
unfoldable pub mesh_says : Given → Said
mesh_says g = unless_refused (roots_say g) (unless_refused (splits_say g) (balance_says g))

-- a board: its roots, the record's splits one by one, balance
unfoldable pub board_says : Given → Said
board_says g =
    unless_refused (roots_say g)
    (unless_refused (splits_say g)
    (unless_refused (balance_says g)
    (table_says g (balanced_row g) (balanced_head g) (balance_splits g))))

abbrev pub record_says : Result Board Refusal → Said
record_says (Ok b) = board_says (given_by b)
record_says (Err why) = refusal why

-- a record: the text of its mesh and net, as bytes, or the first refusal. Input past 16,384 bytes is 6 unread
unfoldable pub leafnet_says : List ℕ → Said
leafnet_says s = if nat_le (length s) input_room then record_says (board_in s) else refused 6 0

-- the text itself, or the refusal on a line
abbrev pub printed : Said → List ℕ
printed (accepted text) = text
printed (refused number place) = ended (refusal_line (refused number place))

-- all that is printed for a record
abbrev pub output_text : List ℕ → List ℕ
output_text s = printed (leafnet_says s)

-- ---- what the code's answers say of it

-- where a step answers this, what is said is what the next says of its value, or its refusal
abbrev pub Prints : {A : Type 0} → Result A Refusal → (A → Said) → Said → Type 0
Prints (Ok a) next says = says ≡ next a
Prints (Err why) next says = says ≡ refusal why

-- the refusal, or none where it is accepted
abbrev pub Tells : Option Refusal → Said → Type 0
Tells None says = IsTrue (is_accepted says)
Tells (Some why) says = says ≡ refusal why
