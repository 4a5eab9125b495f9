-- The links of a net by its rows. Definitions only.
use Rattle.std.specs.Prelude.{ℕ, Bool, ◌&&◌, ◌==◌, List, ◌++◌, flat_map, length}
use Rattle.table.specs.declared.view.Table.{Table}
use Rattle.net_rows.specs.declared.rows.Node.{Node}
use Rattle.net_rows.specs.declared.rows.NetCell.{NetCell}
use Rattle.net.specs.Net.{Edge}
use Rattle.links.specs.declared.rows.Links.{Links}
use Rattle.links.specs.declared.by_polygon.NetByPolygon.{NetByPolygon}
use Rattle.links.specs.declared.rows.Footprint.{Footprint}
use Rattle.links.specs.Made.{inside, or_nearest, via_links, channel_links}
use Rattle.links.specs.Rows.{row_lists, lists_by}

-- of each polygon the corner nodes of its cells
abbrev pub lists_of : NetByPolygon → List (List ℕ)
lists_of net = row_lists net.cells.now net.starts.now

-- the same where the cells are those of a table's leaves
abbrev pub table_lists : Table → List NetCell → List (List ℕ)
table_lists t cells = lists_by t.row.now t.head.count cells

-- the links that go by layers: vias, then channels
unfoldable pub layer_links : List Node → Links → List Edge
layer_links nodes l = flat_map (via_links nodes) l.vias.now ++ flat_map (channel_links nodes l.channel_layer) l.channels.now

-- the nodes of a side of a via, of these candidates
abbrev pub side_among : List Node → Footprint → List ℕ → List ℕ
side_among nodes f candidates = or_nearest nodes f candidates (inside nodes f candidates)

-- there is no link
abbrev pub are_none : Links → Bool
are_none l = length l.contacts.now == 0 && (length l.vias.now == 0 && length l.channels.now == 0)
