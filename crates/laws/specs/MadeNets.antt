-- A made net is sound, and the checks find no fault in it: the laws that src/made.rt promises. Definitions only.
use Rattle.std.specs.Prelude.{◌≡◌, List, [], ◌∷◌, ℤ, pos, length, All, IsTrue, None, Some}
use Rattle.refusals.specs.Said.{Said, accepted}
use Rattle.table.specs.declared.Head.{Head}
use Rattle.cell.specs.Cells.{no_cell}
use Rattle.table.specs.Mesh.{Cell}
use Rattle.table.specs.Rows.{IsTable, cells_in, head_of}
use Rattle.coarsest.specs.Passes.{balance}
use Rattle.net_rows.specs.Nets.{sound_net}
use Rattle.net_rows.specs.Polygons.{polygons_below}
use Rattle.checks.specs.Laws.{middle_layer_fault}
use Rattle.checks.specs.Checks.{conforming_says, layers_says, layer_fault}
use Rattle.net.specs.Net.{Poly, Net, network, One}
use Rattle.links.specs.declared.rows.Links.{Links}
use Rattle.links.specs.Made.{linked_network}
use Rattle.laws.specs.Made.{layers_of, components_of, AllApart, InRange, HasRoom, node_row}
use Rattle.laws.specs.Grids.{Balanced, Splits}
use Rattle.laws.specs.Fit.{BoardFits}
use Rattle.laws.specs.Built.{BuiltBoard, built}

-- the net that is made of a table
abbrev pub made : List ℤ → Head → List Poly → Net
made t head ps = network (cells_in t head) ps

-- and the same with links
abbrev pub linked : List ℤ → Head → List Poly → Links → Net
linked t head ps l = linked_network (cells_in t head) ps l

-- every call that takes a net takes a made one
abbrev pub MadeNetsAreSound : Type 0
MadeNetsAreSound =
    (t : List ℤ) (head : Head) (ps : List Poly) → IsTable t head
    → IsTrue (sound_net (node_row (made t head ps)) (made t head ps).edges (made t head ps).cells)

abbrev pub LinkedNetsAreSound : Type 0
LinkedNetsAreSound =
    (t : List ℤ) (head : Head) (ps : List Poly) (l : Links) → IsTable t head
    → IsTrue (sound_net (node_row (linked t head ps l)) (linked t head ps l).edges (linked t head ps l).cells)

-- and its nodes have room in a row
abbrev pub MadeNodesHaveRoom : Type 0
MadeNodesHaveRoom = (t : List ℤ) (head : Head) (ps : List Poly) → All InRange ps → All HasRoom (node_row (made t head ps))

-- what the two checks answer for a net of a table
abbrev pub net_layers_says : List ℤ → Head → List Poly → Net → Said
net_layers_says t head ps n = layers_says t head (node_row n) n.edges n.cells (layers_of ps) (components_of ps)

abbrev pub net_conforming_says : List ℤ → Head → Net → Said
net_conforming_says t head n = conforming_says t head (node_row n) n.edges n.cells

-- of a balanced table whose polygons fit, and do not touch where they share layer and component, the by-layer check
-- answers 'none'
abbrev pub FittingBoardsPass : Type 0
FittingBoardsPass =
    (t : List ℤ) (head : Head) (ps : List Poly) → IsTable t head → Balanced (cells_in t head) → BoardFits (cells_in t head) ps
    → IsTrue (polygons_below (length ps) (cells_in t head))
    → net_layers_says t head ps (made t head ps) ≡ accepted []

-- so it does of what build leaves of such a board, refined in any way and balanced
abbrev pub BuiltBoardsPass : Type 0
BuiltBoardsPass =
    (b : BuiltBoard) (u : List Cell) (t : List ℤ) (head : Head) (ps : List Poly)
    → BoardFits (built b) ps → Splits b.board.settings.max_level (built b) u
    → IsTable t head → cells_in t head ≡ balance b.board.settings.max_level u
    → IsTrue (polygons_below (length ps) (cells_in t head))
    → net_layers_says t head ps (made t head ps) ≡ accepted []

-- no middle of a side lacks a half, whatever the table, where no two polygons share layer and component
abbrev pub MiddlesAreHalved : Type 0
MiddlesAreHalved =
    (t : List ℤ) (head : Head) (ps : List Poly) → AllApart ps → IsTrue (polygons_below (length ps) (cells_in t head))
    → middle_layer_fault t head (node_row (made t head ps)) (made t head ps).edges (layers_of ps) (components_of ps) ≡ None

-- and where there is one polygon the check by x and y alone does so of any table
abbrev pub OnePolygonConforms : Type 0
OnePolygonConforms =
    (t : List ℤ) (head : Head) (p : Poly) → IsTable t head → IsTrue (polygons_below 1 (cells_in t head))
    → net_conforming_says t head (made t head (p ∷ [])) ≡ accepted []

-- links make no difference
abbrev pub LinkedBoardsPass : Type 0
LinkedBoardsPass =
    (t : List ℤ) (head : Head) (ps : List Poly) (l : Links) → IsTable t head → Balanced (cells_in t head) → BoardFits (cells_in t head) ps
    → IsTrue (polygons_below (length ps) (cells_in t head))
    → net_layers_says t head ps (linked t head ps l) ≡ accepted []

abbrev pub LinkedMiddlesAreHalved : Type 0
LinkedMiddlesAreHalved =
    (t : List ℤ) (head : Head) (ps : List Poly) (l : Links) → AllApart ps
    → IsTrue (polygons_below (length ps) (cells_in t head))
    → middle_layer_fault t head (node_row (linked t head ps l)) (linked t head ps l).edges (layers_of ps) (components_of ps)
    ≡ None

abbrev pub LinkedOnePolygonConforms : Type 0
LinkedOnePolygonConforms =
    (t : List ℤ) (head : Head) (p : Poly) (l : Links) → IsTable t head → IsTrue (polygons_below 1 (cells_in t head))
    → net_conforming_says t head (linked t head (p ∷ []) l) ≡ accepted []

-- two polygons of one layer and component, whose squares overlap: the second one's corner is the middle of the first
-- one's south side, which
-- stays whole
abbrev pub overlapping : List ℤ
overlapping =
    pos 0 ∷ pos 0 ∷ pos 4 ∷ pos 4 ∷ pos 0 ∷ pos no_cell ∷ pos no_cell ∷ pos 0
    ∷ pos 2 ∷ pos 0 ∷ pos 6 ∷ pos 4 ∷ pos 0 ∷ pos no_cell ∷ pos no_cell ∷ pos 1 ∷ []

abbrev pub square : Poly
square = record { layer = 1; component = 0; sheet = One }

abbrev pub alike : List Poly
alike = square ∷ square ∷ []

-- so it takes that polygons that share both do not touch
abbrev pub AlikePolygonsMayHang : Type 0
AlikePolygonsMayHang =
    let net = made overlapping (head_of 2 2 1) alike in
    layer_fault overlapping (head_of 2 2 1) (node_row net) net.edges (layers_of alike) (components_of alike)
    ≡ Some (record { node = 4; start = 0; end = 1 })
