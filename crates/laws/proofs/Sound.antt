-- The rows of a made net are sound. Assumes nothing.
use Rattle.std.proofs.Common.{◌≡◌, List, map, ℕ, suc, ◌-◌, ◌^◌, ◌<◌, ◌≤◌, ◌+◌, min, arith, pos, negsuc, length, get_or, lt-ltb, le-ltb, IsTrue, int_lt, ℤ}
use Rattle.std.proofs.lemmas.Bool.Decides.{nat_tests}
use Rattle.std.proofs.lemmas.List.{length-map}
use Rattle.std.proofs.lemmas.List.Elements.{All-map}
use lib.IntN.{sub_ℕ}
use Rattle.refusals.specs.Limits.{coordinate}
use Rattle.cell.specs.Ticks.{on}
use Rattle.cell.specs.Boxes.{HasArea}
use Rattle.table.specs.declared.Head.{Head}
use Rattle.table.specs.Rows.{IsTable, cells_in}
use Rattle.table.proofs.Stores.{on-range}
use Rattle.table.proofs.Wellformed.{formed-facts}
use Rattle.net_rows.specs.Nodes.{in_ticks}
use Rattle.net_rows.specs.Nets.{sound_net}
use Rattle.net_rows.specs.Facts.{IsSoundNode, IsRectangle}
use Rattle.net_rows.proofs.Sound.{facts_sound}
use Rattle.net.specs.Net.{Poly, MeshNode, Edge, NetCell, nth, nowhere, pieces, weighed, bare, weigh, network, Cornered, Ends}
use Rattle.links.specs.Made as Made
use Rattle.links.specs.Made.{linked_network}
use Rattle.links.proofs.Ends.{linked-ends}
use Rattle.net.proofs.All.{All, all-at, all-map-by}
use Rattle.net.proofs.Faces.{Within}
use Rattle.net.proofs.Every.{ends, cells}
use Rattle.laws.proofs.Placed.{cell-positive}
use Rattle.laws.specs.Made.{no_poly, HasRoom, node_row}
use Rattle.laws.specs.MadeNets.{made, linked, MadeNetsAreSound, LinkedNetsAreSound, MadeNodesHaveRoom}
use Rattle.laws.proofs.Places.{top, row_at}
use Rattle.laws.proofs.Pieces.{pieces-polys, pieces-leaves, nodes-polys, nodes-are, low}

-- ---- coordinates, moved back

on-low : (n : ℕ) → n < coordinate → on n ≡ negsuc (coordinate - suc n)
unfolding on
on-low n h =
    let e : min n (coordinate + coordinate) ≡ n = omega arith in
    let s : sub_ℕ n coordinate ≡ negsuc (coordinate - suc n) = simp (lt-ltb n coordinate h) in
    rw (e, s)

on-high : (n : ℕ) → coordinate ≤ n → n ≤ top → on n ≡ pos (n - coordinate)
unfolding on
on-high n h k =
    let e : min n (coordinate + coordinate) ≡ n = omega arith in
    let s : sub_ℕ n coordinate ≡ pos (n - coordinate) = simp (le-ltb n coordinate h) in
    rw (e, s)

on-less : (a b : ℕ) → a < b → b ≤ top → IsTrue (int_lt (on a) (on b))
on-less a b h k =
    grind (arith, nat_tests, on-low a, on-low b, on-high a, on-high b)

-- ---- the cells' rectangles

module _ (ns : List MeshNode) (low : All (Within top) ns) where
  rectangle-row : (c : NetCell) → Cornered ns c → IsRectangle (map in_ticks ns) c.corners
  rectangle-row c k =
      let q = c.corners in
      let east = all-at (Within top) nowhere ns q.southeast low k.se-in in
      let north = all-at (Within top) nowhere ns q.northwest low k.nw-in in
      grind (arith, row_at ns q.southwest k.sw-in, row_at ns q.southeast k.se-in, row_at ns q.northeast k.ne-in, row_at ns q.northwest k.nw-in, k.south, k.east, k.north, k.west, on-less (nth ns q.southwest).x (nth ns q.southeast).x k.wide east.0, on-less (nth ns q.southwest).y (nth ns q.northwest).y k.high north.1)

  -- a net of such nodes passes the test of a net
  net-sound : (es : List Edge) (cs : List NetCell) → All (Ends (length ns)) es → All (Cornered ns) cs → IsTrue (sound_net (map in_ticks ns) es cs)
  net-sound es cs a b =
      let n = length-map ns in_ticks in
      facts_sound (map in_ticks ns) es cs
      (record {
        each_node = All-map IsSoundNode in_ticks ns (λ k d h. record { x = on-range _; y = on-range _ });
        each_edge = λ k d h. grind (arith, all-at (Ends (length ns)) d es k a h);
        each_cell = λ k d h.
            let c = all-at (Cornered ns) d cs k b h in
            record { known = grind (arith, c.sw-in, c.se-in, c.ne-in, c.nw-in); box = rectangle-row (get_or cs k d) c };
      })

-- ---- the laws that src/made.rt promises of a made net

-- of any edges that join its nodes
pub edges-sound : (t : List ℤ) (head : Head) (ps : List Poly) (es : List Edge) → IsTable t head → All (Ends (length (made t head ps).nodes)) es
    → IsTrue (sound_net (node_row (made t head ps)) es (made t head ps).cells)
edges-sound t head ps es formed joined =
    let positive = pieces-leaves HasArea (cells_in t head) ps 0 (cell-positive head.max_level (cells_in t head) (formed-facts t head formed).cells) in
    net-sound (made t head ps).nodes (low t head.count ps) es (made t head ps).cells joined (cells (cells_in t head) ps positive)

pub made-sound : MadeNetsAreSound
made-sound t head ps formed = edges-sound t head ps (made t head ps).edges formed (ends (cells_in t head) ps)

pub linked-sound : LinkedNetsAreSound
unfolding linked_network Made.linked network weigh weighed
linked-sound t head ps l formed =
    let qs = pieces (cells_in t head) ps 0 in
    edges-sound t head ps (linked t head ps l).edges formed
    (all-map-by (Ends (length (bare qs).nodes)) (Ends (length (bare qs).nodes)) (weighed (bare qs).nodes (bare qs).cells) (Made.linked qs l).edges
    (λ e h. record { from = h.from; to = h.to }) (linked-ends qs l))

pub made-room : MadeNodesHaveRoom
made-room t head ps range =
    let P : ℕ → ℕ → Type 0 = λ l c. (l < 2 ^ 16) × (c < 2 ^ 32) in
    let fits : All (λ (m : MeshNode). P m.layer m.component) (made t head ps).nodes =
    rw (nodes-are (cells_in t head) ps) (nodes-polys P (pieces (cells_in t head) ps 0)
    (pieces-polys (λ (p : Poly). P p.layer p.component) (cells_in t head) ps 0 (λ k h. (let r = range k no_poly h in (r.layer, r.component))))) in
    All-map HasRoom in_ticks (made t head ps).nodes (λ k d h. (let f = all-at _ d (made t head ps).nodes k fits h in record { layer = f.0; component = f.1 }))

pub ruleset sound = (made-sound, linked-sound, made-room)
