-- The by-layer check of a net made of a balanced table answers 'none' where its polygons fit; so does the check by x and y alone, whatever the
-- table, where there is one polygon. Assumes nothing.
use Rattle.std.proofs.Common.{suc, ◌≡◌, refl, sym, ap, ap₂, subst, ◌∙◌, true, Option, None, Some, List, [], ◌∷◌, ◌++◌, map, get_or, ℕ, ◌<◌, arith, ltb-true, ℤ, length, take, drop, IsTrue, nat_lt}
use Rattle.std.specs.List.{range_with_len}
use Rattle.std.proofs.lemmas.Bool.{true≢false}
use Rattle.std.proofs.lemmas.Bool.Decides.{nat_tests}
use Rattle.std.proofs.lemmas.List.{length-map, map-append}
use Rattle.std.proofs.lemmas.List.Elements.{filter_passes}
use Rattle.std.proofs.lemmas.List.Sums.{AllPass-from_list_all}
use Rattle.std.proofs.lemmas.Option.{slice_get-get_or}
use Rattle.std.proofs.Math.ListN.{get_or-map}
use Rattle.cell.specs.Boxes.{Box, mid, HasArea}
use Rattle.table.specs.declared.Head.{Head}
use Rattle.table.specs.Mesh.{Cell, at, past, is_none, is_leaf}
use Rattle.refusals.specs.Said.{accepted}
use Rattle.table.specs.Rows.{IsTable, cells_in, leaves_in}
use Rattle.table.specs.Slots.{cell_at}
use Rattle.table.proofs.Cells.{length-table, at_table}
use Rattle.table.proofs.Wellformed.{formed-facts}
use Rattle.cell.specs.Cells.{box_of}
use Rattle.net_rows.specs.Nets.{sound_net}
use Rattle.net_rows.specs.Polygons.{polygons_below, polygons_fit}
use Rattle.checks.specs.declared.asked.Class.{Class}
use Rattle.checks.specs.declared.asked.Class.TheVariants.{Any, Of}
use Rattle.checks.proofs.Faults.{leaf-inside}
use Rattle.checks.specs.Laws.{middle_leaf_fault, middle_layer_fault}
use Rattle.checks.specs.Checks.{leaf_fault, fault_by, net_fault, own_class, layer_fault, conforming_says, layers_says}
use Rattle.net.specs.Net.{Poly, Net, MeshNode, Edge, Piece, same_node, same_pair, join, node_at, sw_of, se_of, ne_of, nw_of, leaves_of, pieces, weighed, bare, weigh, network}
use Rattle.net.specs.Hang.{so_far, Halved, HalvedSides}
use Rattle.net.proofs.Positions.{has-yes}
use Rattle.net.proofs.All.{all_one, all-by, in-more, All}
use Rattle.net.proofs.Hang.{no-half-hangs}
use Rattle.net.proofs.Leaves.{all-from, polys-pieces, piece_of, pieces-at}
use Rattle.net.proofs.Distinct.{no-duplicates}
use Rattle.links.specs.declared.rows.Links.{Links}
use Rattle.links.specs.Made as Made
use Rattle.links.specs.Made.{links_on, linked_network}
use Rattle.laws.specs.Nodes.{EndOrMiddle, end, middle, lower, upper}
use Rattle.coarsest.specs.Passes.{balance}
use Rattle.coarsest.proofs.Ends.{balance-evens}
use Rattle.laws.specs.Grids.{Balanced, Splits}
use Rattle.laws.specs.Built.{BuiltBoard, built}
use Rattle.laws.specs.Fit.{BoardFits}
use Rattle.laws.specs.Joined.{SideJoined, SidesJoined}
use Rattle.laws.specs.MadeNets.{made, linked, FittingBoardsPass, BuiltBoardsPass, MiddlesAreHalved, OnePolygonConforms, LinkedBoardsPass, LinkedMiddlesAreHalved, LinkedOnePolygonConforms}
use Rattle.laws.specs.Made.{no_poly, poly_at, layers_of, components_of, AllApart, node_row}
use Rattle.laws.proofs.Evens.{evens-even, splits-fit, splits-apart, splits-formed, balance-fit, balance-apart}
use Rattle.laws.proofs.BuiltHangs.{left-formed}
use Rattle.laws.proofs.Joined.{sides-joined}
use Rattle.laws.proofs.Placed.{cell-positive}
use Rattle.laws.proofs.Places.{own_of, Tells, own-tells, any_tells}
use Rattle.laws.proofs.Pieces.{leaf-in, nodes-polys, kept, behind, nodes-are, cell-within, low}
use Rattle.laws.proofs.Clear.{Along, AllAlong, leaf-clear, middles-clear, by-place, first-clear}
use Rattle.laws.proofs.Sound.{made-sound, linked-sound}

own_is : (ps : List Poly) (k : ℕ) → own_class (layers_of ps) (components_of ps) k ≡ own_of (poly_at ps k)
own_is ps k = ap₂ Of (get_or-map (λ (p : Poly). p.layer) ps k no_poly) (get_or-map (λ (p : Poly). p.component) ps k no_poly)

-- the ids of leaves are of cells without kids
kidless : (t : List ℤ) (head : Head) (k d : ℕ) → k < length (leaves_in t head) → (at (cells_in t head) (get_or (leaves_in t head) k d)).kids ≡ None
kidless t head k d h = none (at (cells_in t head) (get_or (leaves_in t head) k d)).kids (filter_passes (is_leaf (cells_in t head)) (range_with_len 0 head.count) k d h)
  where
    none : (o : Option ℕ) → is_none o ≡ true → o ≡ None
    none None e = refl
    none (Some x) e = absurd (true≢false (sym e))

-- ---- by layer

-- the leaf i of the polygon k is joined along its sides by the edges es
abbrev AlongLeaf : List ℤ → Head → List Poly → List Edge → ℕ → ℕ → Type 0
AlongLeaf t head ps es i k = AllAlong (made t head ps).nodes es (poly_at ps k) (box_of (cell_at t i))

-- the polygon of a cell stands in the list
fits : (t : List ℤ) (head : Head) (ps : List Poly) → IsTrue (polygons_below (length ps) (cells_in t head)) → (i : ℕ) → i < head.count → (cell_at t i).poly < length ps
fits t head ps below i h =
    subst (λ (c : Cell). c.polygon < length ps) (at_table t head.count i h)
    (ltb-true (at (cells_in t head) i).polygon (length ps) (AllPass-from_list_all (λ (c : Cell). nat_lt c.polygon (length ps)) (cells_in t head) below i past (rw length-table h)))

-- what holds of a made net whatever its edges are, if only they join its leaves' sides
module _ (t : List ℤ) (head : Head) (ps : List Poly) (es : List Edge)
    (along : (i : ℕ) → i < head.count → (at (cells_in t head) i).kids ≡ None → (cell_at t i).poly < length ps → AlongLeaf t head ps es i (cell_at t i).poly)
    (below : IsTrue (polygons_below (length ps) (cells_in t head))) where
  own-none : (i : ℕ) → i < head.count → (at (cells_in t head) i).kids ≡ None
      → leaf_fault (node_row (made t head ps)) es (own_class (layers_of ps) (components_of ps) (cell_at t i).poly) (cell_at t i) ≡ None
  own-none i h leaf =
      let p = poly_at ps (cell_at t i).poly in
      let net = made t head ps in
      ap (λ (w : Class). leaf_fault (node_row net) es w (cell_at t i)) (own_is ps (cell_at t i).poly)
      ∙ leaf-clear net.nodes es p (own-tells net.nodes (low t head.count ps) p) (no-duplicates (cells_in t head) ps) (cell_at t i) (cell-within t i)
      (along i h leaf (fits t head ps below i h))

  no-fault : layer_fault t head (node_row (made t head ps)) es (layers_of ps) (components_of ps) ≡ None
  unfolding fault_by
  no-fault =
      first-clear (λ i. leaf_fault (node_row (made t head ps)) es (own_class (layers_of ps) (components_of ps) (cell_at t i).poly) (cell_at t i)) (leaves_in t head)
      (λ k d h. own-none (get_or (leaves_in t head) k d) (leaf-inside t head k d h) (kidless t head k d h))

  polygons-fit : polygons_fit (cells_in t head) (layers_of ps) (components_of ps) ≡ true
  polygons-fit =
      grind (arith, nat_tests, below, length-map ps (λ (p : Poly). p.layer), length-map ps (λ (p : Poly). p.component))

  -- so the check by layer answers 'none'
  edges-pass : IsTable t head → IsTrue (sound_net (node_row (made t head ps)) es (made t head ps).cells)
      → layers_says t head (node_row (made t head ps)) es (made t head ps).cells (layers_of ps) (components_of ps) ≡ accepted []
  unfolding layers_says
  edges-pass formed sound = simp (formed, sound, polygons-fit, no-fault)

-- a side that is joined from end to end
along-of : (n : Net) (c : ℕ → MeshNode) (u v : ℕ) → u < v → SideJoined n c u v → Along n.nodes n.edges c u v
along-of n c u v l s =
    record {
      only = λ z i m. (let (a, b) = i in inner z (omega arith) (omega arith) (s.only z (omega arith) (omega arith) (has-yes same_node n.nodes (c z) m)));
      halved = λ m. s.halved (has-yes same_node n.nodes (c (mid u v)) m);
    }
  where
    inner : (z : ℕ) → u < z → z < v → EndOrMiddle u v z → z ≡ mid u v
    inner z a b (end (lower e)) = absurd (omega arith)
    inner z a b (end (upper e)) = absurd (omega arith)
    inner z a b (middle e) = e

all-along : (n : Net) (p : Poly) (r : Box) → HasArea r → SidesJoined n p r → AllAlong n.nodes n.edges p r
all-along n p r (w, h) s =
    record {
      south = along-of n (λ z. node_at p z r.y0) r.x0 r.x1 w s.south;
      north = along-of n (λ z. node_at p z r.y1) r.x0 r.x1 w s.north;
      west = along-of n (λ z. node_at p r.x0 z) r.y0 r.y1 h s.west;
      east = along-of n (λ z. node_at p r.x1 z) r.y0 r.y1 h s.east;
    }

board-along : (t : List ℤ) (head : Head) (ps : List Poly) → IsTable t head → Balanced (cells_in t head) → BoardFits (cells_in t head) ps
    → (i : ℕ) → i < head.count → (at (cells_in t head) i).kids ≡ None → (cell_at t i).poly < length ps → AlongLeaf t head ps (made t head ps).edges i (cell_at t i).poly
board-along t head ps table balanced board i h leaf l =
    let cs = cells_in t head in
    let k = (cell_at t i).poly in
    let p = poly_at ps k in
    let net = made t head ps in
    let formed = (formed-facts t head table).cells in
    let cell = at_table t head.count i h in
    let joined = sides-joined head.max_level cs ps k p formed balanced (slice_get-get_or ps k no_poly l) (board.fit k l) (board.apart k l) in
    let inside : i < length cs = rw length-table h in
    subst (λ (c : Cell). AllAlong net.nodes net.edges p c.box) cell
    (all-along net p (at cs i).box (cell-positive head.max_level cs formed i inside)
    (leaf-in (SidesJoined net p) k cs (all-from (SidesJoined net p) (at cs i).box (leaves_of cs k) (λ j m. joined j (at cs i).box m)) i inside leaf (ap (λ (c : Cell). c.polygon) cell)))

-- ---- the middles alone, whatever the table

-- of each leaf of each polygon the halves of its sides are among the edges
abbrev Halves : List Cell → List Poly → List Edge → Type 0
Halves cs ps es = (pre : List Piece) (q : Piece) (qs : List Piece) → pieces cs ps 0 ≡ pre ++ (q ∷ qs) → All (HalvedSides (so_far pre q) es q.poly) q.leaves

module _ (t : List ℤ) (head : Head) (ps : List Poly) (es : List Edge) (halves : Halves (cells_in t head) ps es) (apart : AllApart ps) (below : IsTrue (polygons_below (length ps) (cells_in t head))) where
  -- a leaf of the polygon k, by a test that tells the polygon's nodes
  leaf-halved : (w : Class) (i k : ℕ) → i < head.count → (cell_at t i).poly ≡ k → k < length ps → Tells (made t head ps).nodes w (poly_at ps k) → (at (cells_in t head) i).kids ≡ None
      → middle_leaf_fault (node_row (made t head ps)) es w (cell_at t i) ≡ None
  leaf-halved w i k h e l tells leaf =
      let cs = cells_in t head in
      let p = poly_at ps k in
      let pre = pieces cs (take k ps) 0 in
      let q = piece_of cs p k in
      let qs = pieces cs (drop (suc k) ps) (suc k) in
      let split = pieces-at cs ps k p (slice_get-get_or ps k no_poly l) in
      let P : Box → Type 0 = λ b. HalvedSides (so_far pre q) es p b in
      let cell = at_table t head.count i h in
      middles-clear (made t head ps).nodes (so_far pre q) es p w tells (no-duplicates cs ps)
      (λ x y. rw (nodes-are cs ps, split) (kept pre q qs (behind cs ps (suc k) k apart l) x y)) (cell_at t i) (cell-within t i)
      (subst (λ (c : Cell). P c.box) cell (leaf-in P k cs (halves pre q qs split) i (rw length-table h) leaf (ap (λ (c : Cell). c.polygon) cell ∙ e)))

  own-halved : (i : ℕ) → i < head.count → (at (cells_in t head) i).kids ≡ None
      → middle_leaf_fault (node_row (made t head ps)) es (own_class (layers_of ps) (components_of ps) (cell_at t i).poly) (cell_at t i) ≡ None
  own-halved i h leaf =
      let k = (cell_at t i).poly in
      let net = made t head ps in
      ap (λ (w : Class). middle_leaf_fault (node_row net) es w (cell_at t i)) (own_is ps k)
      ∙ leaf-halved (own_of (poly_at ps k)) i k h refl (fits t head ps below i h) (own-tells net.nodes (low t head.count ps) (poly_at ps k)) leaf

  all-halved : middle_layer_fault t head (node_row (made t head ps)) es (layers_of ps) (components_of ps) ≡ None
  unfolding middle_layer_fault
  all-halved =
      first-clear (λ i. middle_leaf_fault (node_row (made t head ps)) es (own_class (layers_of ps) (components_of ps) (cell_at t i).poly) (cell_at t i)) (leaves_in t head)
      (λ k d h. own-halved (get_or (leaves_in t head) k d) (leaf-inside t head k d h) (kidless t head k d h))

-- ---- by place, on a board of one polygon: every cell is of polygon 0

alone : (p : Poly) → AllApart (p ∷ [])
alone p j k d h l = absurd (omega arith)

module _ (t : List ℤ) (head : Head) (p : Poly) (es : List Edge) (halves : Halves (cells_in t head) (p ∷ []) es) (below : IsTrue (polygons_below 1 (cells_in t head))) where
  own : All (λ (m : MeshNode). (m.layer ≡ p.layer) × (m.component ≡ p.component)) (made t head (p ∷ [])).nodes
  own =
      rw (nodes-are (cells_in t head) (p ∷ [])) (nodes-polys (λ l c. (l ≡ p.layer) × (c ≡ p.component)) (pieces (cells_in t head) (p ∷ []) 0)
      (polys-pieces (λ (q : Poly). (q.layer ≡ p.layer) × (q.component ≡ p.component)) (cells_in t head) (p ∷ []) 0 (all_one (λ (q : Poly). (q.layer ≡ p.layer) × (q.component ≡ p.component)) p (refl, refl))))

  any-none : (i : ℕ) → i < head.count → (at (cells_in t head) i).kids ≡ None → leaf_fault (node_row (made t head (p ∷ []))) es Any (cell_at t i) ≡ None
  any-none i h leaf =
      let ps = p ∷ [] in
      by-place (node_row (made t head ps)) es (cell_at t i)
      ∙ leaf-halved t head ps es halves (alone p) below Any i 0 h (let f = fits t head ps below i h in omega arith) (omega arith)
      (any_tells (made t head ps).nodes (low t head.count ps) p own) leaf

  one-net-fault : net_fault t head (node_row (made t head (p ∷ []))) es ≡ None
  unfolding fault_by
  one-net-fault =
      first-clear (λ i. leaf_fault (node_row (made t head (p ∷ []))) es Any (cell_at t i)) (leaves_in t head)
      (λ k d g. any-none (get_or (leaves_in t head) k d) (leaf-inside t head k d g) (kidless t head k d g))

  edges-conform : IsTable t head → IsTrue (sound_net (node_row (made t head (p ∷ []))) es (made t head (p ∷ [])).cells)
      → conforming_says t head (node_row (made t head (p ∷ []))) es (made t head (p ∷ [])).cells ≡ accepted []
  unfolding conforming_says
  edges-conform formed sound = simp (formed, sound, one-net-fault)

-- ---- the laws that src/made.rt promises of the checks

-- the halves are edges of a made net
made-halves : (t : List ℤ) (head : Head) (ps : List Poly) → Halves (cells_in t head) ps (made t head ps).edges
made-halves t head ps = no-half-hangs (cells_in t head) ps

pub boards-pass : FittingBoardsPass
boards-pass t head ps table balanced board below =
    edges-pass t head ps (made t head ps).edges (board-along t head ps table balanced board) below table (made-sound t head ps table)

-- a built board that fits goes on fitting, refined in any way and balanced
built-board : (b : BuiltBoard) (u : List Cell) (ps : List Poly) → BoardFits (built b) ps → Splits b.board.settings.max_level (built b) u
    → BoardFits (balance b.board.settings.max_level u) ps
built-board b u ps board made =
    let M = b.board.settings.max_level in
    let formed = splits-formed M (built b) (left-formed b) made in
    record {
      fit = λ k h. balance-fit M u formed k (splits-fit M (built b) k (board.fit k h) made);
      apart = λ k h. balance-apart M u formed ps k (splits-apart M (built b) ps k (board.apart k h) made);
    }

pub built-pass : BuiltBoardsPass
built-pass b u t head ps board made table same below =
    let M = b.board.settings.max_level in
    let evens = balance-evens M u (splits-formed M (built b) (left-formed b) made) in
    boards-pass t head ps table (subst Balanced (sym same) (evens-even 1 M u (balance M u) evens))
    (subst (λ (cs : List Cell). BoardFits cs ps) (sym same) (built-board b u ps board made)) below

pub one-conforms : OnePolygonConforms
one-conforms t head p formed below =
    edges-conform t head p (made t head (p ∷ [])).edges (made-halves t head (p ∷ [])) below formed (made-sound t head (p ∷ []) formed)

pub middles-halved : MiddlesAreHalved
middles-halved t head ps apart below = all-halved t head ps (made t head ps).edges (made-halves t head ps) apart below

pub ruleset pass = (boards-pass, built-pass, middles-halved, one-conforms)

-- ---- and of nets with links

-- edges behind the others take no half away
halved-more : (n : List MeshNode) (es more : List Edge) (a m b : MeshNode) → Halved n es a m b → Halved n (es ++ more) a m b
halved-more n es more a m b h e =
    let s = h e in
    (λ g. in-more same_pair es more (join n a m g) (s.0 g), λ g. in-more same_pair es more (join n m b g) (s.1 g))

sides-more : (n : List MeshNode) (es more : List Edge) (p : Poly) (r : Box) → HalvedSides n es p r → HalvedSides n (es ++ more) p r
sides-more n es more p r h =
    let x = mid r.x0 r.x1 in
    let y = mid r.y0 r.y1 in
    record {
      south = halved-more n es more (sw_of p r) (node_at p x r.y0) (se_of p r) h.south;
      north = halved-more n es more (nw_of p r) (node_at p x r.y1) (ne_of p r) h.north;
      west = halved-more n es more (sw_of p r) (node_at p r.x0 y) (nw_of p r) h.west;
      east = halved-more n es more (se_of p r) (node_at p r.x1 y) (ne_of p r) h.east;
    }

links-behind : (t : List ℤ) (head : Head) (ps : List Poly) (l : Links) → List Edge
links-behind t head ps l = let qs = pieces (cells_in t head) ps 0 in map (weighed (bare qs).nodes (bare qs).cells) (links_on qs l)

edges-are : (t : List ℤ) (head : Head) (ps : List Poly) (l : Links) → (linked t head ps l).edges ≡ (made t head ps).edges ++ links-behind t head ps l
unfolding links-behind linked_network Made.linked network weigh
edges-are t head ps l = let qs = pieces (cells_in t head) ps 0 in map-append (weighed (bare qs).nodes (bare qs).cells) (bare qs).edges (links_on qs l)

linked-halves : (t : List ℤ) (head : Head) (ps : List Poly) (l : Links) → Halves (cells_in t head) ps (linked t head ps l).edges
linked-halves t head ps l pre q qs split =
    rw (edges-are t head ps l)
    (all-by (HalvedSides (so_far pre q) (made t head ps).edges q.poly) (HalvedSides (so_far pre q) ((made t head ps).edges ++ links-behind t head ps l) q.poly) q.leaves
    (λ r h. sides-more (so_far pre q) (made t head ps).edges (links-behind t head ps l) q.poly r h) (made-halves t head ps pre q qs split))

-- nor do they take an edge from a side
along-more : (ns : List MeshNode) (es more : List Edge) (c : ℕ → MeshNode) (u v : ℕ) → Along ns es c u v → Along ns (es ++ more) c u v
along-more ns es more c u v a =
    record {
      only = a.only;
      halved = λ m. (let h = a.halved m in
          (λ g. in-more same_pair es more (join ns (c u) (c (mid u v)) g) (h.0 g), λ g. in-more same_pair es more (join ns (c (mid u v)) (c v) g) (h.1 g)));
    }

all-more : (ns : List MeshNode) (es more : List Edge) (p : Poly) (r : Box) → AllAlong ns es p r → AllAlong ns (es ++ more) p r
all-more ns es more p r a =
    record {
      south = along-more ns es more _ r.x0 r.x1 a.south;
      north = along-more ns es more _ r.x0 r.x1 a.north;
      west = along-more ns es more _ r.y0 r.y1 a.west;
      east = along-more ns es more _ r.y0 r.y1 a.east;
    }

pub linked-boards : LinkedBoardsPass
unfolding linked_network Made.linked network weigh
linked-boards t head ps l table balanced board below =
    edges-pass t head ps (linked t head ps l).edges
    (λ i h leaf k. rw (edges-are t head ps l) (all-more (made t head ps).nodes (made t head ps).edges (links-behind t head ps l) (poly_at ps (cell_at t i).poly) (box_of (cell_at t i)) (board-along t head ps table balanced board i h leaf k)))
    below table (linked-sound t head ps l table)

pub linked-halved : LinkedMiddlesAreHalved
unfolding linked_network Made.linked network weigh
linked-halved t head ps l apart below = all-halved t head ps (linked t head ps l).edges (linked-halves t head ps l) apart below

pub linked-conforms : LinkedOnePolygonConforms
unfolding linked_network Made.linked network weigh
linked-conforms t head p l formed below =
    edges-conform t head p (linked t head (p ∷ []) l).edges (linked-halves t head (p ∷ []) l) below formed (linked-sound t head (p ∷ []) l formed)

pub ruleset linked_pass = (linked-boards, linked-halved, linked-conforms)
