-- In a balanced table the sides of a polygon's leaves are joined from end to end, where its roots fit and no other polygon of its layer and
-- component touches it. Assumes nothing.
use mathlib.Core.Logic.{by_cases}
use Rattle.std.proofs.Common.{◌≡◌, refl, sym, ap, subst, ◌∙◌, true, false, ⊎_elim, Some, List, [], ◌∷◌, ℕ, suc, ◌+◌, ◌<◌, ◌≤◌, arith, length, get_or, ltb-true, zero-add}
use native.Mathlib.Decide.{ℕ_discrete}
use Rattle.std.specs.List.{slice_get}
use Rattle.std.proofs.lemmas.Option.{get_or_from_slice_get}
use Rattle.cell.specs.Boxes.{Box, mid}
use Rattle.table.specs.Mesh.{Cell, at}
use Rattle.table.specs.Formed.{Formed}
use Rattle.coarsest.specs.Passes.{balance}
use Rattle.coarsest.proofs.Find.{named}
use Rattle.coarsest.proofs.Ends.{balance-evens}
use Rattle.net.specs.Net.{has, Poly, MeshNode, Net, Piece, same_node, nowhere, leaves_of, pieces, node_at, corners_at, corners_of, nodes_from, network}
use Rattle.net.specs.Hang.{Halved, HalvedSides}
use Rattle.net.proofs.Positions.{test, has-at, has-yes, position-hit}
use Rattle.net.proofs.All.{All, In, in-more, all-at, all-by, all_both, all-each-by}
use Rattle.net.proofs.Leaves.{piece_of, pieces-at, nodes-all}
use Rattle.net.proofs.Sound.{node-is, piece-in}
use Rattle.laws.specs.Grids.{LeafOf, Balanced}
use Rattle.laws.specs.Nodes.{End, lower, upper, EndOrMiddle, Corner, OnSides}
use Rattle.laws.specs.Made.{no_poly, poly_at}
use Rattle.laws.specs.Fit.{RootsFit, Touch, NoneTouches}
use Rattle.laws.specs.Joined.{InNet, SideJoined, SidesJoined, SidesAreJoined, BalanceJoinsSides}
use Rattle.laws.proofs.Apart.{root-of}
use Rattle.laws.proofs.Placed.{cell-positive, Inside, within-root}
use Rattle.laws.proofs.Ends.{on-balanced}
use Rattle.laws.proofs.Evens.{evens-even, balance-fit, balance-apart}
use Rattle.laws.proofs.Pieces.{nodes-are, leaf-in}
use Rattle.laws.proofs.HangsNot.{Leafs, leaves-by, so, There, nodes-on, joined-on, Known, known, pre, q, qs}
use Rattle.laws.proofs.Whole.{Whole, WholeSides, whole-sides}

-- ---- each node of the net is a corner of a leaf of a polygon of its layer and component

pub record Owner (t : List Cell) (ps : List Poly) (m : MeshNode) : Type 0 where
  pub polygon : ℕ
  pub leaf : ℕ
  pub there : polygon < length ps
  pub layer : m.layer ≡ (poly_at ps polygon).layer
  pub component : m.component ≡ (poly_at ps polygon).component
  pub own : LeafOf t polygon leaf
  pub corner : Corner (at t leaf).box m.x m.y

pieces-by : (Q : Piece → Type 0) (cs : List Cell) (ps : List Poly) (j : ℕ) → ((i : ℕ) → i < length ps → Q (piece_of cs (poly_at ps i) (j + i))) → All Q (pieces cs ps j)
unfolding All pieces
pieces-by Q cs [] j h = tt
pieces-by Q cs (p ∷ ps) j h =
    let z : j + 0 ≡ j = omega arith in
    let s : (i : ℕ) → j + suc i ≡ suc j + i = λ i. omega arith in (
      subst (λ (n : ℕ). Q (piece_of cs p n)) z (h 0 (omega arith)),
      pieces-by Q cs ps (suc j) (λ i l. subst (λ (n : ℕ). Q (piece_of cs (poly_at ps i) n)) (s i) (h (suc i) (omega arith))),
    )

module _ (t : List Cell) (ps : List Poly) where
  corner-owned : (k : ℕ) → k < length ps → (r : Box) → Leafs t k r → (x y : ℕ) → End r.x0 r.x1 x → End r.y0 r.y1 y → Owner t ps (node_at (poly_at ps k) x y)
  corner-owned k l r i x y a b =
      record { polygon = k; leaf = i.0; there = l; layer = refl; component = refl; own = i.1; corner = subst (λ (z : Box). Corner z x y) (sym i.2) (record { across = a; upright = b }) }

  piece-owned : (k : ℕ) → k < length ps → All (Owner t ps) (corners_of (piece_of t (poly_at ps k) k))
  unfolding All corners_of
  piece-owned k l =
      all-each-by (Leafs t k) (Owner t ps) (corners_at (poly_at ps k)) (leaves_of t k)
      (λ r i.
      let o = corner-owned k l r i in
      (o r.x0 r.y0 (lower refl) (lower refl), (o r.x1 r.y0 (upper refl) (lower refl), (o r.x1 r.y1 (upper refl) (upper refl), (o r.x0 r.y1 (lower refl) (upper refl), tt)))))
      (leaves-by (Leafs t k) t k (λ i h w o. (i, record { inside = h; whole = w; polygon = o }, refl)))

  owners : All (Owner t ps) (network t ps).nodes
  owners = subst (All (Owner t ps)) (sym (nodes-are t ps)) (nodes-all (Owner t ps) (pieces t ps 0) (pieces-by (λ (q : Piece). All (Owner t ps) (corners_of q)) t ps 0 (λ i l. rw (zero-add i) (piece-owned i l))))

  pub owner-of : (m : MeshNode) → InNet (network t ps) m → Owner t ps m
  owner-of m h =
      let ns = (network t ps).nodes in
      let l : In same_node ns m = ltb-true _ _ (sym (has-at same_node ns m) ∙ h) in
      subst (Owner t ps) (node-is (get_or ns _ nowhere) m (position-hit same_node ns m nowhere l)) (all-at (Owner t ps) nowhere ns _ owners l)

-- ---- the polygon k

-- the place (x, y) is a point of the box
pub record Holds (b : Box) (x y : ℕ) : Type 0 where
  pub west : b.x0 ≤ x
  pub east : x ≤ b.x1
  pub south : b.y0 ≤ y
  pub north : y ≤ b.y1

holds-out : (a b : Box) (x y : ℕ) → Inside a b → Holds a x y → Holds b x y
holds-out a b x y i h = record { west = omega (arith, i.west, h.west); east = omega (arith, i.east, h.east); south = omega (arith, i.south, h.south); north = omega (arith, i.north, h.north) }

holds-corner : (a b : Box) (x y : ℕ) → Inside a b → Corner a x y → Holds b x y
holds-corner a b x y i c =
    record {
      west = grind (arith, i.west, i.wide, c.across);
      east = grind (arith, i.east, i.wide, c.across);
      south = grind (arith, i.south, i.high, c.upright);
      north = grind (arith, i.north, i.high, c.upright);
    }

holds-touch : (a b : Box) (x y : ℕ) → Holds a x y → Holds b x y → Touch a b
holds-touch a b x y h k =
    record { across = omega (arith, h.west, h.east, k.west, k.east); upright = omega (arith, h.south, h.north, k.south, k.north) }

module _ (t : List Cell) (ps : List Poly) (k : ℕ) (p : Poly) (found : slice_get ps k ≡ Some p)
    (M : ℕ) (formed : Formed M t) (balanced : Balanced t) (fit : RootsFit t k) (apart : NoneTouches t ps k) where
  abbrev net : Net
  net = network t ps

  abbrev so-far : List MeshNode
  so-far = so t ps k p found

  abbrev Known-so : MeshNode → Type 0
  Known-so = There t ps k p found

  poly_is : poly_at ps k ≡ p
  poly_is = get_or_from_slice_get ps k p no_poly found

  module _ (i : ℕ) (leaf : LeafOf t k i) where
    abbrev r : Box
    r = (at t i).box

    -- a node of the polygon's layer and component, on the leaf, is one of the polygon's own
    own-polygon : (x y : ℕ) → Holds r x y → (o : Owner t ps (node_at p x y)) → o.polygon ≡ k
    own-polygon x y h o =
        let m = named M t formed i leaf.inside in
        let n = named M t formed o.leaf o.own.inside in
        let a = root-of M t formed k m.root m.path i m.found leaf.polygon in
        let b = root-of M t formed o.polygon n.root n.path o.leaf n.found o.own.polygon in
        let R = (at t m.root).box in
        let S = (at t n.root).box in
        let at-r = holds-out r R x y (within-root M t formed m.root m.path i m.found) h in
        let at-s = holds-corner (at t o.leaf).box S x y (within-root M t formed n.root n.path o.leaf n.found) o.corner in
        by_cases (ℕ_discrete o.polygon k) (λ e. e)
        (λ e. absurd (apart o.polygon o.there e (sym o.layer ∙ ap (λ (z : Poly). z.layer) (sym poly_is)) (sym o.component ∙ ap (λ (z : Poly). z.component) (sym poly_is)) n.root m.root b a (holds-touch S R x y at-s at-r)))

    own-leaf : (x y : ℕ) → Holds r x y → InNet net (node_at p x y) → (j : ℕ) × LeafOf t k j × Corner (at t j).box x y
    own-leaf x y h n =
        let o = owner-of t ps (node_at p x y) n in
        (o.leaf, subst (λ (z : ℕ). LeafOf t z o.leaf) (own-polygon x y h o) o.own, o.corner)

    -- so it is an end or a middle of a side that it lies on
    placed : (x y : ℕ) → Holds r x y → InNet net (node_at p x y) → OnSides EndOrMiddle r x y
    placed x y h n = let o = own-leaf x y h n in on-balanced M t formed k fit balanced i o.0 leaf o.1 x y o.2

    -- and has its number among the nodes so far
    numbered : (x y : ℕ) → Holds r x y → InNet net (node_at p x y) → Known-so (node_at p x y)
    unfolding All
    numbered x y h n =
        let o = own-leaf x y h n in
        let l = o.1 in
        let s = (at t o.0).box in
        let c = leaf-in (λ (z : Box). All Known-so (corners_at p z)) k t (piece-in (nodes_from [] (pre t ps k p found)) (q t ps k p found)) o.0 l.inside l.whole l.polygon in
        corner-in s c o.2.across o.2.upright
      where
        corner-in : (s : Box) → All Known-so (corners_at p s) → End s.x0 s.x1 x → End s.y0 s.y1 y → Known-so (node_at p x y)
        corner-in s c (lower e) (lower f) = rw (e, f) c.0
        corner-in s c (upper e) (lower f) = rw (e, f) c.1.0
        corner-in s c (upper e) (upper f) = rw (e, f) c.1.1.0
        corner-in s c (lower e) (upper f) = rw (e, f) c.1.1.1.0

  -- the nodes so far are nodes of the net
  so-in : (m : MeshNode) → Known-so m → InNet net m
  so-in m h =
      let on = nodes-on t ps k p found in
      subst (λ (z : List MeshNode). has same_node z m ≡ true) (sym on.1) (has-yes same_node _ m (in-more same_node so-far on.0 m h))

  so-not : (m : MeshNode) → (InNet net m → ⊥) → has same_node so-far m ≡ false
  so-not m h = ⊎_elim (λ e. absurd (h (so-in m (ltb-true _ _ (sym (has-at same_node so-far m) ∙ e))))) (λ e. e) (test (has same_node so-far m))

  -- along a line of nodes c
  line : (c : ℕ → MeshNode) (u v : ℕ) → Known-so (c u) → Known-so (c v) → Halved so-far net.edges (c u) (c (mid u v)) (c v)
      → Whole so-far net.edges (c u) (c (mid u v)) (c v) → (InNet net (c (mid u v)) → Known-so (c (mid u v)))
      → ((z : ℕ) → u ≤ z → z ≤ v → InNet net (c z) → EndOrMiddle u v z) → SideJoined net c u v
  line c u v a b half whole back only =
      record {
        only = only;
        halved = λ n.
            let m = back n in
            let j = half (has-yes same_node so-far (c (mid u v)) m) in
            (joined-on t ps k p found (c u) (c (mid u v)) a m j.0, joined-on t ps k p found (c (mid u v)) (c v) m b j.1);
        whole = λ n. joined-on t ps k p found (c u) (c v) a b (whole (so-not (c (mid u v)) n));
      }

  leaf-joined : (i : ℕ) → LeafOf t k i → All Known-so (corners_at p (at t i).box) → HalvedSides so-far net.edges p (at t i).box
      → WholeSides so-far net.edges p (at t i).box → SidesJoined net p (at t i).box
  unfolding All
  leaf-joined i leaf c h w =
      let r = (at t i).box in
      let a = cell-positive M t formed i leaf.inside in
      let mx = mid r.x0 r.x1 in
      let my = mid r.y0 r.y1 in
      let along : (y : ℕ) → r.y0 ≤ y → y ≤ r.y1 → (x : ℕ) → r.x0 ≤ x → x ≤ r.x1 → Holds r x y = λ y l u x m v. record { west = m; east = v; south = l; north = u } in
      let up : (x : ℕ) → r.x0 ≤ x → x ≤ r.x1 → (y : ℕ) → r.y0 ≤ y → y ≤ r.y1 → Holds r x y = λ x l u y m v. record { west = l; east = u; south = m; north = v } in
      let south = along r.y0 (omega arith) (omega (arith, a.1)) in
      let north = along r.y1 (omega (arith, a.1)) (omega arith) in
      let west = up r.x0 (omega arith) (omega (arith, a.0)) in
      let east = up r.x1 (omega (arith, a.0)) (omega arith) in
      let xl : r.x0 ≤ mx = omega (arith, a.0) in
      let xu : mx ≤ r.x1 = omega (arith, a.0) in
      let yl : r.y0 ≤ my = omega (arith, a.1) in
      let yu : my ≤ r.y1 = omega (arith, a.1) in
      record {
        south = line (λ z. node_at p z r.y0) r.x0 r.x1 c.0 c.1.0 h.south w.south (numbered i leaf mx r.y0 (south mx xl xu)) (λ z l u n. (placed i leaf z r.y0 (south z l u) n).south refl l u);
        north = line (λ z. node_at p z r.y1) r.x0 r.x1 c.1.1.1.0 c.1.1.0 h.north w.north (numbered i leaf mx r.y1 (north mx xl xu)) (λ z l u n. (placed i leaf z r.y1 (north z l u) n).north refl l u);
        west = line (λ z. node_at p r.x0 z) r.y0 r.y1 c.0 c.1.1.1.0 h.west w.west (numbered i leaf r.x0 my (west my yl yu)) (λ z l u n. (placed i leaf r.x0 z (west z l u) n).west refl l u);
        east = line (λ z. node_at p r.x1 z) r.y0 r.y1 c.1.0 c.1.1.0 h.east w.east (numbered i leaf r.x1 my (east my yl yu)) (λ z l u n. (placed i leaf r.x1 z (east z l u) n).east refl l u);
      }

  leaves-joined : All (SidesJoined net p) (leaves_of t k)
  leaves-joined =
      all-by (λ (b : Box). Known t ps k p found b × WholeSides so-far net.edges p b) (SidesJoined net p) (leaves_of t k)
      (λ b s.
      let l = s.0.0 in
      let f : Box → Type 0 = λ z. All Known-so (corners_at p z) × HalvedSides so-far net.edges p z × WholeSides so-far net.edges p z in
      let g = subst f (sym l.2) (s.0.1.0, s.0.1.1, s.1) in
      subst (SidesJoined net p) l.2 (leaf-joined l.0 l.1 g.0 g.1 g.2))
      (all_both (Known t ps k p found) (WholeSides so-far net.edges p) (leaves_of t k) (known t ps k p found)
      (whole-sides t ps (pre t ps k p found) (q t ps k p found) (qs t ps k p found) (pieces-at t ps k p found)))

-- ---- the laws that src/hanging.rt promises

pub sides-joined : SidesAreJoined
sides-joined M t ps k p formed balanced h fit apart i r a = all-at (SidesJoined (network t ps) p) r (leaves_of t k) i (leaves-joined t ps k p h M formed balanced fit apart) a

pub balance-joins : BalanceJoinsSides
balance-joins M t ps k p formed h fit apart =
    sides-joined M (balance M t) ps k p (balance-evens M t formed).formed (evens-even 1 M t (balance M t) (balance-evens M t formed)) h (balance-fit M t formed k fit) (balance-apart M t formed ps k apart)
