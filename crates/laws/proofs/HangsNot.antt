-- No node hangs: in a balanced table, every node of a polygon whose roots fit that lies on a leaf's edge is an end of that edge or its
-- middle, and at the middle both halves are edges of the net. Assumes nothing.
use Rattle.std.proofs.Common.{◌≡◌, refl, sym, ap, subst, ◌∙◌, None, Some, List, [], ◌∷◌, ◌++◌, ℕ, suc, ◌<◌, arith, take, drop, length}
use Rattle.cell.specs.Boxes.{Box, mid}
use Rattle.table.specs.Mesh.{Cell, at}
use Rattle.table.specs.Formed.{Formed}
use Rattle.net.specs.Net.{Poly, MeshNode, Net, Piece, same_node, leaves_of, pieces, node_at, corners_at, corners_of, nodes_from, bare, weigh, network}
use Rattle.net.specs.Hang.{so_far, Joined, Halved, HalvedSides}
use Rattle.std.proofs.lemmas.Bool.Decides.{nat_tests}
use Rattle.std.specs.List.{slice_get}
use Rattle.net.proofs.Positions.{has-yes, position-left}
use Rattle.net.proofs.Leaves.{leaves_of-cons, piece_of, pieces-at}
use Rattle.laws.proofs.Pieces.{nodes-append}
use Rattle.net.proofs.All.{All, In, all-by, all_both, all-each-by, all_cons}
use Rattle.net.proofs.Sound.{nodes-more, piece-in}
use Rattle.net.proofs.Hang.{no-half-hangs}
use Rattle.laws.specs.Grids.{LeafOf, Balanced}
use Rattle.laws.specs.Fit.{RootsFit}
use Rattle.laws.specs.Nodes.{End, lower, upper, EndOrMiddle, end, middle, Corner, OnSides, EdgeOf, Held, first, last, halved, HangsNot}
use Rattle.laws.proofs.Ends.{on-balanced}

-- `NoneHangs` of the specs, of a piece and by recursion
abbrev pub NoneHangs : Net → Piece → Type 0
NoneHangs n q = All (λ (r : Box). All (HangsNot n q.poly r) (corners_of q)) q.leaves

-- ---- the polygon's leaves, by id

abbrev pub Leafs : List Cell → ℕ → Box → Type 0
Leafs t k b = (i : ℕ) × LeafOf t k i × ((at t i).box ≡ b)

pub leaves-by : (P : Box → Type 0) (cs : List Cell) (k : ℕ)
    → ((i : ℕ) → i < length cs → (at cs i).kids ≡ None → (at cs i).polygon ≡ k → P (at cs i).box) → All P (leaves_of cs k)
unfolding All leaves_of
leaves-by P [] k h = tt
leaves-by P (c ∷ cs) k h = grind (arith, nat_tests, leaves_of-cons c cs k, h 0, leaves-by P cs k (λ i l. h (suc i) (omega arith)), all_cons P c.box (leaves_of cs k))

-- ---- the polygon k

module _ (t : List Cell) (ps : List Poly) (k : ℕ) (p : Poly) (there : slice_get ps k ≡ Some p) where
  abbrev pub n : Net
  n = network t ps

  abbrev pub pre : List Piece
  pre = pieces t (take k ps) 0

  abbrev pub q : Piece
  q = piece_of t p k

  abbrev pub qs : List Piece
  qs = pieces t (drop (suc k) ps) (suc k)

  abbrev pub so : List MeshNode
  so = so_far pre q

  abbrev pub There : MeshNode → Type 0
  There m = In same_node so m

  -- the nodes of the net go on from those so far
  pub nodes-on : (more : List MeshNode) × (n.nodes ≡ so ++ more)
  unfolding network weigh bare
  nodes-on = let r = nodes-more so qs in (r.0, ap (nodes_from []) (pieces-at t ps k p there) ∙ nodes-append [] pre q qs ∙ r.1)

  pub joined-on : (a b : MeshNode) → There a → There b → Joined so n.edges a b → EdgeOf n a b
  joined-on a b ia ib h g = rw (nodes-on.1, position-left same_node so nodes-on.0 a ia, position-left same_node so nodes-on.0 b ib) (h g)

  -- along a line of nodes c
  hold : (c : ℕ → MeshNode) (a b x : ℕ) → There (c a) → There (c b) → There (c x) → Halved so n.edges (c a) (c (mid a b)) (c b) → EndOrMiddle a b x
      → Held n (c a) (c (mid a b)) (c b) (c x)
  hold c a b x ia ib ix h (end (lower e)) = first (ap c e)
  hold c a b x ia ib ix h (end (upper e)) = last (ap c e)
  hold c a b x ia ib ix h (middle e) =
      let im : There (c (mid a b)) = subst (λ (z : ℕ). There (c z)) e ix in
      let j = h (has-yes same_node so (c (mid a b)) im) in
      halved (ap c e) (joined-on (c a) (c (mid a b)) ia im j.0) (joined-on (c (mid a b)) (c b) im ib j.1)

  hangs-not : (r : Box) (x y : ℕ) → All There (corners_at p r) → There (node_at p x y) → HalvedSides so n.edges p r → OnSides EndOrMiddle r x y
      → HangsNot n p r (node_at p x y)
  unfolding All
  hangs-not r x y k i h o =
      record {
        south = λ d l u. rw d (hold (λ z. node_at p z r.y0) r.x0 r.x1 x k.0 k.1.0 (rw d at i) h.south (o.south d l u));
        north = λ d l u. rw d (hold (λ z. node_at p z r.y1) r.x0 r.x1 x k.1.1.1.0 k.1.1.0 (rw d at i) h.north (o.north d l u));
        west = λ d l u. rw d (hold (λ z. node_at p r.x0 z) r.y0 r.y1 y k.0 k.1.1.1.0 (rw d at i) h.west (o.west d l u));
        east = λ d l u. rw d (hold (λ z. node_at p r.x1 z) r.y0 r.y1 y k.1.0 k.1.1.0 (rw d at i) h.east (o.east d l u));
      }

  -- what is known of each leaf: its id, its corners' numbers, and its halved sides
  abbrev pub Known : Box → Type 0
  Known r = Leafs t k r × (All There (corners_at p r) × HalvedSides so n.edges p r)

  pub known : All Known q.leaves
  known =
      all_both (Leafs t k) (λ (r : Box). All There (corners_at p r) × HalvedSides so n.edges p r) q.leaves
      (leaves-by (Leafs t k) t k (λ i l w o. (i, record { inside = l; whole = w; polygon = o }, refl)))
      (all_both (λ (r : Box). All There (corners_at p r)) (HalvedSides so n.edges p) q.leaves (piece-in (nodes_from [] pre) q) (no-half-hangs t ps pre q qs (pieces-at t ps k p there)))

  module _ (M : ℕ) (formed : Formed M t) (balanced : Balanced t) (fit : RootsFit t k) where
    -- a corner of the leaf s, on the sides of the leaf r
    one : (r s : Box) → Known r → Known s → (x y : ℕ) → End s.x0 s.x1 x → End s.y0 s.y1 y → There (node_at p x y) → HangsNot n p r (node_at p x y)
    one r s a b x y c d i =
        let l = a.0 in
        let m = b.0 in
        let o = on-balanced M t formed k fit balanced l.0 m.0 l.1 m.1 x y (subst (λ (z : Box). Corner z x y) (sym m.2) (record { across = c; upright = d })) in
        hangs-not r x y a.1.0 i a.1.1 (subst (λ (z : Box). OnSides EndOrMiddle z x y) l.2 o)

    four : (r s : Box) → Known r → Known s → All (HangsNot n p r) (corners_at p s)
    unfolding All
    four r s a b =
        let c = b.1.0 in
        let o = one r s a b in
        (o s.x0 s.y0 (lower refl) (lower refl) c.0, (o s.x1 s.y0 (upper refl) (lower refl) c.1.0, (o s.x1 s.y1 (upper refl) (upper refl) c.1.1.0, (o s.x0 s.y1 (lower refl) (upper refl) c.1.1.1.0, tt))))

    pub no-node-hangs : NoneHangs n q
    unfolding corners_of
    no-node-hangs =
        all-by Known (λ (r : Box). All (HangsNot n p r) (corners_of q)) q.leaves
        (λ r a. all-each-by Known (HangsNot n p r) (corners_at p) q.leaves (λ s b. four r s a b) known) known
