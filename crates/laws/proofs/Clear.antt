-- No side of a leaf is a fault: by layer where it is joined from end to end, by place where what stands at its middle is halved. Assumes
-- nothing.
use Rattle.std.proofs.Common.{◌≡◌, refl, sym, ap, subst, subst₂, ◌∙◌, true, ◌&&◌, List, [], ◌∷◌, map, ℕ, suc, ◌<◌, ◌≤◌, min, max, arith, eqb, length, get_or, slice_get, Option, None, Some}
use Rattle.std.specs.List.{filter_map, cons_option}
use Rattle.std.specs.Option.{is_some}
use mathlib.Core.Bool.{or_comm}
use mathlib.Core.Logic.{by_cases}
use Rattle.std.proofs.Math.Decide.{dec_lt}
use Rattle.std.proofs.lemmas.Bool.{true≢false, false_from_ne_true}
use Rattle.cell.specs.declared.Cell.{Cell}
use Rattle.cell.specs.Boxes.{Box, mid}
use Rattle.cell.specs.Cells.{box_of}
use Rattle.cell.specs.Ticks.{on}
use Rattle.net_rows.specs.declared.axis.Axis.{Axis}
use Rattle.net_rows.specs.declared.axis.Axis.TheVariants.{Column, Row}
use Rattle.checks.specs.declared.asked.Class.{Class}
use Rattle.checks.specs.declared.asked.Class.TheVariants.{Any}
use Rattle.checks.specs.declared.asked.Place.{Place}
use Rattle.checks.specs.declared.asked.Hanging.{Hanging}
use Rattle.checks.specs.Nodes.{joined, last_at, node_at, nodes_between}
use Rattle.checks.specs.Sides.{between}
use Rattle.checks.specs.Laws.{middle_leaf_fault}
use Rattle.checks.specs.Checks.{fault, middle_fault, first_unjoined, chain, chain_fault, side_fault, leaf_fault}
use Rattle.checks.specs.Entries.{IsInside}
use Rattle.checks.proofs.Between.{on_axis, next-not, between-none, between-one}
use Rattle.net.specs.Net.{Poly, MeshNode, Edge, same_node, same_pair, nth, number, sw_of, ne_of, nw_of, join, One}
use Rattle.net.specs.Net as Net
use Rattle.net.specs.Hang.{Joined, Halved, HalvedSides}
use Rattle.net.proofs.Positions.{has-yes, position-same}
use Rattle.net.proofs.All.{In}
use Rattle.net_rows.specs.declared.rows.Node.{Node}
use Rattle.net_rows.specs.Nodes.{in_ticks}
use Rattle.laws.proofs.Places.{top, own_of, Tells, found, joined_of}
use Rattle.net.proofs.Leaves.{BoxWithin}

-- ---- the same side from its other end
pub joined_back : (ns : List MeshNode) (es : List Edge) (a b : MeshNode) → Joined ns es a b → Joined ns es b a
joined_back ns es a b h g =
    let l = h g in
    let x = join ns a b g in
    let y = join ns b a g in
    let e = position-same same_pair same_pair es es x x y x refl
    (λ i p. or_comm (eqb (get_or es i x).from (number ns a) && eqb (get_or es i x).to (number ns b)) (eqb (get_or es i x).from (number ns b) && eqb (get_or es i x).to (number ns a))) in
    omega arith

halved-back : (ns : List MeshNode) (es : List Edge) (a m b : MeshNode) → Halved ns es a m b → Halved ns es b m a
halved-back ns es a m b h t = let r = h t in (joined_back ns es m b r.1, joined_back ns es a m r.0)

abbrev place : ℕ → ℕ → Place
place x y = record { x = x; y = y }

-- a node of the polygon p at a place
abbrev pub at_place : Poly → Place → MeshNode
at_place p q = Net.node_at p q.x q.y

-- ---- by layer

-- a side from u to v of a line of nodes: inside it none stands but at its middle, which is then joined to both ends
pub record Along (ns : List MeshNode) (es : List Edge) (c : ℕ → MeshNode) (u v : ℕ) : Type 0 where
  pub only : (z : ℕ) → IsInside u v z → In same_node ns (c z) → z ≡ mid u v
  pub halved : In same_node ns (c (mid u v)) → Joined ns es (c u) (c (mid u v)) × Joined ns es (c (mid u v)) (c v)

pub record AllAlong (ns : List MeshNode) (es : List Edge) (p : Poly) (r : Box) : Type 0 where
  pub south : Along ns es (λ z. Net.node_at p z r.y0) r.x0 r.x1
  pub north : Along ns es (λ z. Net.node_at p z r.y1) r.x0 r.x1
  pub west : Along ns es (λ z. Net.node_at p r.x0 z) r.y0 r.y1
  pub east : Along ns es (λ z. Net.node_at p r.x1 z) r.y0 r.y1

-- nothing stands between
nothing : (es : List Edge) (x y : Option ℕ) → chain es [] x y ≡ None
unfolding chain first_unjoined
nothing es None y = refl
nothing es (Some i) None = refl
nothing es (Some i) (Some j) = refl

-- one side: s and e are its ends on a line of the axis, m is its middle
module _ (ns : List MeshNode) (es : List Edge) (p : Poly) (tells : Tells ns (own_of p) p) (once : (i : ℕ) → i < length ns → number ns (nth ns i) ≡ i) where
  abbrev rows : List Node
  rows = map in_ticks ns

  -- what is found at a place is the polygon's node there
  here : (q : Place) (i : ℕ) → q.x ≤ top → q.y ≤ top → node_at rows (own_of p) q ≡ Some i → In same_node ns (at_place p q) × (number ns (at_place p q) ≡ i)
  here q i h k e = let r = found ns (own_of p) p tells once q.x q.y i h k e in (omega arith, r.1)

  joined-at : (a b : Place) (i j : ℕ) → Joined ns es (at_place p a) (at_place p b) → number ns (at_place p a) ≡ i → number ns (at_place p b) ≡ j → joined es i j ≡ true
  joined-at a b i j h e f = subst₂ (λ (x y : ℕ). joined es x y ≡ true) e f (joined_of es (join ns (at_place p a) (at_place p b) One) (h One))

  -- the ends and what is found at the middle make no fault
  joined-clear : (a m b : Place) → a.x ≤ top → a.y ≤ top → m.x ≤ top → m.y ≤ top → b.x ≤ top → b.y ≤ top
      → (In same_node ns (at_place p m) → Joined ns es (at_place p a) (at_place p m) × Joined ns es (at_place p m) (at_place p b))
      → (o : Option ℕ) → node_at rows (own_of p) m ≡ o → (x y : Option ℕ) → node_at rows (own_of p) a ≡ x → node_at rows (own_of p) b ≡ y
      → chain es (cons_option o []) x y ≡ None
  unfolding chain first_unjoined
  joined-clear a m b ax ay mx my bx by h o e None y f g = refl
  joined-clear a m b ax ay mx my bx by h o e (Some i) None f g = refl
  joined-clear a m b ax ay mx my bx by h None e (Some i) (Some j) f g = refl
  joined-clear a m b ax ay mx my bx by h (Some k) e (Some i) (Some j) f g =
      let at-m = here m k mx my e in
      let both = h at-m.0 in
      let left = joined-at a m i k both.0 (here a i ax ay f).1 at-m.1 in
      let right = joined-at m b k j both.1 at-m.1 (here b j bx by g).1 in
      rw (left, right) refl

  -- a node on the line
  abbrev spot : Axis → ℕ → ℕ → MeshNode
  spot axis line z = at_place p (on_axis axis line z)

  low-x : (axis : Axis) (line z : ℕ) → line ≤ top → z ≤ top → (on_axis axis line z).x ≤ top
  low-x Column line z l h = l
  low-x Row line z l h = h

  low-y : (axis : Axis) (line z : ℕ) → line ≤ top → z ≤ top → (on_axis axis line z).y ≤ top
  low-y Column line z l h = h
  low-y Row line z l h = l

  -- what is found on the line is a node of the net
  has-node : (axis : Axis) (line z : ℕ) → line ≤ top → z ≤ top → is_some (node_at rows (own_of p) (on_axis axis line z)) ≡ true → In same_node ns (spot axis line z)
  has-node axis line z l h t = by (node_at rows (own_of p) (on_axis axis line z)) refl t
    where
      by : (o : Option ℕ) → node_at rows (own_of p) (on_axis axis line z) ≡ o → is_some o ≡ true → In same_node ns (spot axis line z)
      by None e t = absurd (true≢false (sym t))
      by (Some i) e t = (here (on_axis axis line z) i (low-x axis line z l h) (low-y axis line z l h) e).0

  side-clear : (axis : Axis) (line s e m : ℕ) → line ≤ top → s ≤ top → e ≤ top → m ≤ top
      → ((z : ℕ) → IsInside s e z → In same_node ns (spot axis line z) → z ≡ m)
      → (In same_node ns (spot axis line m) → Joined ns es (spot axis line s) (spot axis line m) × Joined ns es (spot axis line m) (spot axis line e))
      → side_fault rows es (own_of p) (between axis (on_axis axis line s) (on_axis axis line e)) ≡ None
  unfolding side_fault chain_fault
  side-clear axis line s e m l hs he hm only both =
      by_cases (dec_lt (min s e) m) (λ a. by_cases (dec_lt m (max s e)) (λ b. inside (a, b)) (λ n. outside (λ i. n i.1))) (λ n. outside (λ i. n i.0))
    where
      A : Place
      A = on_axis axis line s

      B : Place
      B = on_axis axis line e

      M : Place
      M = on_axis axis line m

      stands : (z : ℕ) → IsInside s e z → is_some (node_at rows (own_of p) (on_axis axis line z)) ≡ true → z ≡ m
      stands z i t = let (a, b) = i in only z i (has-node axis line z l (omega arith) t)

      inside : IsInside s e m → chain es (nodes_between rows (own_of p) A B) (node_at rows (own_of p) A) (node_at rows (own_of p) B) ≡ None
      inside i =
          ap (λ (ks : List ℕ). chain es ks (node_at rows (own_of p) A) (node_at rows (own_of p) B)) (between-one rows (own_of p) axis line s e m i stands)
          ∙ joined-clear A M B (low-x axis line s l hs) (low-y axis line s l hs) (low-x axis line m l hm) (low-y axis line m l hm) (low-x axis line e l he) (low-y axis line e l he)
          both (node_at rows (own_of p) M) refl (node_at rows (own_of p) A) (node_at rows (own_of p) B) refl refl

      outside : (IsInside s e m → ⊥) → chain es (nodes_between rows (own_of p) A B) (node_at rows (own_of p) A) (node_at rows (own_of p) B) ≡ None
      outside n =
          ap (λ (ks : List ℕ). chain es ks (node_at rows (own_of p) A) (node_at rows (own_of p) B))
          (between-none rows (own_of p) A B (next-not rows (own_of p) axis line s e (λ z i. false_from_ne_true _ (λ t. n (subst (IsInside s e) (stands z i t) i)))))
          ∙ nothing es (node_at rows (own_of p) A) (node_at rows (own_of p) B)

  -- along a side that is joined, and the other way
  forth : (axis : Axis) (line u v : ℕ) → line ≤ top → u ≤ top → v ≤ top → Along ns es (spot axis line) u v
      → side_fault rows es (own_of p) (between axis (on_axis axis line u) (on_axis axis line v)) ≡ None
  forth axis line u v l hu hv h = side-clear axis line u v (mid u v) l hu hv (omega arith) h.only h.halved

  back : (axis : Axis) (line u v : ℕ) → line ≤ top → u ≤ top → v ≤ top → Along ns es (spot axis line) u v
      → side_fault rows es (own_of p) (between axis (on_axis axis line v) (on_axis axis line u)) ≡ None
  back axis line u v l hu hv h =
      side-clear axis line v u (mid u v) l hv hu (omega arith) (λ z (a, b) i. h.only z (omega arith, omega arith) i)
      (λ i. let r = h.halved i in (joined_back ns es _ _ r.1, joined_back ns es _ _ r.0))

  pub leaf-clear : (c : Cell) → BoxWithin top (box_of c) → AllAlong ns es p (box_of c) → leaf_fault rows es (own_of p) c ≡ None
  unfolding leaf_fault
  leaf-clear c l h =
      rw (forth Row c.y0 c.x0 c.x1 l.1 l.0 l.2 h.south, forth Column c.x1 c.y0 c.y1 l.2 l.1 l.3 h.east, back Row c.y1 c.x0 c.x1 l.3 l.0 l.2 h.north, back Column c.x0 c.y0 c.y1 l.0 l.1 l.3 h.west)
      refl

-- ---- by place: all nodes ns, and the nodes so far, by which the edges of the polygon p are made
module _ (ns so : List MeshNode) (es : List Edge) (p : Poly) (w : Class) (tells : Tells ns w p)
    (once : (i : ℕ) → i < length ns → number ns (nth ns i) ≡ i)
    (kept : (x y : ℕ) → In same_node ns (Net.node_at p x y) → In same_node so (Net.node_at p x y) × (number ns (Net.node_at p x y) ≡ number so (Net.node_at p x y))) where
  numbered : (x y i : ℕ) → x ≤ top → y ≤ top → last_at (map in_ticks ns) w (on x) (on y) ≡ Some i → In same_node so (Net.node_at p x y) × (number so (Net.node_at p x y) ≡ i)
  numbered x y i h k e = grind (arith, found ns w p tells once x y i h k e, kept x y)

  halves : (a m b : MeshNode) → Halved so es a m b → In same_node so m → (joined es (number so a) (number so m) ≡ true) × (joined es (number so m) (number so b) ≡ true)
  halves a m b h i =
      let s = h (has-yes same_node so m i) in
      (joined_of es (join so a m One) (s.0 One), joined_of es (join so m b One) (s.1 One))

  edge-clear : (ax ay bx by mx my : ℕ) → ax ≤ top → ay ≤ top → bx ≤ top → by ≤ top → mx ≤ top → my ≤ top → Halved so es (Net.node_at p ax ay) (Net.node_at p mx my) (Net.node_at p bx by)
      → fault es (node_at (map in_ticks ns) w (place mx my)) (node_at (map in_ticks ns) w (place ax ay)) (node_at (map in_ticks ns) w (place bx by)) ≡ None
  unfolding fault
  edge-clear ax ay bx by mx my hax hay hbx hby hmx hmy halved =
      grind (arith, numbered mx my, numbered ax ay, numbered bx by, halves (Net.node_at p ax ay) (Net.node_at p mx my) (Net.node_at p bx by) halved)

-- a side that keeps to a line has its middle on it
middle-is : (a b : ℕ) → (mid a a ≡ a) × (mid b a ≡ mid a b)
middle-is a b = (omega arith, omega arith)

pub middles-clear : (ns so : List MeshNode) (es : List Edge) (p : Poly) (w : Class) (tells : Tells ns w p)
    (once : (i : ℕ) → i < length ns → number ns (nth ns i) ≡ i)
    (kept : (x y : ℕ) → In same_node ns (Net.node_at p x y) → In same_node so (Net.node_at p x y) × (number ns (Net.node_at p x y) ≡ number so (Net.node_at p x y)))
    (c : Cell) → BoxWithin top (box_of c) → HalvedSides so es p (box_of c) → middle_leaf_fault (map in_ticks ns) es w c ≡ None
unfolding middle_leaf_fault middle_fault
middles-clear ns so es p w tells once kept c l h =
    let a = l.0 in
    let b = l.1 in
    let d = l.2 in
    let e = l.3 in
    let x : mid c.x0 c.x1 ≤ top = omega arith in
    let y : mid c.y0 c.y1 ≤ top = omega arith in
    let r = box_of c in
    let clear = edge-clear ns so es p w tells once kept in
    rw (
      (middle-is c.y0 0).0,
      (middle-is c.y1 0).0,
      (middle-is c.x0 0).0,
      (middle-is c.x1 0).0,
      (middle-is c.x0 c.x1).1,
      (middle-is c.y0 c.y1).1,
      clear c.x0 c.y0 c.x1 c.y0 (mid c.x0 c.x1) c.y0 a b d b x b h.south,
      clear c.x1 c.y0 c.x1 c.y1 c.x1 (mid c.y0 c.y1) d b d e d y h.east,
      clear c.x1 c.y1 c.x0 c.y1 (mid c.x0 c.x1) c.y1 d e a e x e (halved-back so es (nw_of p r) (Net.node_at p (mid c.x0 c.x1) c.y1) (ne_of p r) h.north),
      clear c.x0 c.y1 c.x0 c.y0 c.x0 (mid c.y0 c.y1) a e a b a y (halved-back so es (sw_of p r) (Net.node_at p c.x0 (mid c.y0 c.y1)) (nw_of p r) h.west),
    )
    refl

-- by place the middles are all
pub by-place : (nodes : List Node) (es : List Edge) (c : Cell) → leaf_fault nodes es Any c ≡ middle_leaf_fault nodes es Any c
unfolding leaf_fault side_fault middle_leaf_fault
by-place nodes es c = refl

-- no fault of any, no first one
pub first-clear : (f : ℕ → Option Hanging) (ids : List ℕ) → ((k d : ℕ) → k < length ids → f (get_or ids k d) ≡ None) → slice_get (filter_map f ids) 0 ≡ None
first-clear f [] h = refl
first-clear f (i ∷ ids) h = rw (h 0 i (omega arith)) (first-clear f ids (λ k d l. h (suc k) d (omega arith)))
