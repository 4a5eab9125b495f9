-- The net before the weights from one list of leaves. Assumes nothing.
use Rattle.std.proofs.lemmas.Bool.Decides.{nat_tests}
use lib.Ieee.{Float}
use Rattle.std.proofs.Common.{◌≡◌, refl, sym, ap, ◌∙◌, subst, true, List, [], ◌∷◌, ◌++◌, map, append_assoc, append-nil, ℕ, suc, ◌+◌, ◌*◌, ◌≤◌, ◌<◌, arith, ltb, length, get_or, take, drop, take_at, drop_at, drop-cons, length-append, length-drop, get_or-append-add, eq-eqb}
use Rattle.std.specs.Prelude.{flat_map}
use Rattle.std.proofs.lemmas.Grind.{flat_map-append}
use Rattle.std.proofs.lemmas.List.{map-append}
use lib.ListN.{length-map, get_or-append}
use Rattle.cell.specs.Boxes.{Box}
use Rattle.net.specs.Net.{weld, Poly, MeshNode, Edge, NetCell, Piece, same_node, same_pair, nth, nowhere, number, corners_at, corners_of, nodes_from, side_of, sides_at, patch_at, edges_from, edges_of, patches_from, across, upright}
use Rattle.net.specs.First.{first_of, number_by, patch_by, Part, part, same_part, news}
use Rattle.net.specs.Flat.{Leaf, leaf, no_leaf, leaf_at, leaves_from, corners_in, mids_in, flat_places, side_twice, slots_by, flat_slots, flat_patches}
use Rattle.net.proofs.Positions.{positions}
use Rattle.net.proofs.Weld.{welding, Keyed, weld-nil, weld-append, welded, place-has, place-number, corner-number}
use Rattle.net.proofs.All.{All, all_append, all_map, all-by, all_nil}
use Rattle.net.proofs.Board.{each-length, each_at}
use Rattle.net.proofs.Pieces.{edge_of, map_back, parts-own}

-- ---- lists of parts that weld alike

weld-both : (l a a' b b' : List Part) → ((z : List Part) → weld same_part z a ≡ weld same_part z a') → ((z : List Part) → weld same_part z b ≡ weld same_part z b')
    → weld same_part l (a ++ b) ≡ weld same_part l (a' ++ b')
weld-both l a a' b b' e f = weld-append same_part l a b ∙ (ap (λ (z : List Part). weld same_part z b) (e l) ∙ (f (weld same_part l a') ∙ sym (weld-append same_part l a' b')))

-- of one polygon
record Alike (k : ℕ) (a b : List Edge) : Type 0 where
  by : (l : List Part) → weld same_part l (map (part k) a) ≡ weld same_part l (map (part k) b)

alike_both : {k : ℕ} {a a' b b' : List Edge} → Alike k a a' → Alike k b b' → Alike k (a ++ b) (a' ++ b')
alike_both {k} {a} {a'} {b} {b'} e f = record { by = λ l. simp map-append (weld-both l (map (part k) a) (map (part k) a') (map (part k) b) (map (part k) b') e.by f.by) }

alike_same : (k : ℕ) (a : List Edge) → Alike k a a
alike_same k a = record { by = λ l. refl }

-- a thing twice
pub weld_twice : (l : List Part) (x : Part) → weld same_part l (x ∷ []) ≡ weld same_part l (x ∷ x ∷ [])
weld_twice l x = grind (arith, welding, positions, length-append l (x ∷ []), self)
  where
    self : same_part x x ≡ true
    self = rw (eq-eqb x.piece x.piece refl, eq-eqb x.edge.from x.edge.from refl, eq-eqb x.edge.to x.edge.to refl)

alike_twice : (k : ℕ) (e : Edge) → Alike k (e ∷ []) (e ∷ e ∷ [])
alike_twice k edge = record { by = λ l. weld_twice l (part k edge) }

each_map : {A B C : Type 0} (f : B → List C) (g : A → B) (l : List A) → flat_map f (map g l) ≡ flat_map (λ (a : A). f (g a)) l
each_map f g [] = refl
each_map {C} f g (a ∷ l) = ap (λ (x : List C). f (g a) ++ x) (each_map f g l)

-- how many leaves there are in the polygons up to k
unfoldable pub Upto : (ℕ → ℕ) → ℕ → List Piece → ℕ → Type 0
Upto up t [] k = Unit {0}
Upto up t (q ∷ qs) k = (up k ≡ t + length q.leaves) × Upto up (t + length q.leaves) qs (suc k)

module _ (ls : List Leaf) (ks : List ℕ) (K : Keyed same_node nowhere (flat_places ls) ks) where
  abbrev P : List MeshNode
  P = flat_places ls

  -- the nodes so far
  abbrev N : ℕ → List MeshNode
  N n = weld same_node [] (take n P)

  places-length : length P ≡ 8 * length ls
  unfolding flat_places
  places-length = omega (arith, length-append (flat_map corners_in ls) (flat_map mids_in ls), each-length corners_in (λ l. refl) ls, each-length mids_in (λ l. refl) ls)

  -- ---- one leaf

  module _ (t : ℕ) (l : Leaf) (here : leaf_at ls t ≡ l) (h : t < length ls) where
    corner : (i s : ℕ) → i ≡ 4 * t + s → s < 4 → nth P i ≡ get_or (corners_in l) s nowhere
    unfolding flat_places
    corner i s e k = grind (arith, each-length corners_in (λ l. refl) ls, get_or-append (flat_map corners_in ls) (flat_map mids_in ls) nowhere i, each_at corners_in (λ l. refl) ls t s no_leaf nowhere h k)

    middle : (i s : ℕ) → i ≡ 4 * length ls + 4 * t + s → s < 4 → nth P i ≡ get_or (mids_in l) s nowhere
    unfolding flat_places
    middle i s e k = grind (arith, each-length corners_in (λ l. refl) ls, get_or-append-add (flat_map corners_in ls) (flat_map mids_in ls) (4 * t + s) nowhere, each_at mids_in (λ l. refl) ls t s no_leaf nowhere h k)

    module _ (n : ℕ) (low : 4 * t + 4 ≤ n) (high : n ≤ 4 * length ls) where
      number-is : (i s : ℕ) → i ≡ 4 * t + s → s < 4 → number (N n) (get_or (corners_in l) s nowhere) ≡ number_by ks i
      number-is i s e k = grind (arith, places-length, corner i s e k, corner-number same_node nowhere P ks K n i)

      -- a side, by its corners and its middle
      side : (k a m b : ℕ) (sa sm sb : ℕ) (r : Float) → a ≡ 4 * t + sa → sa < 4 → m ≡ 4 * length ls + 4 * t + sm → sm < 4 → b ≡ 4 * t + sb → sb < 4
          → Alike k (side_of (N n) (get_or (corners_in l) sa nowhere) (get_or (mids_in l) sm nowhere) (get_or (corners_in l) sb nowhere) r) (side_twice ks (ltb (first_of ks m) n) a m b r)
      side k a m b sa sm sb r ea ha em hm eb hb =
          let long = places-length in
          let A = number-is a sa ea ha in
          let B = number-is b sb eb hb in
          let h : m < length P = omega arith in
          grind (arith, middle m sm em hm, place-has same_node nowhere P ks K n m (omega arith) h, place-number same_node nowhere P ks K n m (omega arith) h, nat_tests, alike_same k, alike_twice k)

      leaf-slots : (k : ℕ) → Alike k (sides_at (N n) l.poly l.box) (slots_by ks n (4 * t) (4 * length ls + 4 * t) (across l.poly l.box) (upright l.poly l.box))
      unfolding sides_at slots_by
      leaf-slots k =
          let c = 4 * t in
          let m = 4 * length ls + 4 * t in
          let f = across l.poly l.box in
          let g = upright l.poly l.box in
          alike_both (side k c m (c + 1) 0 0 1 f (omega arith) (omega arith) (omega arith) (omega arith) (omega arith) (omega arith))
          (alike_both (side k (c + 3) (m + 1) (c + 2) 3 1 2 f (omega arith) (omega arith) (omega arith) (omega arith) (omega arith) (omega arith))
          (alike_both (side k c (m + 2) (c + 3) 0 2 3 g (omega arith) (omega arith) (omega arith) (omega arith) (omega arith) (omega arith))
          (side k (c + 1) (m + 3) (c + 2) 1 3 2 g (omega arith) (omega arith) (omega arith) (omega arith) (omega arith) (omega arith))))

      leaf-patch : patch_at (N n) l.poly l.box ≡ patch_by ks (4 * t) l.poly.sheet
      leaf-patch = grind (arith, number-is (4 * t) 0, number-is (4 * t + 1) 1, number-is (4 * t + 2) 2, number-is (4 * t + 3) 3)

  -- ---- the leaves of one polygon, up to the leaf u

  module _ (k u : ℕ) (p : Poly) (rest : List Leaf) where
    -- the first of these leaves, and the others
    first : (t : ℕ) (r : Box) (rs : List Box) → drop t ls ≡ leaf k p r ∷ (map (leaf k p) rs ++ rest) → t + suc (length rs) ≡ u
        → (t < length ls) × (u ≤ length ls) × (leaf_at ls t ≡ leaf k p r) × (drop (suc t) ls ≡ map (leaf k p) rs ++ rest)
    first t r rs e q =
        grind (arith, length-append (map (leaf k p) rs) rest, length-map rs (leaf k p), ap length e, length-drop t ls, drop-cons ls t no_leaf)

    row-slots : (up : ℕ → ℕ) → up k ≡ u
        → (t : ℕ) (rs : List Box) → drop t ls ≡ map (leaf k p) rs ++ rest → t + length rs ≡ u
        → (l : List Part) → weld same_part l (map (part k) (flat_map (sides_at (N (4 * u)) p) rs) ++ flat_slots ks (length ls) up u rest) ≡ weld same_part l (flat_slots ks (length ls) up t (map (leaf k p) rs ++ rest))
    unfolding flat_slots
    row-slots up x t [] e q l = let z : t ≡ u = omega arith in rw z
    row-slots up x t (r ∷ rs) e q l =
        let f = first t r rs e q in
        let h = f.0 in
        let g = f.1 in
        rw (x, map-append, append_assoc)
        (weld-both l _ _ _ _ (leaf-slots t (leaf k p r) f.2 h (4 * u) (omega arith) (omega arith) k).by (row-slots up x (suc t) rs f.3 (omega arith)))

    row-patches : (more : List NetCell) → more ≡ flat_patches ks u rest → (t : ℕ) (rs : List Box) → drop t ls ≡ map (leaf k p) rs ++ rest → t + length rs ≡ u
        → map (patch_at (N (4 * u)) p) rs ++ more ≡ flat_patches ks t (map (leaf k p) rs ++ rest)
    unfolding flat_patches
    row-patches more a t [] e q = grind arith
    row-patches more a t (r ∷ rs) e q = let f = first t r rs e q in grind (arith, f, leaf-patch t (leaf k p r) f.2 f.0 (4 * u), row-patches more a (suc t) rs f.3)

  -- ---- all polygons

  -- the corners of the leaves so far are so many places
  so-far : (done rest : List Leaf) → ls ≡ done ++ rest → N (4 * length done) ≡ weld same_node [] (flat_map corners_in done)
  unfolding flat_places
  so-far done rest e = ap (weld same_node []) (rw (e, flat_map-append, append_assoc) (take_at (flat_map corners_in done) _ (4 * length done) (each-length corners_in (λ l. refl) done)))

  -- the polygons qs, the first of which has the index k, behind t leaves
  record Made (n : List MeshNode) (t : ℕ) (qs : List Piece) (k : ℕ) : Type 0 where
    nodes : nodes_from n qs ≡ N (4 * length ls)
    cells : patches_from n qs ≡ flat_patches ks t (leaves_from qs k)
    edges : (up : ℕ → ℕ) → Upto up t qs k → (l : List Part) → All (λ (p : Part). p.piece < k) l → map edge_of (weld same_part l (flat_slots ks (length ls) up t (leaves_from qs k))) ≡ map edge_of l ++ edges_from n qs

  made : (done : List Leaf) (qs : List Piece) (k : ℕ) → ls ≡ done ++ leaves_from qs k → Made (N (4 * length done)) (length done) qs k
  unfolding nodes_from patches_from edges_from edges_of leaves_from flat_patches flat_slots Upto corners_of
  made done [] k e = record { nodes = ap (λ (z : List Leaf). N (4 * length z)) (sym (e ∙ append-nil done)); cells = refl; edges = λ up u l a. cc (weld-nil same_part l, append-nil (map edge_of l)) }
  made done (q ∷ qs) k e =
      let here = map (leaf k q.poly) q.leaves in
      let rest = leaves_from qs (suc k) in
      let e' : ls ≡ (done ++ here) ++ rest = e ∙ sym (append_assoc done here rest) in
      let r = made (done ++ here) qs (suc k) e' in
      let u : length done + length q.leaves ≡ length (done ++ here) = omega (arith, length-append done here, length-map q.leaves (leaf k q.poly)) in
      let d : drop (length done) ls ≡ here ++ rest = ap (drop (length done)) e ∙ drop_at done (here ++ rest) (length done) refl in
      let n : weld same_node (N (4 * length done)) (flat_map (corners_at q.poly) q.leaves) ≡ N (4 * length (done ++ here)) =
      cc (so-far done (here ++ rest) e, so-far (done ++ here) rest e', weld-append same_node [] (flat_map corners_in done) (flat_map (corners_at q.poly) q.leaves), flat_map-append corners_in done here, each_map corners_in (leaf k q.poly) q.leaves) in
      record {
        nodes = rw n r.nodes;
        cells = rw n (row-patches k (length (done ++ here)) q.poly rest _ r.cells (length done) q.leaves d u);
        edges = λ up U l a.
            (let parts = flat_map (sides_at (N (4 * length (done ++ here))) q.poly) q.leaves in
            let once = weld same_pair [] parts in
            let own = map (part k) once in
            let later = all_append (λ (p : Part). p.piece < suc k) l own (all-by (λ (p : Part). p.piece < k) (λ (p : Part). p.piece < suc k) l (λ p h. omega arith) a) (all_map (λ (p : Part). p.piece < suc k) (part k) once (λ e. omega arith)) in
            let slots = row-slots k (length (done ++ here)) q.poly rest up (U.0 ∙ u) (length done) q.leaves d u l in
            let others = r.edges up (subst (λ (z : ℕ). Upto up z qs (suc k)) u U.1) (l ++ own) later in
            rw n (cc (weld-append same_part l (map (part k) parts) (flat_slots ks (length ls) up (length (done ++ here)) rest), parts-own k l parts a, map-append edge_of l own, map_back k once, append_assoc (map edge_of l) once (edges_from (N (4 * length (done ++ here))) qs))));
      }

-- ---- what the code computes

-- the nodes, the cells and the edges, by the keys of the places and of the slots
module _ (qs : List Piece) (ks : List ℕ) (K : Keyed same_node nowhere (flat_places (leaves_from qs 0)) ks) where
  abbrev leaves : List Leaf
  leaves = leaves_from qs 0

  all : Made leaves ks K [] 0 qs 0
  all = subst (λ (n : List MeshNode). Made leaves ks K n 0 qs 0) (weld-nil same_node []) (made leaves ks K [] qs 0 refl)

  pub flat-nodes : nodes_from [] qs ≡ map (nth (flat_places leaves)) (news ks (4 * length leaves))
  flat-nodes = all.nodes ∙ welded same_node nowhere (flat_places leaves) ks K (4 * length leaves) (omega (arith, places-length leaves ks K))

  pub flat-cells : patches_from [] qs ≡ flat_patches ks 0 leaves
  flat-cells = all.cells

  module _ (up : ℕ → ℕ) (u : Upto up 0 qs 0) where
    abbrev slots : List Part
    slots = flat_slots ks (length leaves) up 0 leaves

    pub flat-edges : edges_from [] qs ≡ map edge_of (weld same_part [] slots)
    flat-edges = sym (all.edges up u [] (all_nil (λ (p : Part). p.piece < 0)))
