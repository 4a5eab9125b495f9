-- In the rules' ranges each link's conductance is finite and above 0, and so is that of every edge of a net with links. Assumes nothing.
use Rattle.std.proofs.Common.{◌≡◌, refl, Bool, true, false, T, Some, None, Option, List, [], ◌∷◌, map, filter, ℕ, ◌*◌, ◌<◌, ◌≤◌, arith, length, le_trans, mul-pos, zero-lt-suc, Float, ℤ, rules, ◌&&◌}
use Rattle.std.specs.Prelude.{option_to_list, slice_index_or}
use Rattle.std.specs.List.{range_with_len, list_all}
use lib.Ieee.{binary64, round, mul, div, of_int, of_bits, le}
use lib.Ieee.Positive.{positive}
use Rattle.std.proofs.Math.Nat.{mul-le-mul}
use Rattle.std.proofs.lemmas.Bool.{false≢true}
use Rattle.std.proofs.lemmas.Float.{T_from_true}
use Rattle.std.proofs.lemmas.List.{length-map, map-append}
use Rattle.std.proofs.lemmas.List.FromFn.{length-range_with_len}
use Rattle.std.proofs.lemmas.List.Sums.{AllPass-from_list_all}
use Rattle.cell.specs.Boxes.{Box, HasArea}
use Rattle.table.specs.Mesh.{Cell}
use Rattle.floats.specs.Fractions.{float, in_sheet, sheet_low, sheet_high}
use Rattle.floats.proofs.Ranges.{In, in-positive, num-in, div-in}
use Rattle.floats.proofs.Bounds.{sheet-in, low-positive, high-positive}
use Rattle.net_rows.specs.declared.rows.Node.{Node}
use Rattle.net_rows.specs.Nodes.{in_ticks}
use Rattle.net_rows.specs.Nets.{nth_node}
use Rattle.net.specs.Net.{Poly, Piece, MeshNode, NetCell, Edge, One, ◌÷◌, face, distance, is_side, pieces, nodes_from, edges_from, patches_from, weighed, bare, weigh, network, Cornered}
use Rattle.net.specs.Laws.{IsWithin, widest, IsPositive}
use Rattle.net.proofs.All.{All, all_append, all-by, all-each, all-each-by, all_map, all-at, all_both}
use Rattle.net.proofs.Leaves.{all-of, leaves-pieces, polys-pieces, BoxWithin, nodes-within}
use Rattle.net.proofs.Sound.{patches-cornered}
use Rattle.net.proofs.Every.{conducts, node-room}
use Rattle.net.proofs.Faces.{Within, face-low, distance-low, side-distance}
use Rattle.net.proofs.Conductances.{weighed-each, sheets-patches, sheet-found, positive-is, weight-positive}
use Rattle.links.specs.declared.rows.Contact.{Contact}
use Rattle.links.specs.declared.rows.Footprint.{Footprint}
use Rattle.links.specs.declared.rows.Via.{Via}
use Rattle.links.specs.declared.rows.Channel.{Channel}
use Rattle.links.specs.declared.rows.Links.{Links}
use Rattle.links.specs.declared.link.Link.TheVariants as Link
use Rattle.links.specs.Judged.{footprint_in_range, via_in_range, channel_in_range, links_in_range, in_resistance, terminal_in_range}
use Rattle.links.specs.Made.{conductance_of, is_of, nodes_of, corner_lists, covers, nearest, edge, joined, contact_links, inside, or_nearest, side_of, pairs, via_links, channel_links, links_of, links_on, linked, linked_network}
use Rattle.links.specs.Laws.{most_nodes, most_pairs, LinksConduct, LinkedEdgesConduct}

-- ---- finite and above 0, as a test and as two facts

abbrev Positive : Float → Type 0
Positive x = T (positive x)

-- ---- one link's conductance

-- the ends of the ranges, and what is made of them
pub record Bounds : Type 0 where
  pub one : Positive One
  pub least_whole : Positive (One ÷ sheet_high)
  pub most_whole : Positive (One ÷ sheet_low)
  pub one_pair : Positive (float 1)
  pub all_pairs : Positive (float most_pairs)
  pub least_share : Positive (One ÷ sheet_high ÷ float most_pairs)
  pub most_share : Positive (One ÷ sheet_low ÷ float 1)

pub bounds : Bounds
unfolding of_int of_bits round mul div
bounds = search rules

one-itself : In One One One
one-itself = record { from = unfold le of_bits in tt; to = unfold le of_bits in tt }

pub whole-in : (r : Float) → T (in_resistance r) → In (One ÷ sheet_high) (One ÷ sheet_low) (One ÷ r)
whole-in r t = div-in binary64 bounds.one bounds.one low-positive high-positive one-itself (sheet-in r t)

share-in : (r : Float) (k : ℕ) → T (in_resistance r) → 1 ≤ k → k ≤ most_pairs → In (One ÷ sheet_high ÷ float most_pairs) (One ÷ sheet_low ÷ float 1) (One ÷ r ÷ float k)
share-in r k t a b = div-in binary64 bounds.least_whole bounds.most_whole bounds.one_pair bounds.all_pairs (whole-in r t) (num-in k most_pairs a b)

pub whole-positive : (r : Float) → T (in_resistance r) → Positive (One ÷ r)
whole-positive r t = in-positive bounds.least_whole bounds.most_whole (whole-in r t)

pub share-positive : (r : Float) (k : ℕ) → T (in_resistance r) → 1 ≤ k → k ≤ most_pairs → Positive (One ÷ r ÷ float k)
share-positive r k t a b = in-positive bounds.least_share bounds.most_share (share-in r k t a b)

-- ---- how many pairs a via has

filter-few : {A : Type 0} (test : A → Bool) (l : List A) → length (filter test l) ≤ length l
filter-few test [] = omega arith
filter-few test (a ∷ l) = grind (arith, filter-few test l)

module _ (nodes : List Node) where
  inside-few : (f : Footprint) (is : List ℕ) → length (inside nodes f is) ≤ length is
  unfolding inside
  inside-few f is = grind (arith, filter-few (λ i. covers f (nth_node nodes i)) is)

  nearest-few : (x y : ℤ) (is : List ℕ) → length (option_to_list (nearest nodes x y is)) ≤ length is
  unfolding nearest
  nearest-few x y [] = omega arith
  nearest-few x y (i ∷ is) = omega arith

  or_nearest-few : (f : Footprint) (is chosen : List ℕ) → length chosen ≤ length is → length (or_nearest nodes f is chosen) ≤ length is
  unfolding or_nearest
  or_nearest-few f is [] h = nearest-few f.x f.y is
  or_nearest-few f is (i ∷ chosen) h = h

  nodes-few : (layer component : ℕ) → length (nodes_of nodes layer component) ≤ length nodes
  unfolding nodes_of
  nodes-few layer component =
      omega (arith, filter-few (λ i. is_of layer component (nth_node nodes i)) (range_with_len 0 (length nodes)), length-range_with_len 0 (length nodes))

  side-few : (v : Via) (layer : ℕ) → length (side_of nodes v layer) ≤ length nodes
  unfolding side_of
  side-few v layer =
      let is = nodes_of nodes layer v.component in
      le_trans (or_nearest-few v.footprint is (inside nodes v.footprint is) (inside-few v.footprint is)) (nodes-few layer v.component)

-- ---- the links

module _ (P : Float → Type 0) where
  abbrev Each : Edge → Type 0
  Each e = P e.conductance

  joined-each : (g : Float) (a b : Option ℕ) → P g → All Each (joined g a b)
  unfolding All joined
  joined-each g None b p = tt
  joined-each g (Some a) None p = tt
  joined-each g (Some a) (Some b) p = (p, tt)

  pairs-each : (g : Float) (bottom top : List ℕ) → (1 ≤ length bottom * length top → P g) → All Each (pairs g bottom top)
  unfolding All pairs
  pairs-each g [] top h = tt
  pairs-each g (a ∷ bottom) [] h = pairs-each g bottom [] (λ z. absurd (omega (arith, z)))
  pairs-each g (a ∷ bottom) (b ∷ top) h =
      let p = h (mul-pos (zero-lt-suc (length bottom)) (zero-lt-suc (length top))) in
      all-each Each (λ i. map (edge g i) (b ∷ top)) (a ∷ bottom) (λ i. all_map Each (edge g i) (b ∷ top) (λ j. p))

parts : (a b : Bool) → a && b ≡ true → (a ≡ true) × (b ≡ true)
parts true b e = (refl, e)
parts false b e = absurd (false≢true e)

module _ (nodes : List Node) (few : length nodes ≤ most_nodes) where
  via-positive : (v : Via) → T (in_resistance v.resistance) → All (Each Positive) (via_links nodes v)
  unfolding via_links conductance_of
  via-positive v t =
      let bottom = side_of nodes v v.bottom in
      let top = side_of nodes v v.top in
      pairs-each Positive (conductance_of (Link.Via v.resistance) (length bottom * length top)) bottom top
      (λ a. share-positive v.resistance (length bottom * length top) t a (mul-le-mul (le_trans (side-few nodes v v.bottom) few) (le_trans (side-few nodes v v.top) few)))

  contact-positive : (lists : List (List ℕ)) (c : Contact) → All (Each Positive) (contact_links nodes lists c)
  unfolding contact_links conductance_of
  contact-positive lists c = joined-each Positive One _ _ bounds.one

  channel-positive : (layer : ℕ) (c : Channel) → T (in_resistance c.resistance) → All (Each Positive) (channel_links nodes layer c)
  unfolding channel_links conductance_of
  channel-positive layer c t = joined-each Positive (One ÷ c.resistance) _ _ (whole-positive c.resistance t)

  pub links-positive : (lists : List (List ℕ)) (l : Links) → links_in_range l ≡ true → All (Each Positive) (links_of nodes lists l)
  unfolding links_of links_in_range
  links-positive lists l t =
      let both = parts (list_all via_in_range l.vias.now) (list_all channel_in_range l.channels.now) t in
      let vias = AllPass-from_list_all via_in_range l.vias.now both.0 in
      let channels = AllPass-from_list_all channel_in_range l.channels.now both.1 in
      all_append (Each Positive) _ _ (all-each (Each Positive) (contact_links nodes lists) l.contacts.now (contact-positive lists))
      (all_append (Each Positive) _ _
      (all-each-by (λ v. via_in_range v ≡ true) (Each Positive) (via_links nodes) l.vias.now
      (λ v e. via-positive v (T_from_true _ (parts (footprint_in_range v.footprint) (in_resistance v.resistance) e).1))
      (all-of (λ (v : Via). via_in_range v ≡ true) l.vias.now vias))
      (all-each-by (λ c. channel_in_range c ≡ true) (Each Positive) (channel_links nodes l.channel_layer) l.channels.now
      (λ c e. channel-positive l.channel_layer c (T_from_true _ (parts (terminal_in_range c.drain && terminal_in_range c.source) (in_resistance c.resistance) e).1))
      (all-of (λ (c : Channel). channel_in_range c ≡ true) l.channels.now channels)))

-- ---- the weights

-- any edges that conduct still do once they are weighed
weighed-positive : (n : List MeshNode) (cs : List NetCell) (es : List Edge) → All (Within widest) n → All (Cornered n) cs → All (λ (c : NetCell). T (in_sheet c.sheet)) cs
    → All (Each Positive) es → All (Each Positive) (map (weighed n cs) es)
weighed-positive n cs es low cornered sheets =
    weighed-each Positive n cs es
    (λ e s o f.
    let S : Float → Type 0 = λ x. T (in_sheet x) × (0 < distance n e) in
    let found = sheet-found S cs e.from e.to s
    (all-by (λ (c : NetCell). T (in_sheet c.sheet) × Cornered n c) (λ (c : NetCell). is_side c e.from e.to ≡ true → S c.sheet) cs (λ c a t. (a.0, side-distance n c e a.1 t))
    (all_both (λ (c : NetCell). T (in_sheet c.sheet)) (Cornered n) cs sheets cornered)) o in
    weight-positive s (face n cs e) (distance n e) found.0 f (face-low widest n low cs e) found.1 (distance-low widest n low e))

pub links-conduct : LinksConduct
links-conduct nodes lists l few t k d h =
    positive-is (slice_index_or (links_of nodes lists l) k d).conductance
    (all-at (Each Positive) d (links_of nodes lists l) k (links-positive nodes few lists l t) h)

pub linked-conduct : LinkedEdgesConduct
unfolding linked_network linked network weigh bare
linked-conduct t ps l few within sheets range k d h = all-at (λ (e : Edge). IsPositive e.conductance) d (linked_network t ps l).edges k edges h
  where
    qs : List Piece
    qs = pieces t ps 0

    leaves : All (λ (q : Piece). All (IsWithin widest) q.leaves) qs
    leaves = leaves-pieces (IsWithin widest) t ps 0 (all-of (λ (c : Cell). c.kids ≡ None → IsWithin widest c.box) t within)

    of-leaves : (P : Box → Type 0) → ((r : Box) → IsWithin widest r → P r) → All (λ (q : Piece). All P q.leaves) qs
    of-leaves P f = all-by (λ (q : Piece). All (IsWithin widest) q.leaves) (λ (q : Piece). All P q.leaves) qs (λ q a. all-by (IsWithin widest) P q.leaves f a) leaves

    polys : All (λ (p : Poly). T (in_sheet p.sheet)) ps
    polys = all-of (λ (p : Poly). T (in_sheet p.sheet)) ps (λ i p q. T_from_true _ (sheets i p q))

    n : List MeshNode
    n = nodes_from [] qs

    weighed-links : All (Each Positive) (map (weighed n (patches_from [] qs)) (links_on qs l))
    weighed-links =
        weighed-positive n (patches_from [] qs) (links_on qs l) (nodes-within widest qs (of-leaves (BoxWithin widest) (λ r w. (omega arith, omega arith, w.east, w.north))))
        (patches-cornered [] qs (of-leaves HasArea (λ r w. w.area)))
        (sheets-patches (λ x. T (in_sheet x)) [] qs (polys-pieces (λ (p : Poly). T (in_sheet p.sheet)) t ps 0 polys))
        (links-positive (map in_ticks n) (omega (arith, length-map n in_ticks, node-room t ps)) (corner_lists n qs) l range)

    edges : All (λ (e : Edge). IsPositive e.conductance) (linked_network t ps l).edges
    edges =
        rw (map-append (weighed n (patches_from [] qs)) (edges_from [] qs) (links_on qs l))
        (all_append (λ (e : Edge). IsPositive e.conductance) (network t ps).edges _ (conducts t ps within polys)
        (all-by (Each Positive) (λ (e : Edge). IsPositive e.conductance) _ (λ e p. positive-is e.conductance p) weighed-links))
