-- The ends of links are nodes, a via's of its layers and its component. Assumes nothing.
use Rattle.std.proofs.Common.{◌≡◌, sym, subst, Bool, true, false, cond, Option, None, Some, List, [], ◌∷◌, map, filter, ℕ, zero, suc, ◌<◌, arith, length, get_or, ℤ, Float, slice_get}
use Rattle.std.specs.Prelude.{fold, option_to_list, option_and_then, slice_index_or}
use Rattle.std.specs.List.{range_with_len}
use Rattle.std.specs.Float.Ieee as Ieee
use Rattle.std.proofs.lemmas.Bool.Decides.{nat_tests}
use Rattle.std.proofs.lemmas.List.{length-map}
use Rattle.std.specs.List.{Contains}
use Rattle.std.proofs.lemmas.List.Elements.{All-filter, filter_passes, All-contains_itself}
use Rattle.std.proofs.lemmas.List.FromFn.{length-range_with_len, get_or-range_with_len}
use Rattle.net_rows.specs.declared.rows.Node.{Node}
use Rattle.net_rows.specs.Nodes.{in_ticks}
use Rattle.net_rows.specs.Nets.{nth_node}
use Rattle.net.specs.Net.{Edge, Piece, Ends, same_node, number, corners_of, nodes_from, edges_from, bare}
use Rattle.net.proofs.All.{All, In, all_append, all-by, all-map-by, all-each, all_nil, all-at, all-each-back, weld-has}
use Rattle.net.proofs.Leaves.{all-of}
use Rattle.net.proofs.Pieces.{all_corners, nodes-weld}
use Rattle.net.proofs.Sound.{node-self, edges-ends}
use Rattle.links.specs.declared.rows.Contact.{Contact}
use Rattle.links.specs.declared.rows.Footprint.{Footprint}
use Rattle.links.specs.declared.rows.Via.{Via}
use Rattle.links.specs.declared.rows.Channel.{Channel}
use Rattle.links.specs.declared.rows.Links.{Links}
use Rattle.links.specs.Made.{is_of, nodes_of, corner_lists, distance, lead, nearest, edge, joined, contact_links, covers, has_area, inside, or_nearest, side_of, pairs, via_links, channel_links, links_of, links_on, linked}
use Rattle.links.specs.Laws.{AreNodes, ListsHoldNodes, LinksJoinNodes, LinkedEdgesJoinNodes, IsNodeOf, JoinsPolygons, JoinsLayers, JoinsTerminals, ContactsJoinTheirPolygons, ViasJoinTheirLayers, ChannelsJoinTheirTerminals}

-- ---- what holds of each number in a list holds of those that are chosen from it

module _ (P : ℕ → Type 0) where
  all-filter : (test : ℕ → Bool) (is : List ℕ) → All P is → All P (filter test is)
  all-filter test is p = all-of P (filter test is) (All-filter test P is (λ k d h. all-at P d is k p h))

  module _ (nodes : List Node) where
    lead-kept : (x y : ℤ) (best i : ℕ) → P best → P i → P (lead nodes x y best i)
    lead-kept x y best i p q = by (Ieee.lt (distance x y (nth_node nodes i)) (distance x y (nth_node nodes best)))
      where
        by : (b : Bool) → P (cond b i best)
        by true = q
        by false = p

    fold-kept : (x y : ℤ) (best : ℕ) (is : List ℕ) → P best → All P is → P (fold (lead nodes x y) best is)
    unfolding All
    fold-kept x y best [] p h = p
    fold-kept x y best (i ∷ is) p h = fold-kept x y (lead nodes x y best i) is (lead-kept x y best i p h.0) h.1

    pub nearest-kept : (x y : ℤ) (is : List ℕ) → All P is → All P (option_to_list (nearest nodes x y is))
    unfolding All nearest
    nearest-kept x y [] h = tt
    nearest-kept x y (i ∷ is) h = (fold-kept x y i is h.0 h.1, tt)

    inside-kept : (f : Footprint) (is : List ℕ) → All P is → All P (inside nodes f is)
    unfolding inside
    inside-kept f is h = by (has_area f)
      where
        by : (b : Bool) → All P (cond b (filter (λ i. covers f (nth_node nodes i)) is) [])
        by true = all-filter (λ i. covers f (nth_node nodes i)) is h
        by false = all_nil P

    or_nearest-kept : (f : Footprint) (is chosen : List ℕ) → All P is → All P chosen → All P (or_nearest nodes f is chosen)
    unfolding or_nearest
    or_nearest-kept f is [] h c = nearest-kept f.x f.y is h
    or_nearest-kept f is (i ∷ chosen) h c = c

    pub side-kept : (v : Via) (layer : ℕ) → All P (nodes_of nodes layer v.component) → All P (side_of nodes v layer)
    unfolding side_of
    side-kept v layer h =
        let is = nodes_of nodes layer v.component in
        or_nearest-kept v.footprint is (inside nodes v.footprint is) h (inside-kept v.footprint is h)

-- ---- what holds of the ends

module _ (P Q : ℕ → Type 0) where
  abbrev Both : Edge → Type 0
  Both e = P e.from × Q e.to

  pub pairs-ends : (g : Float) (bottom top : List ℕ) → All P bottom → All Q top → All Both (pairs g bottom top)
  unfolding All pairs
  pairs-ends g [] top p q = tt
  pairs-ends g (a ∷ bottom) top p q =
      all_append Both (map (edge g a) top) (pairs g bottom top) (all-map-by Q Both (edge g a) top (λ b r. (p.0, r)) q) (pairs-ends g bottom top p.1 q)

  pub joined-ends : (g : Float) (a b : Option ℕ) → All P (option_to_list a) → All Q (option_to_list b) → All Both (joined g a b)
  unfolding All joined
  joined-ends g None b p q = tt
  joined-ends g (Some a) None p q = tt
  joined-ends g (Some a) (Some b) p q = ((p.0, q.0), tt)

first-kept : (P : ℕ → Type 0) (is : List ℕ) → All P is → All P (option_to_list (slice_get is 0))
unfolding All
first-kept P [] h = tt
first-kept P (i ∷ is) h = (h.0, tt)

-- of a contact, by what holds of the two polygons' nodes
contact-both : (P Q : ℕ → Type 0) (nodes : List Node) (lists : List (List ℕ)) (c : Contact) → All P (slice_index_or lists c.from []) → All Q (slice_index_or lists c.to [])
    → All (Both P Q) (contact_links nodes lists c)
unfolding All contact_links
contact-both P Q nodes lists c p q =
    let from = slice_get (slice_index_or lists c.from []) 0 in
    joined-ends P Q _ from _ (first-kept P (slice_index_or lists c.from []) p) (to from)
  where
    to : (from : Option ℕ) → All Q (option_to_list (option_and_then (λ a. nearest nodes (nth_node nodes a).x (nth_node nodes a).y (slice_index_or lists c.to [])) from))
    to None = tt
    to (Some a) = nearest-kept Q nodes (nth_node nodes a).x (nth_node nodes a).y (slice_index_or lists c.to []) q

-- ---- the nodes of a layer and component

is-of-layer : (l c : ℕ) (n : Node) → is_of l c n ≡ true → n.layer ≡ l
is-of-layer l c n e = grind (arith, nat_tests)

is-of-component : (l c : ℕ) (n : Node) → is_of l c n ≡ true → n.component ≡ c
is-of-component l c n e = grind (arith, nat_tests)

range-below : (n k d : ℕ) → k < length (range_with_len 0 n) → get_or (range_with_len 0 n) k d < n
range-below n k d h = grind (arith, length-range_with_len 0 n, get_or-range_with_len 0 n k d)

pub class-nodes : (nodes : List Node) (l c : ℕ) → All (IsNodeOf nodes l c) (nodes_of nodes l c)
unfolding nodes_of
class-nodes nodes l c =
    let test : ℕ → Bool = λ i. is_of l c (nth_node nodes i) in
    let numbers = range_with_len 0 (length nodes) in
    all-of (IsNodeOf nodes l c) (filter test numbers)
    (λ k d h.
    let passes = filter_passes test numbers k d h in
    let n = nth_node nodes (get_or (filter test numbers) k d) in
    record {
      there = All-filter test (λ i. i < length nodes) numbers (range-below (length nodes)) k d h;
      layer = is-of-layer l c n passes;
      component = is-of-component l c n passes;
    })

-- ---- the links

module _ (nodes : List Node) where
  abbrev Known : ℕ → Type 0
  Known i = i < length nodes

  class-known : (layer component : ℕ) → All Known (nodes_of nodes layer component)
  class-known layer component = all-by (IsNodeOf nodes layer component) Known (nodes_of nodes layer component) (λ i n. n.there) (class-nodes nodes layer component)

  ends-known : (es : List Edge) → All (Both Known Known) es → All (Ends (length nodes)) es
  ends-known es h = all-by (Both Known Known) (Ends (length nodes)) es (λ e k. record { from = k.0; to = k.1 }) h

  list-known : (lists : List (List ℕ)) (k : ℕ) → All (All Known) lists → All Known (slice_index_or lists k [])
  unfolding All
  list-known [] k h = tt
  list-known (is ∷ lists) zero h = h.0
  list-known (is ∷ lists) (suc k) h = list-known lists k h.1

  contact-ends : (lists : List (List ℕ)) (c : Contact) → All (All Known) lists → All (Ends (length nodes)) (contact_links nodes lists c)
  contact-ends lists c h = ends-known _ (contact-both Known Known nodes lists c (list-known lists c.from h) (list-known lists c.to h))

  via-ends : (v : Via) → All (Ends (length nodes)) (via_links nodes v)
  unfolding via_links
  via-ends v = ends-known _ (pairs-ends Known Known _ (side_of nodes v v.bottom) (side_of nodes v v.top) (side-kept Known nodes v v.bottom (class-known v.bottom v.component)) (side-kept Known nodes v v.top (class-known v.top v.component)))

  channel-ends : (layer : ℕ) (c : Channel) → All (Ends (length nodes)) (channel_links nodes layer c)
  unfolding channel_links
  channel-ends layer c =
      ends-known _ (joined-ends Known Known _ _ _ (nearest-kept Known nodes c.drain.x c.drain.y (nodes_of nodes layer c.drain.component) (class-known layer c.drain.component)) (nearest-kept Known nodes c.source.x c.source.y (nodes_of nodes layer c.source.component) (class-known layer c.source.component)))

  pub links-ends : (lists : List (List ℕ)) (l : Links) → All (All Known) lists → All (Ends (length nodes)) (links_of nodes lists l)
  unfolding links_of
  links-ends lists l h =
      let E = Ends (length nodes) in
      all_append E _ _ (all-each E (contact_links nodes lists) l.contacts.now (λ c. contact-ends lists c h))
      (all_append E _ _ (all-each E (via_links nodes) l.vias.now via-ends) (all-each E (channel_links nodes l.channel_layer) l.channels.now (channel-ends l.channel_layer)))

-- ---- the lists of the polygons

pub lists-known : (qs : List Piece) → All (All (λ (i : ℕ). i < length (bare qs).nodes)) (corner_lists (bare qs).nodes qs)
unfolding corner_lists bare
lists-known qs =
    let n = nodes_from [] qs in
    let K : ℕ → Type 0 = λ i. i < length n in
    let corners : All (In same_node n) (all_corners qs) = rw (nodes-weld [] qs) (weld-has same_node node-self [] (all_corners qs)) in
    all-map-by (λ (q : Piece). All (In same_node n) (corners_of q)) (All K) (λ q. map (number n) (corners_of q)) qs
    (λ q h. all-map-by (In same_node n) K (number n) (corners_of q) (λ m i. i) h) (all-each-back (In same_node n) corners_of qs corners)

pub linked-ends : (qs : List Piece) (l : Links) → All (Ends (length (linked qs l).nodes)) (linked qs l).edges
unfolding linked bare
linked-ends qs l =
    let n = nodes_from [] qs in
    let count = length-map n in_ticks in
    all_append (Ends (length n)) (edges_from [] qs) (links_on qs l) (edges-ends [] qs)
    (subst (λ (k : ℕ). All (Ends k) (links_on qs l)) count
    (links-ends (map in_ticks n) (corner_lists n qs) l (subst (λ (k : ℕ). All (All (λ (i : ℕ). i < k)) (corner_lists n qs)) (sym count) (lists-known qs))))

-- ---- the laws that src/laws.rt promises

pub lists-nodes : ListsHoldNodes
lists-nodes qs k d h =
    let K : ℕ → Type 0 = λ i. i < length (bare qs).nodes in
    let lists = corner_lists (bare qs).nodes qs in
    λ j e g. all-at K e (get_or lists k d) j (all-at (All K) d lists k (lists-known qs) h) g

pub links-nodes : LinksJoinNodes
links-nodes nodes lists l h k d g =
    let K : ℕ → Type 0 = λ i. i < length nodes in
    all-at (Ends (length nodes)) d (links_of nodes lists l) k
    (links-ends nodes lists l (all-by (AreNodes (length nodes)) (All K) lists (λ is a. all-of K is a) (all-of (AreNodes (length nodes)) lists h))) g

pub linked-nodes : LinkedEdgesJoinNodes
linked-nodes qs l k d h = all-at (Ends (length (linked qs l).nodes)) d (linked qs l).edges k (linked-ends qs l) h

pub contact-polygons : ContactsJoinTheirPolygons
contact-polygons nodes lists c k d h =
    let from = slice_index_or lists c.from [] in
    let to = slice_index_or lists c.to [] in
    all-at (JoinsPolygons lists c) d (contact_links nodes lists c) k
    (all-by (Both (Contains from) (Contains to)) (JoinsPolygons lists c) (contact_links nodes lists c) (λ e b. record { from = b.0; to = b.1 })
    (contact-both (Contains from) (Contains to) nodes lists c (all-of (Contains from) from (All-contains_itself from)) (all-of (Contains to) to (All-contains_itself to)))) h

pub channel-terminals : ChannelsJoinTheirTerminals
unfolding channel_links
channel-terminals nodes layer c k d h =
    let D = IsNodeOf nodes layer c.drain.component in
    let S = IsNodeOf nodes layer c.source.component in
    all-at (JoinsTerminals nodes layer c) d (channel_links nodes layer c) k
    (all-by (Both D S) (JoinsTerminals nodes layer c) (channel_links nodes layer c) (λ e b. record { drain = b.0; source = b.1 })
    (joined-ends D S _ _ _ (nearest-kept D nodes c.drain.x c.drain.y (nodes_of nodes layer c.drain.component) (class-nodes nodes layer c.drain.component))
    (nearest-kept S nodes c.source.x c.source.y (nodes_of nodes layer c.source.component) (class-nodes nodes layer c.source.component)))) h

pub via-layers : ViasJoinTheirLayers
unfolding via_links
via-layers nodes v k d h =
    let B = IsNodeOf nodes v.bottom v.component in
    let T = IsNodeOf nodes v.top v.component in
    all-at (JoinsLayers nodes v) d (via_links nodes v) k
    (all-by (Both B T) (JoinsLayers nodes v) (via_links nodes v) (λ e b. record { bottom = b.0; top = b.1 })
    (pairs-ends B T _ (side_of nodes v v.bottom) (side_of nodes v v.top) (side-kept B nodes v v.bottom (class-nodes nodes v.bottom v.component)) (side-kept T nodes v v.top (class-nodes nodes v.top v.component)))) h

pub ruleset ends = (lists-nodes, links-nodes, linked-nodes, contact-polygons, via-layers, channel-terminals)
