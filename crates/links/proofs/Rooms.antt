-- The links of a net, counted by the corners of the leaves. Assumes nothing.
use Rattle.std.proofs.lemmas.Bool.Decides.{nat_tests}
use Rattle.std.proofs.Common.{◌≡◌, refl, sym, ap, ap₂, ◌∙◌, Bool, true, false, cond, ◌&&◌, List, [], ◌∷◌, ◌++◌, map, filter, ℕ, zero, suc, ◌+◌, ◌*◌, max, arith, add-one, add-zero, zero-add, ltb, length, length-append, Float}
use Rattle.std.specs.Prelude.{slice_index_or}
use Rattle.std.specs.List.{list_any, range_with_len, flat_map, sum_by}
use Rattle.std.proofs.lemmas.List.{length-map}
use Rattle.std.proofs.lemmas.List.Concat.{length-flat_map}
use Rattle.std.proofs.lemmas.List.FromFn.{length-map-range_with_len}
use Rattle.cell.specs.Boxes.{Box}
use Rattle.table.specs.Mesh.{Cell}
use Rattle.table.specs.Tables.{cells}
use Rattle.table.specs.declared.view.Table.{Table}
use Rattle.net_rows.specs.declared.rows.Polygons.{Polygons}
use Rattle.net.specs.Net.{Poly, MeshNode, Piece, same_node, number, corners_at, corners_of, leaves_of, pieces, bare}
use Rattle.net.proofs.Leaves.{leaves_of-cons}
use Rattle.net.proofs.Pieces.{all_corners}
use Rattle.net.proofs.Weld.{weld-nil, weld-new}
use Rattle.net.proofs.All.{weld-more}
use Rattle.places.specs.Leaves.{AreKnown, poly_at, polys_of}
use Rattle.links.specs.declared.rows.Contact.{Contact}
use Rattle.links.specs.declared.rows.Via.{Via}
use Rattle.links.specs.declared.rows.Channel.{Channel}
use Rattle.links.specs.declared.rows.Links.{Links}
use Rattle.links.specs.Made.{nodes_of, corner_lists, contact_links, has_area, inside, side_of, via_links, channel_links, links_of, links_on}
use Rattle.links.specs.Count.{edge_room, edge_count, has_leaf, has_class, inside_below, one_if, covered_count, side_count, via_count, contact_count, channel_count}
use Rattle.links.proofs.Different.{different, has-nil}
use Rattle.links.proofs.Sizes.{made, is_in, is_covered, class-size, inside-size, some, contact-size, channel-size, via-size, side-size}
use Rattle.links.proofs.Marks.{any-alike, no-leaf}
use Rattle.links.proofs.Corners.{pieces-any, different-by_id}

-- ---- lists

some-different : {A : Type 0} (same : A → A → Bool) (l : List A) → ltb 0 (different same l) ≡ some l
unfolding different
some-different same [] = ap (λ (l : List _). ltb 0 (length l)) (weld-nil same [])
some-different same (a ∷ l) =
    let more = weld-more same (a ∷ []) l in
    ap (λ (l : List _). ltb 0 (length l)) (weld-new same [] a l (has-nil same a) ∙ more.1) ∙ grind (arith, nat_tests, length-append (a ∷ []) more.0)

some-filter : {A : Type 0} (p : A → Bool) (l : List A) → some (filter p l) ≡ list_any p l
some-filter p [] = refl
some-filter p (a ∷ l) = grind (arith, nat_tests, some-filter p l)

same-sum : {A : Type 0} (f g : A → ℕ) (l : List A) → ((a : A) → f a ≡ g a) → sum_by f l ≡ sum_by g l
same-sum f g l h = λ i. sum_by (λ a. h a i) l

some-leaf : (cs : List Cell) (k : ℕ) → some (leaves_of cs k) ≡ has_leaf cs k
unfolding has_leaf
some-leaf [] k = unfold leaves_of in refl
some-leaf (c ∷ cs) k = grind (arith, nat_tests, leaves_of-cons c cs k, some-leaf cs k)

some-corners : (p : Poly) (rs : List Box) → some (flat_map (corners_at p) rs) ≡ some rs
some-corners p [] = refl
some-corners p (r ∷ rs) = grind (arith, nat_tests)

-- ---- of the pieces, whatever their sheet resistances are

module _ (cs : List Cell) (ps : Polygons) (sheets : List Float) where
  corners-alike : (a n : ℕ) → all_corners (pieces cs (map (poly_at ps sheets) (range_with_len a n)) a) ≡ all_corners (pieces cs (map (poly_at ps []) (range_with_len a n)) a)
  unfolding pieces corners_of
  corners-alike a zero = refl
  corners-alike a (suc n) =
      let rest = λ (s : List Float) (j : ℕ). all_corners (pieces cs (map (poly_at ps s) (range_with_len (a + 1) n)) j) in
      ap (λ (l : List MeshNode). flat_map (corners_at (poly_at ps [] a)) (leaves_of cs a) ++ l)
      (ap (rest sheets) (sym (add-one a)) ∙ (corners-alike (a + 1) n ∙ ap (rest []) (add-one a)))

  abbrev qs : List Piece
  qs = pieces cs (polys_of ps sheets) 0

  -- a polygon's list is not empty where the polygon has a leaf
  some-list : (n : List MeshNode) (rs : List Poly) (j k : ℕ) → some (slice_index_or (corner_lists n (pieces cs rs j)) k []) ≡ (ltb k (length rs) && has_leaf cs (j + k))
  unfolding pieces corner_lists corners_of
  some-list n [] j k = grind (arith, nat_tests)
  some-list n (r ∷ rs) j zero =
      ap (ltb 0) (length-map (flat_map (corners_at r) (leaves_of cs j)) (number n))
      ∙ (some-corners r (leaves_of cs j)
      ∙ (some-leaf cs j
      ∙ (ap (has_leaf cs) (sym (add-zero j)) ∙ grind (arith, nat_tests))))
  some-list n (r ∷ rs) j (suc k) =
      let e : suc j + k ≡ j + suc k = omega arith in
      some-list n rs (suc j) k ∙ (ap (λ (i : ℕ). ltb k (length rs) && has_leaf cs i) e ∙ grind (arith, nat_tests))

  module _ (known : AreKnown ps cs) where
    list-some : (k : ℕ) → some (slice_index_or (corner_lists (bare qs).nodes qs) k []) ≡ has_leaf cs k
    list-some k =
        let n = length-map-range_with_len (poly_at ps sheets) 0 (length ps.layers.now) in
        some-list (bare qs).nodes (polys_of ps sheets) 0 k
        ∙ (ap (λ (i : ℕ). ltb k (length (polys_of ps sheets)) && has_leaf cs i) (zero-add k)
        ∙ grind (arith, nat_tests, no-leaf cs ps known k))

    class-some : (layer component : ℕ) → some (nodes_of (made qs) layer component) ≡ has_class cs ps layer component
    unfolding has_class
    class-some layer component =
        ap (ltb 0) (class-size qs layer component)
        ∙ (some-different same_node (filter (is_in qs layer component) (all_corners qs))
        ∙ (some-filter (is_in qs layer component) (all_corners qs)
        ∙ (ap (list_any (is_in qs layer component)) (corners-alike 0 (length ps.layers.now))
        ∙ (pieces-any cs ps (is_in qs layer component) known
        ∙ any-alike _ _ cs (λ c. grind arith)))))

    covered-size : (v : Via) (layer : ℕ) → length (inside (made qs) v.footprint (nodes_of (made qs) layer v.component)) ≡ covered_count cs ps v layer
    unfolding inside_below different inside
    covered-size v layer = by (has_area v.footprint) refl
      where
        by : (b : Bool) → has_area v.footprint ≡ b → length (inside (made qs) v.footprint (nodes_of (made qs) layer v.component)) ≡ cond b (inside_below cs ps v.footprint layer v.component (length cs)) 0
        by true e =
            let p = is_covered qs v.footprint layer v.component in
            inside-size qs v.footprint layer v.component e
            ∙ (ap (λ (l : List MeshNode). different same_node (filter p l)) (corners-alike 0 (length ps.layers.now))
            ∙ different-by_id cs ps known p)
        by false e = rw e refl

    side-is : (v : Via) (layer : ℕ) → length (side_of (made qs) v layer) ≡ side_count cs ps v layer
    side-is v layer = side-size (made qs) v layer ∙ ap₂ (λ (n : ℕ) (b : Bool). max n (one_if b)) (covered-size v layer) (class-some layer v.component)

    via-is : (v : Via) → length (via_links (made qs) v) ≡ via_count cs ps v
    via-is v = via-size (made qs) v ∙ ap₂ (λ (m n : ℕ). m * n) (side-is v v.bottom) (side-is v v.top)

    contact-is : (c : Contact) → length (contact_links (made qs) (corner_lists (bare qs).nodes qs) c) ≡ contact_count cs c
    contact-is c = contact-size (made qs) (corner_lists (bare qs).nodes qs) c ∙ ap₂ (λ (a b : Bool). one_if (a && b)) (list-some c.from) (list-some c.to)

    channel-is : (layer : ℕ) (c : Channel) → length (channel_links (made qs) layer c) ≡ channel_count cs ps layer c
    channel-is layer c = channel-size (made qs) layer c ∙ ap₂ (λ (a b : Bool). one_if (a && b)) (class-some layer c.drain.component) (class-some layer c.source.component)

    links-are : (l : Links) → length (links_on qs l) ≡ sum_by (contact_count cs) l.contacts.now + (sum_by (via_count cs ps) l.vias.now + sum_by (channel_count cs ps l.channel_layer) l.channels.now)
    unfolding links_of bare
    links-are l =
        let lists = corner_lists (bare qs).nodes qs in
        let contacts = flat_map (contact_links (made qs) lists) l.contacts.now in
        let vias = flat_map (via_links (made qs)) l.vias.now in
        let channels = flat_map (channel_links (made qs) l.channel_layer) l.channels.now in
        length-append contacts (vias ++ channels)
        ∙ ap₂ (λ (m n : ℕ). m + n)
        (length-flat_map (contact_links (made qs) lists) l.contacts.now ∙ same-sum _ _ l.contacts.now contact-is)
        (length-append vias channels
        ∙ ap₂ (λ (m n : ℕ). m + n)
        (length-flat_map (via_links (made qs)) l.vias.now ∙ same-sum _ _ l.vias.now via-is)
        (length-flat_map (channel_links (made qs) l.channel_layer) l.channels.now ∙ same-sum _ _ l.channels.now (channel-is l.channel_layer)))

pub room-is : (t : Table) (ps : Polygons) (sheets : List Float) (l : Links) → AreKnown ps (cells t) → edge_room t ps sheets l ≡ edge_count t ps l
unfolding edge_room edge_count
room-is t ps sheets l known = omega (arith, links-are (cells t) ps sheets known l)
