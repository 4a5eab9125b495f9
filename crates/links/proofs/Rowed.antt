-- The lists of a net's rows are those of its polygons, where each polygon's cells begin as its leaves do. Assumes nothing.
use Rattle.std.proofs.Common.{◌≡◌, ℕ, ◌+◌, ◌-◌, ◌<◌, ◌≤◌, Bool, true, false, cond, ◌&&◌, List, [], ◌∷◌, ◌++◌, ℤ, length, get_or, take, drop, map, flat_map, filter, refl, sym, ap, ap₂, ◌∙◌, ⊎_elim, arith, ne_eqb, slice_get, All, sum_by, Float}
use Rattle.std.specs.Prelude.{option_and_then}
use Rattle.std.specs.List.{range_with_len}
use Rattle.std.proofs.lemmas.Bool.{cases_lt}
use Rattle.std.proofs.lemmas.List.{get_or_past, take_all}
use Rattle.std.proofs.lemmas.List.Elements.{All-head, All-tail, All-map, All-get_or, All-from_get_or}
use Rattle.std.proofs.lemmas.List.FromFn.{length-map-range_with_len, get_or-map-range_with_len, length-range_with_len, get_or-range_with_len}
use Rattle.refusals.specs.Limits.{max_polygons}
use Rattle.table.specs.declared.Head.{Head}
use Rattle.table.specs.Slots.{cell_at}
use Rattle.table.specs.Mesh.{past}
use Rattle.table.specs.Rows.{cells_in}
use Rattle.table.specs.Leaves.{leaf_of, polygon_ids}
use Rattle.table.proofs.Cells.{length-table}
use Rattle.table.proofs.Stores.{on-range}
use Rattle.table.proofs.Tables.{polygon_read}
use Rattle.net_rows.specs.declared.rows.Node.{Node}
use Rattle.net_rows.specs.declared.rows.Polygons.{Polygons}
use Rattle.net_rows.specs.Nodes.{in_ticks}
use Rattle.net_rows.specs.Nets.{nth_node}
use Rattle.net_rows.specs.Facts.{IsSoundNode}
use Rattle.net.specs.Net.{MeshNode, NetCell, Edge, Poly, Piece, pieces, bare}
use Rattle.net.proofs.Leaves.{length-pieces}
use Rattle.net.proofs.Sound.{leaf_sum, patches-count}
use Rattle.places.specs.Leaves.{AreKnown, polys_of}
use Rattle.links.specs.declared.rows.Contact.{Contact}
use Rattle.links.specs.declared.rows.Links.{Links}
use Rattle.links.specs.declared.link.Link.TheVariants as Link
use Rattle.links.specs.Made.{joined, nearest, conductance_of, corner_lists, contact_links, via_links, channel_links, links_of, links_on}
use Rattle.links.specs.Rows.{corner_numbers, lists_by}
use Rattle.links.proofs.Begins.{begin, ended}
use Rattle.links.proofs.Lists.{polygon-list, no-list, before}

-- ---- nodes in ticks are in range
pub nodes-sound : (ns : List MeshNode) → All IsSoundNode (map in_ticks ns)
nodes-sound ns = All-map IsSoundNode in_ticks ns (λ k d h. record { x = on-range _; y = on-range _ })

-- ---- leaves are of polygons
none-pass : (f : ℕ → Bool) (l : List ℕ) → All (λ i. f i ≡ false) l → filter f l ≡ []
none-pass f [] h = refl
none-pass f (i ∷ l) h =
    ap (λ (b : Bool). cond b (i ∷ filter f l) (filter f l)) (All-head (λ i. f i ≡ false) i l h)
    ∙ none-pass f l (All-tail (λ i. f i ≡ false) i l h)

-- ---- a table and its polygons
module _ (row : List ℤ) (head : Head) (polygons : Polygons) (sheets : List Float) (known : AreKnown polygons (cells_in row head)) (few : length polygons.layers.now ≤ max_polygons) where
  abbrev count : ℕ
  count = head.count

  abbrev last : ℕ
  last = length polygons.layers.now

  abbrev ps : List Poly
  ps = polys_of polygons sheets

  abbrev pub qs : List Piece
  qs = pieces (cells_in row head) ps 0

  ps-long : length ps ≡ last
  ps-long = length-map-range_with_len _ 0 last

  other : (i p : ℕ) → i < count → last ≤ p → leaf_of row p i ≡ false
  unfolding leaf_of
  other i p h l =
      let n = length-table row count in
      let k = All-get_or (λ c. c.polygon < last) (cells_in row head) i past (omega arith) known in
      let e = polygon_read row count i h in
      off _ _ (ne_eqb (cell_at row i).poly p (λ (q : (cell_at row i).poly ≡ p). omega arith))
    where
      off : (a b : Bool) → b ≡ false → (a && b) ≡ false
      off true b e = e
      off false b e = refl

  own-none : (p : ℕ) → last ≤ p → length (polygon_ids row count p) ≡ 0
  unfolding polygon_ids
  own-none p h =
      ap length (none-pass (leaf_of row p) (range_with_len 0 count)
      (All-from_get_or (λ i. leaf_of row p i ≡ false) (range_with_len 0 count) 0 (λ k l.
      let n = length-range_with_len 0 count in
      let e = get_or-range_with_len 0 count k 0 (omega arith) in
      other (get_or (range_with_len 0 count) k 0) p (omega arith) h)))

  past-last : begin row count max_polygons ≡ begin row count last
  past-last =
      ap (begin row count) (let q : max_polygons ≡ last + (max_polygons - last) = omega arith in q)
      ∙ ended row count last own-none (max_polygons - last)

  -- as many cells as leaves
  pub cells-many : length (bare qs).cells ≡ begin row count max_polygons
  unfolding bare leaf_sum
  cells-many =
      let long = length-pieces (cells_in row head) ps 0 in
      let p = ps-long in
      patches-count [] qs
      ∙ (ap (sum_by (λ (q : Piece). length q.leaves)) (sym (take_all (length ps) qs (omega arith)))
      ∙ (before row count ps (length ps) (omega arith) ∙ (ap (begin row count) p ∙ sym past-last)))

  abbrev cells : List NetCell
  cells = (bare qs).cells

  list-at : (k : ℕ) → k < max_polygons → get_or (lists_by row count cells) k [] ≡ flat_map corner_numbers (take (length (polygon_ids row count k)) (drop (begin row count k) cells))
  unfolding lists_by
  list-at k h = get_or-map-range_with_len (λ p. flat_map corner_numbers (take (length (polygon_ids row count p)) (drop (begin row count p) cells))) 0 max_polygons k k [] h (omega arith)

  list-past : (k : ℕ) → max_polygons ≤ k → get_or (lists_by row count cells) k [] ≡ []
  unfolding lists_by
  list-past k h = get_or_past (lists_by row count cells) k [] (let n = length-map-range_with_len (λ p. flat_map corner_numbers (take (length (polygon_ids row count p)) (drop (begin row count p) cells))) 0 max_polygons in omega arith)

  lists-are : (k : ℕ) → get_or (lists_by row count cells) k [] ≡ get_or (corner_lists (bare qs).nodes qs) k []
  lists-are k =
      let p = ps-long in
      ⊎_elim
      (λ (h : k < last). list-at k (omega arith) ∙ sym (polygon-list row count ps k (omega arith)))
      (λ (h : last ≤ k).
      ⊎_elim
      (λ (g : k < max_polygons). list-at k g ∙ ap (λ (n : ℕ). flat_map corner_numbers (take n (drop (begin row count k) cells))) (own-none k h))
      (λ (g : max_polygons ≤ k). list-past k g)
      (cases_lt k max_polygons)
      ∙ sym (no-list row count ps k (omega arith)))
      (cases_lt k last)

  contact-same : (nodes : List Node) (c : Contact) → contact_links nodes (lists_by row count cells) c ≡ contact_links nodes (corner_lists (bare qs).nodes qs) c
  unfolding contact_links
  contact-same nodes c =
      ap₂ {C = List Edge} (λ (from to : List ℕ). joined (conductance_of Link.Contact 1) (slice_get from 0)
      (option_and_then (λ a. nearest nodes (nth_node nodes a).x (nth_node nodes a).y to) (slice_get from 0)))
      (lists-are c.from) (lists-are c.to)

  -- the links by the rows are those of the net
  pub links-same : (l : Links) → links_of (map in_ticks (bare qs).nodes) (lists_by row count cells) l ≡ links_on qs l
  unfolding links_of
  links-same l =
      let nodes = map in_ticks (bare qs).nodes in
      λ i. flat_map (λ c. contact-same nodes c i) l.contacts.now
      ++ (flat_map (via_links nodes) l.vias.now ++ flat_map (channel_links nodes l.channel_layer) l.channels.now)
