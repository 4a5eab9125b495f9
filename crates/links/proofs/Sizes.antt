-- How many links there are: a list of nodes by the corners of the leaves, and each kind of link by such lists. Assumes nothing.
use Rattle.std.proofs.lemmas.Bool.Decides.{nat_tests}
use Rattle.std.proofs.Common.{◌≡◌, refl, sym, ap, ap₂, ◌∙◌, Bool, true, cond, ◌&&◌, List, [], ◌∷◌, map, filter, ℕ, ◌+◌, ◌*◌, max, ltb, arith, suc-mul, length, length-append, Option, None, Some, is_some, Float}
use Rattle.std.specs.Prelude.{flat_map, slice_get, slice_index_or, option_and_then}
use Rattle.std.specs.List.{range_with_len}
use Rattle.std.proofs.lemmas.List.{ext_get_or, length-map}
use Rattle.std.proofs.lemmas.List.Sums.{length-filter}
use Rattle.std.proofs.lemmas.List.Folds.{fold-map}
use Rattle.std.proofs.lemmas.List.FromFn.{length-map-range_with_len, get_or-map-range_with_len}
use Rattle.net_rows.specs.declared.rows.Node.{Node}
use Rattle.net_rows.specs.declared.rows.MeshNode.{MeshNode}
use Rattle.net_rows.specs.Nodes.{in_ticks}
use Rattle.net_rows.specs.Nets.{nth_node, no_node}
use Rattle.net.specs.Net.{Piece, same_node, nodes_from}
use Rattle.net.proofs.Pieces.{all_corners, nodes-weld}
use Rattle.net.proofs.Sound.{node-self, node-is}
use Rattle.links.specs.declared.rows.Contact.{Contact}
use Rattle.links.specs.declared.rows.Footprint.{Footprint}
use Rattle.links.specs.declared.rows.Via.{Via}
use Rattle.links.specs.declared.rows.Channel.{Channel}
use Rattle.links.specs.Made.{is_of, nodes_of, nearest, joined, contact_links, covers, has_area, inside, or_nearest, side_of, pairs, edge, via_links, channel_links}
use Rattle.links.specs.Count.{one_if}
use Rattle.links.proofs.Different.{different, weld-filter}

-- ---- nodes that pass a test, by number and by corner

-- how many of a mapped list pass
pub passed-map : {A B : Type 0} (p : B → Bool) (f : A → B) (l : List A) → length (filter p (map f l)) ≡ length (filter (λ a. p (f a)) l)
passed-map p f l =
    length-filter p (map f l)
    ∙ (fold-map (λ (n : ℕ) (b : _). n + cond (p b) 1 0) f 0 l
    ∙ sym (length-filter (λ a. p (f a)) l))

module _ (nodes : List Node) where
  by_number : map (nth_node nodes) (range_with_len 0 (length nodes)) ≡ nodes
  by_number =
      let n = length-map-range_with_len (nth_node nodes) 0 (length nodes) in
      ext_get_or no_node (map (nth_node nodes) (range_with_len 0 (length nodes))) nodes n
      (λ i h. get_or-map-range_with_len (nth_node nodes) 0 (length nodes) i i no_node (omega arith) (omega arith))

  numbers-pass : (p : Node → Bool) → length (filter (λ i. p (nth_node nodes i)) (range_with_len 0 (length nodes))) ≡ length (filter p nodes)
  numbers-pass p = sym (passed-map p (nth_node nodes) (range_with_len 0 (length nodes))) ∙ ap (λ l. length (filter p l)) by_number

filter-filter : {A : Type 0} (f g : A → Bool) (l : List A) → filter g (filter f l) ≡ filter (λ a. f a && g a) l
filter-filter f g [] = refl
filter-filter f g (a ∷ l) = grind (arith, filter-filter f g l)

module _ (qs : List Piece) where
  -- the nodes, in ticks
  abbrev pub made : List Node
  made = map in_ticks (nodes_from [] qs)

  -- as many nodes pass as there are different corners that do
  pub passed-corners : (p : Node → Bool)
      → length (filter (λ i. p (nth_node made i)) (range_with_len 0 (length made))) ≡ different same_node (filter (λ m. p (in_ticks m)) (all_corners qs))
  unfolding different
  passed-corners p =
      numbers-pass made p
      ∙ (passed-map p in_ticks (nodes_from [] qs)
      ∙ ap length (ap (filter (λ m. p (in_ticks m))) (nodes-weld [] qs) ∙ weld-filter same_node node-self node-is (λ m. p (in_ticks m)) [] (all_corners qs)))

  -- the corners of a layer and component, and those of them inside a footprint
  abbrev pub is_in : ℕ → ℕ → MeshNode → Bool
  is_in layer component m = is_of layer component (in_ticks m)

  abbrev pub is_covered : Footprint → ℕ → ℕ → MeshNode → Bool
  is_covered f layer component m = is_of layer component (in_ticks m) && covers f (in_ticks m)

  pub class-size : (layer component : ℕ) → length (nodes_of made layer component) ≡ different same_node (filter (is_in layer component) (all_corners qs))
  unfolding nodes_of
  class-size layer component = passed-corners (is_of layer component)

  pub inside-size : (f : Footprint) (layer component : ℕ) → has_area f ≡ true
      → length (inside made f (nodes_of made layer component)) ≡ different same_node (filter (is_covered f layer component) (all_corners qs))
  unfolding nodes_of inside
  inside-size f layer component h =
      rw h
      (ap length (filter-filter (λ i. is_of layer component (nth_node made i)) (λ i. covers f (nth_node made i)) (range_with_len 0 (length made)))
      ∙ passed-corners (λ n. is_of layer component n && covers f n))

-- ---- the links of each kind

abbrev pub some : {A : Type 0} → List A → Bool
some l = ltb 0 (length l)

joined-size : (g : Float) (a b : Option ℕ) → length (joined g a b) ≡ one_if (is_some a && is_some b)
unfolding joined
joined-size g None b = refl
joined-size g (Some a) None = refl
joined-size g (Some a) (Some b) = refl

module _ (nodes : List Node) where
  nearest-some : (x y : _) (l : List ℕ) → is_some (nearest nodes x y l) ≡ some l
  unfolding nearest
  nearest-some x y [] = refl
  nearest-some x y (i ∷ is) = grind (arith, nat_tests)

  pub contact-size : (lists : List (List ℕ)) (c : Contact)
      → length (contact_links nodes lists c) ≡ one_if (some (slice_index_or lists c.from []) && some (slice_index_or lists c.to []))
  unfolding contact_links
  contact-size lists c = first _ (slice_index_or lists c.from []) (slice_index_or lists c.to [])
    where
      first : (g : Float) (from to : List ℕ)
          → length (joined g (slice_get from 0) (option_and_then (λ a. nearest nodes (nth_node nodes a).x (nth_node nodes a).y to) (slice_get from 0)))
          ≡ one_if (some from && some to)
      first g [] to = joined-size _ None _
      first g (a ∷ from) to =
          joined-size _ (Some a) _ ∙ ap (λ (b : Bool). one_if (true && b)) (nearest-some (nth_node nodes a).x (nth_node nodes a).y to) ∙ grind (arith, nat_tests)

  pub channel-size : (layer : ℕ) (c : Channel)
      → length (channel_links nodes layer c) ≡ one_if (some (nodes_of nodes layer c.drain.component) && some (nodes_of nodes layer c.source.component))
  unfolding channel_links
  channel-size layer c =
      joined-size _ _ _
      ∙ ap₂ (λ (a b : Bool). one_if (a && b)) (nearest-some c.drain.x c.drain.y (nodes_of nodes layer c.drain.component)) (nearest-some c.source.x c.source.y (nodes_of nodes layer c.source.component))

  pairs-size : (g : Float) (bottom top : List ℕ) → length (pairs g bottom top) ≡ length bottom * length top
  unfolding pairs
  pairs-size g [] top = omega arith
  pairs-size g (a ∷ bottom) top =
      length-append (map (edge g a) top) (flat_map (λ b. map (edge g b) top) bottom)
      ∙ (ap₂ (λ (m n : ℕ). m + n) (length-map top (edge g a)) (pairs-size g bottom top)
      ∙ grind (arith, suc-mul (length bottom) (length top)))

  pub via-size : (v : Via) → length (via_links nodes v) ≡ length (side_of nodes v v.bottom) * length (side_of nodes v v.top)
  unfolding via_links
  via-size v = pairs-size _ (side_of nodes v v.bottom) (side_of nodes v v.top)

  nearest-size : (f : Footprint) (candidates inner : List ℕ) → length (or_nearest nodes f candidates inner) ≡ max (length inner) (one_if (some candidates))
  unfolding or_nearest nearest
  nearest-size f [] [] = refl
  nearest-size f (c ∷ cs) [] = grind (arith, nat_tests)
  nearest-size f candidates (i ∷ is) = grind (arith, nat_tests)

  pub side-size : (v : Via) (layer : ℕ)
      → length (side_of nodes v layer) ≡ max (length (inside nodes v.footprint (nodes_of nodes layer v.component))) (one_if (some (nodes_of nodes layer v.component)))
  unfolding side_of
  side-size v layer = nearest-size v.footprint (nodes_of nodes layer v.component) (inside nodes v.footprint (nodes_of nodes layer v.component))
