-- What is found in a row in order is what the net has. Assumes nothing.
use Rattle.std.proofs.Common.{ℕ, ◌<◌, ◌≤◌, ◌≡◌, refl, sym, ap, ap₂, subst, ◌∙◌, Bool, true, false, Option, None, Some, ◌&&◌, ◌||◌, ◌==◌, List, [], ◌∷◌, length, get_or, slice_get, filter, nat_eq, ◌-◌, arith, min, max, All, Contains}
use Rattle.std.specs.List.{starts_with, list_any}
use Rattle.std.specs.Option.{is_some}
use Rattle.std.specs.Ordering.{is_lt, nat_cmp}
use Rattle.std.specs.Cmp.Lexicographic.{slice_cmp}
use Rattle.std.proofs.lemmas.Bool.{false_from_ne_true, true≢false}
use Rattle.std.proofs.lemmas.Bool.Decides.{nat_tests}
use Rattle.std.proofs.lemmas.List.{get_or_default}
use Rattle.std.proofs.lemmas.List.Elements.{Contains-get_or}
use Rattle.std.proofs.lemmas.List.Folds.{list_any_at, list_any_none}
use Rattle.std.proofs.lemmas.List.FromFn.{length-map-range_with_len, get_or-map-range_with_len}
use Rattle.std.proofs.lemmas.List.Sorted.{IsPermutation-sym, Contains-permutation}
use Rattle.sorted.proofs.Ends.{none_passes, found_passes, last_greatest}
use Rattle.cell.specs.Ticks.{on}
use Rattle.net_rows.specs.declared.rows.Node.{Node}
use Rattle.net_rows.specs.declared.rows.Edge.{Edge}
use Rattle.net_rows.specs.Nets.{no_node, nth_node, pair_of}
use Rattle.net_rows.specs.Facts.{IsSoundNode}
use Rattle.net_rows.specs.declared.axis.Axis.{Axis}
use Rattle.checks.specs.declared.asked.Place.{Place}
use Rattle.checks.specs.declared.asked.Class.{Class}
use Rattle.checks.specs.declared.asked.Class.TheVariants.{Any, Of}
use Rattle.checks.specs.Nodes.{here, node_at, next_place, joins, joined}
use Rattle.checks.specs.Sides.{Near, OnLine}
use Rattle.checks.specs.Entries.{facing, key_of, has_entry, NoneInside, IsNearest, place_entry, place_entries, no_edge, pair_entry, pair_entries, IsInOrder, IsPlaced, IsPaired, IsInside}
use Rattle.checks.proofs.Lasts.{last-is, last-not}
use Rattle.checks.proofs.Spots.{stands-here}
use Rattle.checks.proofs.Between.{on_axis, next-is, next-not, facing-twice, same-line, near-on}

-- ---- a row of entries in order has these and no others
module _ (entries row : List (List ℕ)) (R : IsInOrder entries row) where
  contained : (i : ℕ) → i < length entries → Contains row (get_or entries i [])
  contained i h = Contains-permutation entries row (get_or entries i []) R.same (Contains-get_or entries i [] h)

  from_entry : (e : List ℕ) → Contains row e → Contains entries e
  from_entry e c = Contains-permutation row entries e (IsPermutation-sym _ _ R.same) c

-- ---- nodes
abbrev num : List ℕ → ℕ → ℕ
num e q = get_or e q 0

-- of two entries of a key the lesser has the lesser number
numbers : (class : Class) (p : Place) (a b c d i v w x y j : ℕ)
    → starts_with nat_eq (a ∷ b ∷ c ∷ d ∷ i ∷ []) (key_of class p) ≡ true → starts_with nat_eq (v ∷ w ∷ x ∷ y ∷ j ∷ []) (key_of class p) ≡ true
    → is_lt (slice_cmp nat_cmp (v ∷ w ∷ x ∷ y ∷ j ∷ []) (a ∷ b ∷ c ∷ d ∷ i ∷ [])) ≡ false → i ≤ j
numbers Any p a b c d i v w x y j s t h = grind (arith, nat_tests)
numbers (Of l m) p a b c d i v w x y j s t h = grind (arith, nat_tests)

module _ (axis : Axis) (class : Class) (nodes : List Node) (row : List (List ℕ)) (P : IsPlaced axis class nodes row) (sound : All IsSoundNode nodes) (p : Place) (near : Near p) where
  abbrev f : ℕ → List ℕ
  f = place_entry axis class nodes

  abbrev test : List ℕ → Bool
  test e = starts_with nat_eq e (key_of class (facing axis p))

  abbrev is_here : ℕ → Bool
  is_here n = here class (on p.x) (on p.y) (nth_node nodes n)

  count : length (place_entries axis class nodes) ≡ length nodes
  count = length-map-range_with_len f 0 (length nodes)

  same-test : (i : ℕ) → i < length nodes → test (f i) ≡ is_here i
  same-test i h = stands-here axis class nodes p i near (sound i no_node h)

  -- where the entry of node i stands
  record Spot (i : ℕ) : Type 0 where
    place : ℕ
    inside : place < length row
    is : get_or row place [] ≡ f i

  spot : (i : ℕ) → i < length nodes → Spot i
  spot i h =
      let c = contained (place_entries axis class nodes) row P i (omega (arith, count)) in
      record { place = c.0; inside = c.1; is = get_or_default row c.0 [] _ c.1 ∙ (c.2 ∙ get_or-map-range_with_len f 0 (length nodes) i i [] h (omega arith)) }

  pub place-found : (o : Option (List ℕ)) → o ≡ slice_get (filter test row) (length (filter test row) - 1)
      → elim o [ None ↦ None | Some e ↦ Some (num e 4) ] ≡ node_at nodes class p
  place-found None s =
      sym (last-not is_here (length nodes) (λ i h. false_from_ne_true (is_here i) (λ e.
      let w = spot i h in
      true≢false (sym (ap test w.is ∙ (same-test i h ∙ e)) ∙ none_passes row P.sorted test (length (filter test row) - 1) (omega arith) (sym s) w.place w.inside))))
  place-found (Some e) s =
      let g = found_passes row P.sorted test (length (filter test row) - 1) e (sym s) in
      let k = g.there in
      let w = from_entry (place_entries axis class nodes) row P e (k.place, k.inside, get_or_default row k.place e [] k.inside ∙ k.is) in
      let j = w.0 in
      let b : j < length nodes = let h = w.1 in omega (arith, count) in
      let is : e ≡ f j = sym w.2 ∙ get_or-map-range_with_len f 0 (length nodes) j j e b (omega arith) in
      let t : test (f j) ≡ true = sym (ap test is) ∙ g.passes in
      ap (λ (x : List ℕ). Some (num x 4)) is
      ∙ sym (last-is is_here (length nodes) j b (sym (same-test j b) ∙ t) (λ i l h. false_from_ne_true (is_here i) (λ q.
      let v = spot i h in
      let u : test (f i) ≡ true = same-test i h ∙ q in
      let z = last_greatest row P.sorted test e (sym s) v.place v.inside (ap test v.is ∙ u) in
      let m = numbers class (facing axis p) _ _ _ _ i _ _ _ _ j u t (subst (λ x. is_lt (slice_cmp nat_cmp x (f i)) ≡ false) is (subst (λ x. is_lt (slice_cmp nat_cmp e x) ≡ false) v.is z)) in
      absurd (omega arith))))

  -- an entry stands there exactly if a node does
  entry-at : has_entry row class (facing axis p) ≡ is_some (node_at nodes class p)
  entry-at = go (slice_get (filter test row) (length (filter test row) - 1)) refl
    where
      go : (o : Option (List ℕ)) → o ≡ slice_get (filter test row) (length (filter test row) - 1) → list_any test row ≡ is_some (node_at nodes class p)
      go None s =
          list_any_none test row (λ i d h. ap test (get_or_default row i d [] h) ∙ none_passes row P.sorted test (length (filter test row) - 1) (omega arith) (sym s) i h)
          ∙ ap is_some (place-found None s)
      go (Some e) s =
          let g = found_passes row P.sorted test (length (filter test row) - 1) e (sym s) in
          let k = g.there in
          list_any_at test row k.place [] k.inside (ap test k.is ∙ g.passes) ∙ ap is_some (place-found (Some e) s)

-- ---- nodes along a line
module _ (axis : Axis) (class : Class) (nodes : List Node) (row : List (List ℕ)) (P : IsPlaced axis class nodes row) (sound : All IsSoundNode nodes) where
  module _ (line a b : ℕ) (near_a : Near (on_axis axis line a)) (near_b : Near (on_axis axis line b)) where
    abbrev on_line : ℕ → Place
    on_line y = record { x = line; y = y }

    at-line : (z : ℕ) → IsInside a b z → has_entry row class (on_line z) ≡ is_some (node_at nodes class (on_axis axis line z))
    at-line z i =
        ap (has_entry row class) (sym (facing-twice axis (on_line z)))
        ∙ entry-at axis class nodes row P sound (on_axis axis line z) (near-on axis line a b z i near_a near_b)

    none-on : NoneInside row class (on_line a) b → next_place nodes class (on_axis axis line a) (on_axis axis line b) ≡ None
    none-on N = next-not nodes class axis line a b (λ z i. sym (at-line z i) ∙ N z i)

    next-on : (y : ℕ) → IsNearest row class (on_line a) b y → next_place nodes class (on_axis axis line a) (on_axis axis line b) ≡ Some (on_axis axis line y)
    next-on y N =
        let i = N.inside in
        next-is nodes class axis line a b y i (sym (at-line y i) ∙ N.stands)
        (λ z (l, h). sym (at-line z (omega arith, omega arith)) ∙ N.none_nearer z (l, h))

  module _ (from to : Place) (line : OnLine axis from to) (near_from : Near from) (near_to : Near to) where
    abbrev start : Place
    start = facing axis from

    abbrev end : ℕ
    end = (facing axis to).y

    from-is : on_axis axis start.x start.y ≡ from
    from-is = facing-twice axis from

    to-is : on_axis axis start.x end ≡ to
    to-is = ap (λ x. on_axis axis x end) (same-line axis from to line) ∙ facing-twice axis to

    near_start : Near (on_axis axis start.x start.y)
    near_start = subst Near (sym from-is) near_from

    near_end : Near (on_axis axis start.x end)
    near_end = subst Near (sym to-is) near_to

    pub none-next : NoneInside row class start end → next_place nodes class from to ≡ None
    none-next N = ap₂ (next_place nodes class) (sym from-is) (sym to-is) ∙ none-on start.x start.y end near_start near_end N

    pub next-found : (y : ℕ) → IsNearest row class start end y → next_place nodes class from to ≡ Some (on_axis axis start.x y)
    next-found y N = ap₂ (next_place nodes class) (sym from-is) (sym to-is) ∙ next-on start.x start.y end near_start near_end y N

-- ---- edges
abbrev joined_by : ℕ → ℕ → ℕ → ℕ → Bool
joined_by f t a b = ((f == a) && (t == b)) || ((f == b) && (t == a))

least-same : (f t a b : ℕ) → joined_by f t a b ≡ true → min f t ≡ min a b
least-same f t a b h = grind (arith, nat_tests)

most-same : (f t a b : ℕ) → joined_by f t a b ≡ true → max f t ≡ max a b
most-same f t a b h = grind (arith, nat_tests)

joined-of : (f t a b : ℕ) → min f t ≡ min a b → max f t ≡ max a b → joined_by f t a b ≡ true
joined-of f t a b p q = grind (arith, nat_tests)

module _ (edges : List Edge) (row : List (List ℕ)) (P : IsPaired edges row) (a b : ℕ) where
  joins-entry : (e : Edge) → joins a b e ≡ true → pair_of e.from e.to ≡ pair_of a b
  unfolding joins
  joins-entry e h = ap₂ (λ (x y : ℕ). x ∷ y ∷ []) (least-same e.from e.to a b h) (most-same e.from e.to a b h)

  entry-joins : (e : Edge) → pair_of e.from e.to ≡ pair_of a b → joins a b e ≡ true
  unfolding joins
  entry-joins e h = joined-of e.from e.to a b (ap (λ (x : List ℕ). num x 0) h) (ap (λ (x : List ℕ). num x 1) h)

  count-pairs : length (pair_entries edges) ≡ length edges
  count-pairs = length-map-range_with_len (pair_entry edges) 0 (length edges)

  entry-is : (i : ℕ) → i < length edges → get_or (pair_entries edges) i [] ≡ pair_entry edges i
  entry-is i h = get_or-map-range_with_len (pair_entry edges) 0 (length edges) i i [] h (omega arith)

  entry-of : (i : ℕ) → i < length edges → Contains row (pair_entry edges i)
  entry-of i h = subst (Contains row) (entry-is i h) (contained (pair_entries edges) row P i (omega (arith, count-pairs)))

  pub pair-found : (r : Bool) → (r ≡ true → Contains row (pair_of a b)) → (r ≡ false → Contains row (pair_of a b) → ⊥) → r ≡ joined edges a b
  pair-found true s z =
      let w = from_entry (pair_entries edges) row P (pair_of a b) (s refl) in
      let h : w.0 < length edges = let l = w.1 in omega (arith, count-pairs) in
      let e = sym (entry-is w.0 h) ∙ (get_or_default (pair_entries edges) w.0 [] (pair_of a b) w.1 ∙ w.2) in
      sym (list_any_at (joins a b) edges w.0 no_edge h (entry-joins (get_or edges w.0 no_edge) e))
  pair-found false s z =
      sym (list_any_none (joins a b) edges (λ i d h. false_from_ne_true _ (λ j. z refl (subst (Contains row) (joins-entry _ j) (rw (get_or_default edges i d no_edge h) (entry-of i h))))))
