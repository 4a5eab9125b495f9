-- What the check by layer comes to: where middles are enough, and what it means that it finds nothing. Assumes nothing.
use Rattle.std.proofs.Common.{ℕ, zero, suc, ◌+◌, ◌<◌, ◌≡◌, refl, ap, Bool, true, false, ◌&&◌, arith, List, [], ◌∷◌, ◌++◌, All, length, get_or, slice_get, slice_index, Option, None, Some, ℤ, length-append}
use Rattle.std.specs.List.{filter_map, cons_option}
use Rattle.std.specs.Option.{option_map}
use Rattle.std.proofs.lemmas.Bool.{and_parts}
use Rattle.std.proofs.lemmas.List.Elements.{All-nil, All-cons}
use Rattle.cell.specs.declared.Cell.{Cell}
use Rattle.table.specs.declared.Head.{Head}
use Rattle.table.specs.Slots.{cell_at}
use Rattle.table.specs.Rows.{leaves_in}
use Rattle.net_rows.specs.declared.rows.Node.{Node}
use Rattle.net_rows.specs.declared.rows.Edge.{Edge}
use Rattle.checks.specs.declared.asked.Class.{Class}
use Rattle.checks.specs.declared.asked.Class.TheVariants.{Of}
use Rattle.checks.specs.declared.asked.Side.{Side}
use Rattle.checks.specs.declared.asked.Hanging.{Hanging}
use Rattle.checks.specs.Sides.{sides_of}
use Rattle.checks.specs.Nodes.{node_at, nodes_between, joined}
use Rattle.checks.specs.Checks.{fault, middle_fault, first_unjoined, chain, chain_fault, side_fault, leaf_fault, fault_by, own_class, layer_fault}
use Rattle.checks.specs.Laws.{EachSide, OnlyMiddleStands, middle_leaf_fault, middle_layer_fault, MiddleIsEnough, MiddlesAreEnough, IsJoinedBetween, IsJoinedAlong, NoneMeansJoined}

-- ---- of any list

module _ {X : Type 0} (P : X → Type 0) where
  front : (x : X) (xs : List X) → All P (x ∷ xs) → P x
  front x xs h = h 0 x (omega arith)

  others : (x : X) (xs : List X) → All P (x ∷ xs) → All P xs
  others x xs h i d k = h (suc i) d (omega arith)

-- another property of each element
changed : {X : Type 0} (P Q : X → Type 0) → ((x : X) → P x → Q x) → (xs : List X) → All P xs → All Q xs
changed P Q f xs h i d k = f (get_or xs i d) (h i d k)

module _ {X Y : Type 0} where
  same_finds : (f g : X → Option Y) (xs : List X) → All (λ x. f x ≡ g x) xs → filter_map f xs ≡ filter_map g xs
  same_finds f g [] h = refl
  same_finds f g (x ∷ xs) h = rw (front (λ x. f x ≡ g x) x xs h, same_finds f g xs (others (λ x. f x ≡ g x) x xs h)) refl

  -- nothing is found first exactly if nothing is found
  none_first : (f : X → Option Y) (xs : List X) → slice_get (filter_map f xs) 0 ≡ None → All (λ x. f x ≡ None) xs
  none_first f [] e = All-nil (λ x. f x ≡ None)
  none_first f (x ∷ xs) e = by (f x) refl (none_first f xs)
    where
      by : (o : Option Y) → f x ≡ o → (slice_get (filter_map f xs) 0 ≡ None → All (λ x. f x ≡ None) xs) → All (λ x. f x ≡ None) (x ∷ xs)
      by None q rest = All-cons (λ x. f x ≡ None) x xs q (rest (rw q at e))
      by (Some y) q rest = absurd (let z = rw q at e in cc)

  first_none : (f : X → Option Y) (xs : List X) → All (λ x. f x ≡ None) xs → slice_get (filter_map f xs) 0 ≡ None
  first_none f [] h = refl
  first_none f (x ∷ xs) h = rw (front (λ x. f x ≡ None) x xs h) (first_none f xs (others (λ x. f x ≡ None) x xs h))

-- ---- middles

-- a chain of the middle alone is its two halves
one_middle : (edges : List Edge) (m a b : Option ℕ) → chain edges (cons_option m []) a b ≡ fault edges m a b
unfolding chain first_unjoined fault
one_middle edges None None b = refl
one_middle edges None (Some a) None = refl
one_middle edges None (Some a) (Some b) = refl
one_middle edges (Some m) None b = refl
one_middle edges (Some m) (Some a) None = refl
one_middle edges (Some m) (Some a) (Some b) = by (joined edges a m && joined edges m b) refl
  where
    by : (t : Bool) → (joined edges a m && joined edges m b) ≡ t → chain edges (m ∷ []) (Some a) (Some b) ≡ fault edges (Some m) (Some a) (Some b)
    by true q = rw q refl
    by false q = rw q refl

pub middle_is_enough : MiddleIsEnough
unfolding side_fault chain_fault middle_fault
middle_is_enough nodes edges layer component s h = rw h (one_middle edges (node_at nodes (Of layer component) s.middle) _ _)

-- ---- chains

abbrev JoinedAll : List Edge → List ℕ → Type 0
JoinedAll edges points = (i : ℕ) → i + 2 < length points → IsJoinedBetween edges points i

module _ (edges : List Edge) where
  ahead : (a : ℕ) (ps : List ℕ) (i k : ℕ) → get_or (a ∷ ps) (suc i + k) 0 ≡ get_or ps (i + k) 0
  ahead a ps i k = let e : suc i + k ≡ suc (i + k) = omega arith in ap (λ j. get_or (a ∷ ps) j 0) e

  further : (a : ℕ) (ps : List ℕ) (i : ℕ) → IsJoinedBetween edges ps i → IsJoinedBetween edges (a ∷ ps) (suc i)
  further a ps i j = record { before = rw (ahead a ps i 1) j.before; after = rw (ahead a ps i 1, ahead a ps i 2) j.after }

  nearer : (a : ℕ) (ps : List ℕ) (i : ℕ) → IsJoinedBetween edges (a ∷ ps) (suc i) → IsJoinedBetween edges ps i
  nearer a ps i j = record { before = rw (ahead a ps i 1) at j.before; after = rw (ahead a ps i 1, ahead a ps i 2) at j.after }

  -- the point after a front's last
  next_point : (rest : List ℕ) (b : ℕ) → get_or (rest ++ b ∷ []) 0 0 ≡ get_or rest 0 b
  next_point [] b = refl
  next_point (n ∷ rest) b = refl

  none_loose : (a : ℕ) (between : List ℕ) (b : ℕ) → first_unjoined edges a between b ≡ None → JoinedAll edges (a ∷ (between ++ b ∷ []))
  unfolding first_unjoined
  none_loose a [] b e i h = absurd (omega arith)
  none_loose a (n ∷ rest) b e i h = by (joined edges a n && joined edges n (get_or rest 0 b)) refl (none_loose n rest b) i h
    where
      by : (t : Bool) → (joined edges a n && joined edges n (get_or rest 0 b)) ≡ t
          → (first_unjoined edges n rest b ≡ None → JoinedAll edges (n ∷ (rest ++ b ∷ [])))
          → JoinedAll edges (a ∷ n ∷ (rest ++ b ∷ []))
      by true q more zero h =
          let p = and_parts _ _ q in
          record { before = p.0; after = rw (next_point rest b) p.1 }
      by true q more (suc j) h = further a (n ∷ (rest ++ b ∷ [])) j (more (rw q at e) j (omega arith))
      by false q more j h = absurd (let z = rw q at e in cc)

  loose_none : (a : ℕ) (between : List ℕ) (b : ℕ) → JoinedAll edges (a ∷ (between ++ b ∷ [])) → first_unjoined edges a between b ≡ None
  unfolding first_unjoined
  loose_none a [] b all = refl
  loose_none a (n ∷ rest) b all =
      let here = all 0 (omega (arith, length-append rest (b ∷ []))) in
      let after : joined edges n (get_or rest 0 b) ≡ true = rw (next_point rest b) at here.after in
      rw (here.before, after) (loose_none n rest b (λ i h. nearer a (n ∷ (rest ++ b ∷ [])) i (all (suc i) (omega arith))))

-- ---- sides

module _ (nodes : List Node) (edges : List Edge) (layers components : List ℕ) (p : ℕ) where
  abbrev class : Class
  class = own_class layers components p

  abbrev between : Side → List ℕ
  between s = nodes_between nodes class s.start s.end

  no_option : (a b : ℕ) (o : Option ℕ) → option_map {U = Hanging} (λ n. record { node = n; start = a; end = b }) o ≡ None → o ≡ None
  no_option a b None e = refl
  no_option a b (Some n) e = absurd (let z = e in cc)

  side_none : (s : Side) → side_fault nodes edges class s ≡ None → IsJoinedAlong nodes edges class s
  unfolding side_fault chain_fault chain
  side_none s e a b x y = none_loose edges a (between s) b (no_option a b (first_unjoined edges a (between s) b) (rw (x, y) at e))

  none_side : (s : Side) → IsJoinedAlong nodes edges class s → side_fault nodes edges class s ≡ None
  unfolding side_fault chain_fault chain
  none_side s all = by (node_at nodes class s.start) refl (node_at nodes class s.end) refl
    where
      by : (x : Option ℕ) → node_at nodes class s.start ≡ x → (y : Option ℕ) → node_at nodes class s.end ≡ y → side_fault nodes edges class s ≡ None
      by None e q f = rw e refl
      by (Some a) e None f = rw (e, f) refl
      by (Some a) e (Some b) f = rw (e, f, loose_none edges a (between s) b (all a b e f)) refl

  -- ---- leaves

  abbrev finds : Side → Option Hanging
  finds s = side_fault nodes edges class s

  leaf_none : (c : Cell) → leaf_fault nodes edges class c ≡ None → All (IsJoinedAlong nodes edges class) (sides_of c)
  unfolding leaf_fault
  leaf_none c e = changed (λ s. finds s ≡ None) (IsJoinedAlong nodes edges class) side_none (sides_of c) (none_first finds (sides_of c) e)

  none_leaf : (c : Cell) → All (IsJoinedAlong nodes edges class) (sides_of c) → leaf_fault nodes edges class c ≡ None
  unfolding leaf_fault
  none_leaf c all = first_none finds (sides_of c) (changed (IsJoinedAlong nodes edges class) (λ s. finds s ≡ None) none_side (sides_of c) all)

  same_leaf : (c : Cell) → All (OnlyMiddleStands nodes class) (sides_of c) → leaf_fault nodes edges class c ≡ middle_leaf_fault nodes edges class c
  unfolding leaf_fault middle_leaf_fault
  same_leaf c all =
      ap (λ (xs : List Hanging). slice_get xs 0)
      (same_finds finds (middle_fault nodes edges class) (sides_of c)
      (changed (OnlyMiddleStands nodes class) (λ s. finds s ≡ middle_fault nodes edges class s) (middle_is_enough nodes edges (slice_index layers p) (slice_index components p)) (sides_of c) all))

-- ---- tables

module _ (t : List ℤ) (head : Head) (nodes : List Node) (edges : List Edge) (layers components : List ℕ) where
  abbrev class_at : ℕ → Class
  class_at id = own_class layers components (cell_at t id).poly

  abbrev on_leaf : ℕ → Option Hanging
  on_leaf id = leaf_fault nodes edges (class_at id) (cell_at t id)

  abbrev on_leaf_middles : ℕ → Option Hanging
  on_leaf_middles id = middle_leaf_fault nodes edges (class_at id) (cell_at t id)

  abbrev LeafHas : (Class → Side → Type 0) → ℕ → Type 0
  LeafHas P id = All (P (class_at id)) (sides_of (cell_at t id))

  same_table : EachSide (OnlyMiddleStands nodes) t head layers components → layer_fault t head nodes edges layers components ≡ middle_layer_fault t head nodes edges layers components
  unfolding fault_by middle_layer_fault
  same_table all =
      ap (λ (xs : List Hanging). slice_get xs 0)
      (same_finds on_leaf on_leaf_middles (leaves_in t head)
      (changed (LeafHas (OnlyMiddleStands nodes)) (λ id. on_leaf id ≡ on_leaf_middles id) (λ id. same_leaf nodes edges layers components (cell_at t id).poly (cell_at t id))
      (leaves_in t head) all))

  table_none : layer_fault t head nodes edges layers components ≡ None → EachSide (IsJoinedAlong nodes edges) t head layers components
  unfolding fault_by
  table_none e =
      changed (λ id. on_leaf id ≡ None) (LeafHas (IsJoinedAlong nodes edges)) (λ id. leaf_none nodes edges layers components (cell_at t id).poly (cell_at t id))
      (leaves_in t head) (none_first on_leaf (leaves_in t head) e)

  none_table : EachSide (IsJoinedAlong nodes edges) t head layers components → layer_fault t head nodes edges layers components ≡ None
  unfolding fault_by
  none_table all =
      first_none on_leaf (leaves_in t head)
      (changed (LeafHas (IsJoinedAlong nodes edges)) (λ id. on_leaf id ≡ None) (λ id. none_leaf nodes edges layers components (cell_at t id).poly (cell_at t id))
      (leaves_in t head) all)

pub middles_are_enough : MiddlesAreEnough
middles_are_enough = same_table

pub none_means_joined : NoneMeansJoined
none_means_joined t head nodes edges layers components =
    (table_none t head nodes edges layers components, none_table t head nodes edges layers components)
