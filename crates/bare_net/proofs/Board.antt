-- What the rows hold is the net before the weights: the parts of the sides, and the cells.
use Rattle.std.proofs.Common.{◌≡◌, refl, sym, ap, ◌∙◌, Bool, true, false, ◌&&◌, ◌==◌, nat_lt, cond, if◌then◌else◌, ⊎_elim, List, [], ◌∷◌, ◌++◌, map, ℕ, zero, suc, ◌+◌, ◌*◌, ◌/◌, ◌%◌, ◌<◌, ◌≤◌, arith, ltb, leb, length, get_or, length-append, get_or-append-add, le-ltb, ltb-true, eqb-true, Option, None, Some, Float}
use Rattle.std.proofs.lemmas.Bool.{cases_lt}
use Rattle.std.proofs.lemmas.List.{get_or-map}
use Rattle.std.proofs.lemmas.List.FromFn.{fill_by_all}
use Rattle.net.specs.Net.{Edge, NetCell, Piece, same_node, nowhere, edges_from, patches_from, weld, across, upright, One, Half, ◌·◌, ◌÷◌}
use Rattle.net.specs.First.{key, first_of, rank, number_by, patch_by, Part, part, same_part}
use Rattle.net.specs.Flat as Flat
use Rattle.net.specs.Flat.{Leaf, leaves_from, slots_by, flat_places, corners_in, mids_in, flat_slots, flat_patches}
use Rattle.net.proofs.Weld.{Keyed, first-new}
use Rattle.net.proofs.Keys.{both}
use Rattle.net.proofs.Pieces.{edge_of}
use Rattle.net.proofs.Flat.{flat-cells, flat-edges}
use Rattle.net.proofs.Upto.{count_up, upto_all, rising-from, so-far-four}
use Rattle.places.specs.Leaves.{leaf_of, leaf_from}
use Rattle.places.specs.Places.{leaves_in}
use Rattle.places.proofs.Places.{leaves-length, places-length}
use Rattle.cell.specs.declared.border.Side.{Side}
use Rattle.cell.specs.declared.border.Side.TheVariants.{South, North, West, East}
use Rattle.bare_net.specs.declared.sides.Sides.{Sides}
use Rattle.bare_net.specs.Sides.{side_at, index_of, from_corner, to_corner, resistance, leaf_in, corner_in, middle_in, node_so_far, half_edge, edge_at, cell_at}
use Rattle.bare_net.specs.Edges.{part_at, parts_in, edges_in, cells_in}

-- ---- a slot of the list of slots

-- the place s places on
abbrev on : ℕ → ℕ → ℕ
on c zero = c
on c (suc s) = c + suc s

on_is : (c s : ℕ) → on c s ≡ c + s
on_is c zero = omega arith
on_is c (suc s) = refl

-- a side's part, by whether there is a node in the middle
half-first : (hit : Bool) (a m b : ℕ) (r : Float) → ◌≡◌ {A = Edge} (record { from = a; to = if hit then m else b; conductance = if hit then One ÷ (r · Half) else One ÷ r }) (half_edge false (cond hit (Some m) None) a b r)
half-first true a m b r = refl
half-first false a m b r = refl

half-second : (hit : Bool) (a m b : ℕ) (r : Float) → ◌≡◌ {A = Edge} (record { from = if hit then m else a; to = b; conductance = if hit then One ÷ (r · Half) else One ÷ r }) (half_edge true (cond hit (Some m) None) a b r)
half-second true a m b r = refl
half-second false a m b r = refl

-- the edge of slot r of a leaf
abbrev side_edge : List ℕ → ℕ → ℕ → ℕ → Leaf → Bool → Side → Edge
side_edge ks n c m l second q =
    half_edge second (cond (nat_lt (first_of ks (on m (index_of q))) n) (Some (number_by ks (on m (index_of q)))) None)
    (number_by ks (on c (from_corner q))) (number_by ks (on c (to_corner q))) (resistance l q)

abbrev own_slots : List ℕ → ℕ → (ℕ → ℕ) → ℕ → Leaf → List Part
own_slots ks z up t l = map (part l.piece) (slots_by ks (4 * up l.piece) (4 * t) (4 * z + 4 * t) (across l.poly l.box) (upright l.poly l.box))

module _ (ks : List ℕ) (z : ℕ) (up : ℕ → ℕ) (d : Part) where
  abbrev slot_part : Leaf → ℕ → ℕ → Part
  slot_part l v r = part l.piece (side_edge ks (4 * up l.piece) (4 * v) (4 * z + 4 * v) l (r % 2 == 1) (side_at (r / 2)))

  own-slot : (l : Leaf) (t : ℕ) (rest : List Part) (r : ℕ) → r < 8 → get_or (own_slots ks z up t l ++ rest) r d ≡ slot_part l t r
  unfolding slots_by
  own-slot l t rest zero h = ap (part l.piece) (half-first _ _ _ _ _)
  own-slot l t rest (suc zero) h = ap (part l.piece) (half-second _ _ _ _ _)
  own-slot l t rest (suc (suc zero)) h = ap (part l.piece) (half-first _ _ _ _ _)
  own-slot l t rest (suc (suc (suc zero))) h = ap (part l.piece) (half-second _ _ _ _ _)
  own-slot l t rest (suc (suc (suc (suc zero)))) h = ap (part l.piece) (half-first _ _ _ _ _)
  own-slot l t rest (suc (suc (suc (suc (suc zero))))) h = ap (part l.piece) (half-second _ _ _ _ _)
  own-slot l t rest (suc (suc (suc (suc (suc (suc zero)))))) h = ap (part l.piece) (half-first _ _ _ _ _)
  own-slot l t rest (suc (suc (suc (suc (suc (suc (suc zero))))))) h = ap (part l.piece) (half-second _ _ _ _ _)
  own-slot l t rest (suc (suc (suc (suc (suc (suc (suc (suc r)))))))) h = absurd (omega arith)

  own-long : (l : Leaf) (t : ℕ) → length (own_slots ks z up t l) ≡ 8
  unfolding slots_by
  own-long l t = refl

  flat-slot : (t : ℕ) (ls : List Leaf) (v r : ℕ) → v < length ls → r < 8 → get_or (flat_slots ks z up t ls) (8 * v + r) d ≡ slot_part (Flat.leaf_at ls v) (t + v) r
  unfolding flat_slots
  flat-slot t [] v r h k = absurd (omega arith)
  flat-slot t (l ∷ ls) zero r h k =
      ap (λ (i : ℕ). get_or (flat_slots ks z up t (l ∷ ls)) i d) (let e : 8 * 0 + r ≡ r = omega arith in e)
      ∙ (own-slot l t (flat_slots ks z up (suc t) ls) r k ∙ ap (λ (i : ℕ). slot_part l i r) (let e : t ≡ t + 0 = omega arith in e))
  flat-slot t (l ∷ ls) (suc v) r h k =
      ap (λ (i : ℕ). get_or (flat_slots ks z up t (l ∷ ls)) i d) (let w = own-long l t in let e : 8 * suc v + r ≡ length (own_slots ks z up t l) + (8 * v + r) = omega arith in e)
      ∙ (get_or-append-add (own_slots ks z up t l) (flat_slots ks z up (suc t) ls) (8 * v + r) d
      ∙ (flat-slot (suc t) ls v r (omega arith) k ∙ ap (λ (i : ℕ). slot_part (Flat.leaf_at ls v) i r) (let e : suc t + v ≡ t + suc v = omega arith in e)))

  flat-slots-long : (t : ℕ) (ls : List Leaf) → length (flat_slots ks z up t ls) ≡ 8 * length ls
  unfolding flat_slots
  flat-slots-long t [] = omega arith
  flat-slots-long t (l ∷ ls) = length-append (own_slots ks z up t l) (flat_slots ks z up (suc t) ls) ∙ omega (arith, own-long l t, flat-slots-long (suc t) ls)

-- ---- a cell of the list of cells

patch-at : (ks : List ℕ) (t : ℕ) (ls : List Leaf) (v : ℕ) (d : NetCell) → v < length ls → get_or (flat_patches ks t ls) v d ≡ patch_by ks (4 * (t + v)) (Flat.leaf_at ls v).poly.sheet
unfolding flat_patches
patch-at ks t [] v d h = absurd (omega arith)
patch-at ks t (l ∷ ls) zero d h = ap (λ (i : ℕ). patch_by ks (4 * i) l.poly.sheet) (let e : t ≡ t + 0 = omega arith in e)
patch-at ks t (l ∷ ls) (suc v) d h = patch-at ks (suc t) ls v d (omega arith) ∙ ap (λ (i : ℕ). patch_by ks (4 * i) (Flat.leaf_at ls v).poly.sheet) (let e : suc t + v ≡ t + suc v = omega arith in e)

pub patches-long : (ks : List ℕ) (t : ℕ) (ls : List Leaf) → length (flat_patches ks t ls) ≡ length ls
unfolding flat_patches
patches-long ks t [] = refl
patches-long ks t (l ∷ ls) = ap suc (patches-long ks (suc t) ls)

-- ---- the rows

some_same : (b b' : Bool) (x x' : ℕ) → b ≡ b' → (b' ≡ true → x ≡ x') → ◌≡◌ {A = Option ℕ} (cond b (Some x) None) (cond b' (Some x') None)
some_same b true x x' e f = ap (λ (z : Bool). cond z (Some x) None) e ∙ ap Some (f refl)
some_same b false x x' e f = ap (λ (z : Bool). cond z (Some x) None) e

module _ (s : Sides) (qs : List Piece) (are : leaves_in s.leaves ≡ leaves_from qs 0) (ks : List ℕ) (K : Keyed same_node nowhere (flat_places (leaves_from qs 0)) ks)
    (nums : (i : ℕ) → i < length s.numbers.now → get_or s.numbers.now i 0 ≡ number_by ks i)
    (mids : (i : ℕ) → i < length s.middles.now → get_or s.middles.now i 0 ≡ first_of ks (4 * length s.leaves.entries.now + i)) where
  abbrev ls : List Leaf
  ls = leaves_from qs 0

  abbrev l : ℕ
  l = length s.leaves.entries.now

  many : length ls ≡ l
  many = ap length (sym are) ∙ leaves-length s.leaves

  leaf-is : (v : ℕ) → v < l → Flat.leaf_at ls v ≡ leaf_in s v
  leaf-is v h = ap (λ (z : List Leaf). Flat.leaf_at z v) (sym are) ∙ get_or-map (λ e. leaf_of s.leaves.polygons s.leaves.sheets.now (leaf_from e)) s.leaves.entries.now v [] Flat.no_leaf h

  corner-is : (v c : ℕ) → v < l → c < 4 → number_by ks (on (4 * (0 + v)) c) ≡ corner_in s v c
  corner-is v c h k =
      let n = s.a_number_each in
      ap (number_by ks) (on_is (4 * (0 + v)) c ∙ (let e : 4 * (0 + v) + c ≡ 4 * v + c = omega arith in e)) ∙ sym (nums (4 * v + c) (omega arith))

  middle-is : (v : ℕ) (q : Side) → v < l → index_of q < 4 → first_of ks (on (4 * length ls + 4 * (0 + v)) (index_of q)) ≡ middle_in s v q
  middle-is v q h k =
      let n = many in
      let m = s.a_place_each in
      ap (first_of ks) (on_is (4 * length ls + 4 * (0 + v)) (index_of q) ∙ (let e : 4 * length ls + 4 * (0 + v) + index_of q ≡ 4 * l + (4 * v + index_of q) = omega arith in e))
      ∙ sym (mids (4 * v + index_of q) (omega arith))

  hit-is : (v : ℕ) (q : Side) → v < l → index_of q < 4 → ltb (first_of ks (on (4 * length ls + 4 * (0 + v)) (index_of q))) (4 * count_up ls (leaf_in s v).piece)
      ≡ (ltb (middle_in s v q) (length s.numbers.now) && leb (leaf_in s (middle_in s v q / 4)).piece (leaf_in s v).piece)
  hit-is v q h k =
      let n = many in
      let m = s.a_number_each in
      let f = middle_in s v q in
      ap (λ (z : ℕ). ltb z (4 * count_up ls (leaf_in s v).piece)) (middle-is v q h k)
      ∙ (so-far-four ls 0 (leaf_in s v).piece f (rising-from qs 0 0 (omega arith))
      ∙ (ap (λ (z : ℕ). ltb f z && leb (Flat.leaf_at ls (f / 4)).piece (leaf_in s v).piece) (let e : 4 * length ls ≡ length s.numbers.now = omega arith in e)
      ∙ ⊎_elim
      (λ (p : f < length s.numbers.now). ap (λ (x : Leaf). ltb f (length s.numbers.now) && leb x.piece (leaf_in s v).piece) (leaf-is (f / 4) (omega arith)))
      (λ (p : length s.numbers.now ≤ f). rw (le-ltb f (length s.numbers.now) p) refl)
      (cases_lt f (length s.numbers.now))))

  number-is : (v : ℕ) (q : Side) → v < l → index_of q < 4 → ltb (middle_in s v q) (length s.numbers.now) ≡ true → number_by ks (on (4 * length ls + 4 * (0 + v)) (index_of q)) ≡ get_or s.numbers.now (middle_in s v q) 0
  number-is v q h k t =
      let f = ltb-true (middle_in s v q) (length s.numbers.now) t in
      let i = on (4 * length ls + 4 * (0 + v)) (index_of q) in
      let n = many in
      let m = s.a_number_each in
      let w = K.long in
      let e = middle-is v q h k in
      sym (nums (middle_in s v q) f ∙ ap (rank ks) (ap (first_of ks) (sym e) ∙ eqb-true (first_of ks (first_of ks i)) (first_of ks i) (first-new ks (key ks i) (omega (arith, places-length ls)))))

  edge-is : (v : ℕ) (q : Side) (second : Bool) → v < l → side_edge ks (4 * count_up ls (leaf_in s v).piece) (4 * (0 + v)) (4 * length ls + 4 * (0 + v)) (leaf_in s v) second q
      ≡ half_edge second (node_so_far s v (middle_in s v q)) (corner_in s v (from_corner q)) (corner_in s v (to_corner q)) (resistance (leaf_in s v) q)
  edge-is v q second h =
      let x = some_same _ _ _ _ (hit-is v q h (low q).0) (λ t. number-is v q h (low q).0 (both _ _ t).0) in
      let a = corner-is v (from_corner q) h (low q).1 in
      let b = corner-is v (to_corner q) h (low q).2 in
      λ i. half_edge second (x i) (a i) (b i) (resistance (leaf_in s v) q)
    where
      low : (q : Side) → (index_of q < 4) × (from_corner q < 4) × (to_corner q < 4)
      low South = (omega arith, omega arith, omega arith)
      low North = (omega arith, omega arith, omega arith)
      low West = (omega arith, omega arith, omega arith)
      low East = (omega arith, omega arith, omega arith)

  abbrev slots : List Part
  slots = flat_slots ks (length ls) (count_up ls) 0 ls

  slot-is : (d : Part) (j : ℕ) → j < 8 * l → get_or slots j d ≡ part_at s j
  unfolding edge_at
  slot-is d j h =
      let n = many in
      let v : j / 8 < l = omega arith in
      ap (λ (i : ℕ). get_or slots i d) (let e : j ≡ 8 * (j / 8) + j % 8 = omega arith in e)
      ∙ (flat-slot ks (length ls) (count_up ls) d 0 ls (j / 8) (j % 8) (omega arith) (omega arith)
      ∙ (ap (λ (x : Leaf). slot_part ks (length ls) (count_up ls) d x (0 + j / 8) (j % 8)) (leaf-is (j / 8) v)
      ∙ (ap (λ (i : ℕ). part (leaf_in s (j / 8)).piece (side_edge ks (4 * count_up ls (leaf_in s (j / 8)).piece) (4 * (0 + j / 8)) (4 * length ls + 4 * (0 + j / 8)) (leaf_in s (j / 8)) (i == 1) (side_at (j % 8 / 2)))) (let e : j % 8 % 2 ≡ j % 2 = omega arith in e)
      ∙ ap (part (leaf_in s (j / 8)).piece) (edge-is (j / 8) (side_at (j % 8 / 2)) (j % 2 == 1) v))))

  slots-are : slots ≡ parts_in s
  slots-are =
      let n = many in
      let d = part_at s 0 in
      fill_by_all (part_at s) slots (8 * l) d (flat-slots-long ks (length ls) (count_up ls) d 0 ls ∙ ap (λ (x : ℕ). 8 * x) n) (slot-is d)

  pub edges-are : edges_from [] qs ≡ edges_in s
  unfolding edges_in
  edges-are = flat-edges qs ks K (count_up ls) (upto_all qs) ∙ ap (λ (z : List Part). map edge_of (weld same_part [] z)) slots-are

  pub cells-are : patches_from [] qs ≡ cells_in s
  unfolding cells_in
  cells-are =
      flat-cells qs ks K
      ∙ fill_by_all (cell_at s) (flat_patches ks 0 ls) l (cell_at s 0) (patches-long ks 0 ls ∙ many)
      (λ v h. (let n = many in
      let a = corner-is v 0 h (omega arith) in
      let b = corner-is v 1 h (omega arith) in
      let c = corner-is v 2 h (omega arith) in
      let e = corner-is v 3 h (omega arith) in
      let x = leaf-is v h in
      patch-at ks 0 ls v (cell_at s 0) (omega arith)
      ∙ (λ i. record { corners = record { southwest = a i; southeast = b i; northeast = c i; northwest = e i }; sheet = (x i).poly.sheet })))
