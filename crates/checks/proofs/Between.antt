-- Laws of the places strictly between two of one line, and of the nodes that stand there. Assumes nothing.
use Rattle.std.proofs.Common.{ℕ, zero, suc, ◌+◌, ◌-◌, ◌<◌, ◌≤◌, ◌≡◌, refl, sym, ap, ap₂, subst, ◌∙◌, Bool, true, false, Option, None, Some, List, [], ◌∷◌, map, ⊎_elim, eq-or-lt_of_le, arith}
use Rattle.std.specs.List.{range_with_len, find, filter_map, cons_option}
use Rattle.std.specs.Option.{is_some}
use Rattle.std.specs.Int.{abs_diff}
use Rattle.std.proofs.lemmas.Bool.{true≢false, false_from_ne_true}
use Rattle.std.proofs.lemmas.Bool.Decides.{nat_tests}
use Rattle.net_rows.specs.declared.rows.Node.{Node}
use Rattle.net_rows.specs.declared.axis.Axis.{Axis}
use Rattle.net_rows.specs.declared.axis.Axis.TheVariants.{Column, Row}
use Rattle.checks.specs.declared.asked.Place.{Place}
use Rattle.checks.specs.declared.asked.Class.{Class}
use Rattle.checks.specs.Entries.{facing, IsInside}
use Rattle.checks.specs.Nodes.{node_at, next_place, nodes_between}
use Rattle.checks.specs.Sides.{Near, OnLine, toward, place_toward, ticks_between, places_between}

-- the place on the line of an axis
abbrev pub on_axis : Axis → ℕ → ℕ → Place
on_axis axis line y = facing axis (record { x = line; y = y })

-- ---- numbers
-- y is reached after as many ticks as it is away
reached : (a b y : ℕ) → IsInside a b y → toward a b (abs_diff a y) ≡ y
reached a b y (l, h) = grind (arith, nat_tests)

some-ticks : (a b y : ℕ) → IsInside a b y → 1 ≤ abs_diff a y
some-ticks a b y (l, h) = omega arith

fewer-ticks : (a b y : ℕ) → IsInside a b y → abs_diff a y < 1 + (abs_diff a b - 1)
fewer-ticks a b y (l, h) = omega arith

-- so many ticks on is between
inner-toward : (a b d : ℕ) → 1 ≤ d → d < abs_diff a b → IsInside a b (toward a b d)
inner-toward a b d l h = (grind (arith, nat_tests), grind (arith, nat_tests))

inner-before : (a b y d : ℕ) → IsInside a b y → 1 ≤ d → d < abs_diff a y → IsInside a y (toward a b d)
inner-before a b y d (p, q) l h = (grind (arith, nat_tests), grind (arith, nat_tests))

-- on from there is on from the beginning
onward : (a b c d : ℕ) → toward (toward a b c) b d ≡ toward a b (c + d)
onward a b c d = grind (arith, nat_tests)

ticks-left : (a b d : ℕ) → abs_diff (toward a b d) b ≡ abs_diff a b - d
ticks-left a b d = grind (arith, nat_tests)

ticks-fewer : (a b y : ℕ) → IsInside a b y → abs_diff y b < abs_diff a b
ticks-fewer a b y (l, h) = omega arith

stays : (line d : ℕ) → toward line line d ≡ line
stays line d = grind (arith, nat_tests)

no-ticks : (line n : ℕ) → abs_diff line line + n ≡ n
no-ticks line n = omega arith

-- ---- lists
module _ {X Y : Type 0} (g : X → Option Y) where
  abbrev test : X → Bool
  test x = is_some (g x)

  none-found : (xs : List X) → find test xs ≡ None → filter_map g xs ≡ []
  none-found [] e = refl
  none-found (x ∷ xs) e = by (g x) refl (λ p. none-found xs (rw p at e))
    where
      by : (o : Option Y) → g x ≡ o → (g x ≡ None → filter_map g xs ≡ []) → filter_map g (x ∷ xs) ≡ []
      by None p rest = rw p (rest p)
      by (Some y) p rest = absurd (let q = rw p at e in cc)

  module _ (f : ℕ → X) where
    find-not : (s n : ℕ) → ((i : ℕ) → s ≤ i → i < s + n → test (f i) ≡ false) → find test (map f (range_with_len s n)) ≡ None
    find-not s zero b = refl
    find-not s (suc n) b = rw (b s (omega arith) (omega arith)) (find-not (s + 1) n (λ i l h. b i (omega arith) (omega arith)))

    find-is : (s n i : ℕ) → s ≤ i → i < s + n → test (f i) ≡ true → ((j : ℕ) → s ≤ j → j < i → test (f j) ≡ false)
        → find test (map f (range_with_len s n)) ≡ Some (f i)
    find-is s zero i l h t b = absurd (omega arith)
    find-is s (suc n) i l h t b =
        ⊎_elim
        (λ (e : s ≡ i). let here : test (f s) ≡ true = ap (λ k. test (f k)) e ∙ t in rw here (ap (λ k. Some (f k)) e))
        (λ (k : s < i). rw (b s (omega arith) k) (find-is (s + 1) n i (omega arith) (omega arith) t (λ j p q. b j (omega arith) q)))
        (eq-or-lt_of_le l)

    -- where q is found first, and that what is found is q's, and then what is found past it
    record Found (s n : ℕ) (q : X) : Type 0 where
      place : ℕ
      from : s ≤ place
      upto : place < s + n
      is : f place ≡ q
      passes : test q ≡ true
      rest : (m : ℕ) → place + 1 + m ≡ s + n → filter_map g (map f (range_with_len s n)) ≡ cons_option (g q) (filter_map g (map f (range_with_len (place + 1) m)))

    found : (s n : ℕ) (q : X) → find test (map f (range_with_len s n)) ≡ Some q → Found s n q
    found s zero q e = absurd cc
    found s (suc n) q e = by (g (f s)) refl (λ p. found (s + 1) n q (rw p at e))
      where
        by : (o : Option Y) → g (f s) ≡ o → (g (f s) ≡ None → Found (s + 1) n q) → Found s (suc n) q
        by None p further =
            let r = further p in
            let from = r.from in
            let upto = r.upto in
            record { place = r.place; from = omega arith; upto = omega arith; is = r.is; passes = r.passes; rest = λ m h. rw p (r.rest m (omega arith)) }
        by (Some y) p further =
            let is : f s ≡ q = (let k = rw p at e in cc) in
            record {
              place = s;
              from = omega arith;
              upto = omega arith;
              is = is;
              passes = ap test (sym is) ∙ ap is_some p;
              rest = λ m h. let k : m ≡ n = omega arith in ap₂ (λ x l. cons_option (g x) (filter_map g (map f (range_with_len (s + 1) l)))) is (sym k);
            }

same-map : {X : Type 0} (f g : ℕ → X) → ((i : ℕ) → f i ≡ g i) → (xs : List ℕ) → map f xs ≡ map g xs
same-map f g e [] = refl
same-map f g e (x ∷ xs) = ap₂ (λ y ys. y ∷ ys) (e x) (same-map f g e xs)

-- a range as one that begins elsewhere
moved-map : {X : Type 0} (f g : ℕ → X) (s t n : ℕ) → ((i : ℕ) → f (s + i) ≡ g (t + i)) → map f (range_with_len s n) ≡ map g (range_with_len t n)
moved-map f g s t zero e = refl
moved-map f g s t (suc n) e =
    let h : f s ≡ g t = (let a : s ≡ s + 0 = omega arith in let b : t + 0 ≡ t = omega arith in ap f a ∙ e 0 ∙ ap g b) in
    ap₂ (λ y ys. y ∷ ys) h (moved-map f g (s + 1) (t + 1) n (λ i. let a : s + 1 + i ≡ s + (i + 1) = omega arith in let b : t + (i + 1) ≡ t + 1 + i = omega arith in ap f a ∙ e (i + 1) ∙ ap g b))

-- ---- the places between two of one line
module _ (axis : Axis) (line : ℕ) where
  abbrev at : ℕ → Place
  at y = on_axis axis line y

  toward-on : (a b d : ℕ) → place_toward (at a) (at b) d ≡ at (toward a b d)
  toward-on a b d = by axis
    where
      by : (x : Axis) → place_toward (on_axis x line a) (on_axis x line b) d ≡ on_axis x line (toward a b d)
      by Column = ap (λ k. on_axis Column k (toward a b d)) (stays line d)
      by Row = ap (λ k. on_axis Row k (toward a b d)) (stays line d)

  ticks-on : (a b : ℕ) → ticks_between (at a) (at b) ≡ abs_diff a b
  ticks-on a b = by axis
    where
      by : (x : Axis) → ticks_between (on_axis x line a) (on_axis x line b) ≡ abs_diff a b
      by Column = omega arith
      by Row = omega arith

  places-on : (a b : ℕ) → places_between (at a) (at b) ≡ map (λ d. at (toward a b d)) (range_with_len 1 (abs_diff a b - 1))
  unfolding places_between
  places-on a b = ap (λ n. map (place_toward (at a) (at b)) (range_with_len 1 (n - 1))) (ticks-on a b) ∙ same-map _ _ (toward-on a b) _

-- ---- the nodes that stand there
module _ (nodes : List Node) (class : Class) (axis : Axis) (line : ℕ) where
  abbrev spot : ℕ → Place
  spot y = on_axis axis line y

  abbrev node : Place → Option ℕ
  node = node_at nodes class

  abbrev has : ℕ → Bool
  has y = is_some (node (spot y))

  pub next-not : (a b : ℕ) → ((z : ℕ) → IsInside a b z → has z ≡ false) → next_place nodes class (spot a) (spot b) ≡ None
  unfolding next_place
  next-not a b f =
      ap (find (test node)) (places-on axis line a b)
      ∙ find-not node (λ d. spot (toward a b d)) 1 (abs_diff a b - 1) (λ d l h. f (toward a b d) (inner-toward a b d l (omega arith)))

  pub next-is : (a b y : ℕ) → IsInside a b y → has y ≡ true → ((z : ℕ) → IsInside a y z → has z ≡ false) → next_place nodes class (spot a) (spot b) ≡ Some (spot y)
  unfolding next_place
  next-is a b y i t f =
      let e = reached a b y i in
      ap (find (test node)) (places-on axis line a b)
      ∙ find-is node (λ d. spot (toward a b d)) 1 (abs_diff a b - 1) (abs_diff a y) (some-ticks a b y i) (fewer-ticks a b y i) (ap has e ∙ t) (λ j p q. f (toward a b j) (inner-before a b y j i p q))
      ∙ ap (λ k. Some (spot k)) e

  -- what is next: where it stands, and what comes after
  record Next (a b : ℕ) (q : Place) : Type 0 where
    y : ℕ
    is : q ≡ spot y
    inside : IsInside a b y
    stands : is_some (node q) ≡ true
    chain : nodes_between nodes class (spot a) (spot b) ≡ cons_option (node q) (nodes_between nodes class q (spot b))

  next-at : (a b : ℕ) (q : Place) → next_place nodes class (spot a) (spot b) ≡ Some q → Next a b q
  unfolding next_place nodes_between
  next-at a b q e =
      let f = λ (d : ℕ). spot (toward a b d) in
      let r = found node f 1 (abs_diff a b - 1) q (sym (ap (find (test node)) (places-on axis line a b)) ∙ e) in
      let from = r.from in
      let upto = r.upto in
      let y = toward a b r.place in
      let m = abs_diff y b - 1 in
      let left = ticks-left a b r.place in
      let moved = moved-map f (λ d. spot (toward y b d)) (r.place + 1) 1 m (λ i.
      let s : r.place + 1 + i ≡ r.place + (1 + i) = omega arith in ap f s ∙ ap spot (sym (onward a b r.place (1 + i)))) in
      let further : filter_map node (map f (range_with_len (r.place + 1) m)) ≡ nodes_between nodes class (spot y) (spot b) = ap (filter_map node) (moved ∙ sym (places-on axis line y b)) in
      record {
        y = y;
        is = sym r.is;
        inside = inner-toward a b r.place from (omega arith);
        stands = r.passes;
        chain =
            ap (filter_map node) (places-on axis line a b)
            ∙ r.rest m (omega arith)
            ∙ ap (cons_option (node q)) (further ∙ ap (λ p. nodes_between nodes class p (spot b)) r.is);
      }

  -- if no node stands between but perhaps at m
  pub between-one : (a b m : ℕ) → IsInside a b m → ((z : ℕ) → IsInside a b z → has z ≡ true → z ≡ m)
      → nodes_between nodes class (spot a) (spot b) ≡ cons_option (node (spot m)) []
  unfolding next_place nodes_between
  between-one a b m i f = by (node (spot m)) refl
    where
      other : (z : ℕ) → IsInside a b z → (z ≡ m → ⊥) → has z ≡ false
      other z j n = false_from_ne_true (has z) (λ t. n (f z j t))

      by : (o : Option ℕ) → node (spot m) ≡ o → nodes_between nodes class (spot a) (spot b) ≡ cons_option (node (spot m)) []
      by None p =
          none-found node (places_between (spot a) (spot b)) (next-not a b (λ z j. false_from_ne_true (has z) (λ t. true≢false (sym t ∙ ap has (f z j t) ∙ ap is_some p))))
          ∙ ap (λ o. cons_option o []) (sym p)
      by (Some n) p =
          let r = next-at a b (spot m) (next-is a b m i (ap is_some p) (λ z (j, k). other z (omega arith, omega arith) (λ e. omega arith))) in
          r.chain
          ∙ ap (cons_option (node (spot m))) (none-found node (places_between (spot m) (spot b)) (next-not m b (λ z (j, k). other z (omega arith, omega arith) (λ e. omega arith))))

-- ---- places as they are
pub facing-twice : (axis : Axis) (p : Place) → on_axis axis (facing axis p).x (facing axis p).y ≡ p
facing-twice Column p = refl
facing-twice Row p = refl

pub same-line : (axis : Axis) (a b : Place) → OnLine axis a b → (facing axis a).x ≡ (facing axis b).x
same-line Column a b l = l
same-line Row a b l = l

line-on : (axis : Axis) (line y z : ℕ) → OnLine axis (on_axis axis line y) (on_axis axis line z)
line-on Column line y z = refl
line-on Row line y z = refl

pub near-on : (axis : Axis) (line a b y : ℕ) → IsInside a b y → Near (on_axis axis line a) → Near (on_axis axis line b) → Near (on_axis axis line y)
near-on Column line a b y (l, h) s e = let p = s.y in let q = e.y in record { x = s.x; y = omega arith }
near-on Row line a b y (l, h) s e = let p = s.x in let q = e.x in record { x = omega arith; y = s.y }

pub between-none : (nodes : List Node) (class : Class) (a b : Place) → next_place nodes class a b ≡ None → nodes_between nodes class a b ≡ []
unfolding next_place nodes_between
between-none nodes class a b e = none-found (node_at nodes class) (places_between a b) e

-- q is the next place on the way from a to b
pub record IsNext (nodes : List Node) (class : Class) (axis : Axis) (a b q : Place) : Type 0 where
  pub line : OnLine axis q b
  pub near : Near a → Near b → Near q
  pub nearer : ticks_between q b < ticks_between a b
  pub stands : is_some (node_at nodes class q) ≡ true
  pub chain : nodes_between nodes class a b ≡ cons_option (node_at nodes class q) (nodes_between nodes class q b)

next-on : (nodes : List Node) (class : Class) (axis : Axis) (line a b : ℕ) (q : Place)
    → next_place nodes class (on_axis axis line a) (on_axis axis line b) ≡ Some q → IsNext nodes class axis (on_axis axis line a) (on_axis axis line b) q
next-on nodes class axis line a b q e =
    let r = next-at nodes class axis line a b q e in
    let inside = r.inside in
    let fewer : abs_diff r.y b < abs_diff a b = ticks-fewer a b r.y inside in
    record {
      line = subst (λ p. OnLine axis p (on_axis axis line b)) (sym r.is) (line-on axis line r.y b);
      near = λ s t. subst Near (sym r.is) (near-on axis line a b r.y inside s t);
      nearer =
          subst (λ p. ticks_between p (on_axis axis line b) < ticks_between (on_axis axis line a) (on_axis axis line b)) (sym r.is)
          (rw (ticks-on axis line r.y b, ticks-on axis line a b) fewer);
      stands = r.stands;
      chain = r.chain;
    }

pub next-of : (nodes : List Node) (class : Class) (axis : Axis) (a b q : Place) → OnLine axis a b → next_place nodes class a b ≡ Some q → IsNext nodes class axis a b q
next-of nodes class axis a b q l =
    subst (λ s. next_place nodes class s b ≡ Some q → IsNext nodes class axis s b q) (facing-twice axis a)
    (subst (λ t. next_place nodes class (on_axis axis (facing axis a).x (facing axis a).y) t ≡ Some q → IsNext nodes class axis (on_axis axis (facing axis a).x (facing axis a).y) t q)
    (ap (λ x. on_axis axis x (facing axis b).y) (same-line axis a b l) ∙ facing-twice axis b)
    (next-on nodes class axis (facing axis a).x (facing axis a).y (facing axis b).y q))
