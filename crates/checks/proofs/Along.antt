-- The first entry past a key on its line, in a row in order. Assumes nothing.
use Rattle.std.proofs.Common.{ℕ, ◌-◌, ◌<◌, ◌≤◌, ◌≡◌, refl, sym, ap, subst, ◌∙◌, Bool, true, false, ◌&&◌, ◌==◌, Option, None, Some, List, [], ◌∷◌, length, get_or, slice_get, take, drop, nat_eq, nat_lt, ⊎_elim, arith, IfSome, IfNone, IsSorted}
use Rattle.std.specs.Bool.{then_some}
use Rattle.std.specs.List.{starts_with, list_any}
use Rattle.std.specs.List.Sorted.{IsPartitionPoint}
use Rattle.std.specs.Ordering.{is_lt, nat_cmp}
use Rattle.std.specs.Cmp.Lexicographic.{slice_cmp}
use Rattle.std.proofs.lemmas.Bool.{false_from_ne_true, true≢false, cases_lt}
use Rattle.std.proofs.lemmas.Bool.Decides.{nat_tests}
use Rattle.std.proofs.lemmas.Cmp.{nat_list_cmp_total}
use Rattle.std.proofs.lemmas.List.{get_or_default, length-drop, get_or-drop, length-take, get_or-take}
use Rattle.std.proofs.lemmas.List.Folds.{list_any_at, list_any_none}
use Rattle.std.proofs.lemmas.List.Sorted.{ranks_by, sorted_far}
use Rattle.std.proofs.lemmas.Option.{get_or_from_slice_get, slice_get-get_or, slice_get_within}
use Rattle.sorted.specs.Upto.{is_upto}
use Rattle.checks.specs.declared.asked.Place.{Place}
use Rattle.checks.specs.declared.asked.Class.{Class}
use Rattle.checks.specs.declared.asked.Class.TheVariants.{Any, Of}
use Rattle.checks.specs.Entries.{key_of, has_entry, IsInside, NoneInside, IsNearest}

-- ---- entries of one line
module _ (a b c : ℕ) where
  abbrev at : ℕ → List ℕ
  at y = a ∷ b ∷ c ∷ y ∷ []

  abbrev stands : ℕ → List ℕ → Bool
  stands y e = starts_with nat_eq e (at y)

  shape : (z : ℕ) (e : List ℕ) → stands z e ≡ true → e ≡ a ∷ b ∷ c ∷ z ∷ drop 4 e
  shape z [] h = grind arith
  shape z (p ∷ []) h = grind (arith, nat_tests)
  shape z (p ∷ q ∷ []) h = grind (arith, nat_tests)
  shape z (p ∷ q ∷ r ∷ []) h = grind (arith, nat_tests)
  shape z (p ∷ q ∷ r ∷ s ∷ e) h = grind (arith, nat_tests)

  -- of one line the lesser stands before
  upto_at : (from z : ℕ) (r : List ℕ) → is_upto (at from) (a ∷ b ∷ c ∷ z ∷ r) ≡ true → z ≤ from
  upto_at from z r h = grind (arith, nat_tests)

  past_at : (from z : ℕ) (r : List ℕ) → is_upto (at from) (a ∷ b ∷ c ∷ z ∷ r) ≡ false → from < z
  past_at from z r h = grind (arith, nat_tests)

  below_at : (from z : ℕ) (r : List ℕ) → is_lt (slice_cmp nat_cmp (a ∷ b ∷ c ∷ z ∷ r) (at from)) ≡ true → z < from
  below_at from z [] h = grind (arith, nat_tests)
  below_at from z (_ ∷ r) h = grind (arith, nat_tests)

  no_less_at : (from z : ℕ) (r : List ℕ) → is_lt (slice_cmp nat_cmp (a ∷ b ∷ c ∷ z ∷ r) (at from)) ≡ false → from ≤ z
  no_less_at from z r h = grind (arith, nat_tests)

  rises : (y z : ℕ) (r s : List ℕ) → is_lt (slice_cmp nat_cmp (a ∷ b ∷ c ∷ z ∷ r) (a ∷ b ∷ c ∷ y ∷ s)) ≡ false → y ≤ z
  rises y z r s h = grind (arith, nat_tests)

  -- what lies between a key and an entry of its line is of that line
  abbrev pub on_line : List ℕ → Bool
  on_line e = ((get_or e 0 0 == a) && (get_or e 1 0 == b)) && (get_or e 2 0 == c)

  squeezed_up : (from to z : ℕ) (r e : List ℕ) → is_upto (at from) e ≡ false → is_lt (slice_cmp nat_cmp (a ∷ b ∷ c ∷ z ∷ r) e) ≡ false → z < to
      → (on_line e && nat_lt (get_or e 3 0) to) ≡ true
  squeezed_up from to z r [] h g l = grind arith
  squeezed_up from to z r (p ∷ []) h g l = grind (arith, nat_tests)
  squeezed_up from to z r (p ∷ q ∷ []) h g l = grind (arith, nat_tests)
  squeezed_up from to z r (p ∷ q ∷ x ∷ []) h g l = grind (arith, nat_tests)
  squeezed_up from to z r (p ∷ q ∷ x ∷ y ∷ e) h g l = grind (arith, nat_tests)

  squeezed_down : (from to z : ℕ) (r e : List ℕ) → is_lt (slice_cmp nat_cmp e (at from)) ≡ true → is_lt (slice_cmp nat_cmp e (a ∷ b ∷ c ∷ z ∷ r)) ≡ false → to < z
      → (on_line e && nat_lt to (get_or e 3 0)) ≡ true
  squeezed_down from to z r [] h g l = grind arith
  squeezed_down from to z r (p ∷ []) h g l = grind (arith, nat_tests)
  squeezed_down from to z r (p ∷ q ∷ []) h g l = grind (arith, nat_tests)
  squeezed_down from to z r (p ∷ q ∷ x ∷ []) h g l = grind (arith, nat_tests)
  squeezed_down from to z r (p ∷ q ∷ x ∷ y ∷ e) h g l = grind (arith, nat_tests)

  stands-of : (e : List ℕ) (t : Bool) → length e ≡ 5 → (on_line e && t) ≡ true → stands (get_or e 3 0) e ≡ true
  stands-of [] t n h = absurd (omega arith)
  stands-of (p ∷ []) t n h = absurd (omega arith)
  stands-of (p ∷ q ∷ []) t n h = absurd (omega arith)
  stands-of (p ∷ q ∷ x ∷ []) t n h = absurd (omega arith)
  stands-of (p ∷ q ∷ x ∷ y ∷ e) t n h = grind (arith, nat_tests)

second : (a b : Bool) → (a && b) ≡ true → b ≡ true
second true b h = h
second false b h = cc

ends : (xs : List (List ℕ)) (i : ℕ) → slice_get xs i ≡ None → length xs ≤ i
ends xs i h = ⊎_elim (λ (l : i < length xs). no (sym h ∙ slice_get-get_or xs i [] l)) (λ (l : length xs ≤ i). l) (cases_lt i (length xs))
  where
    no : {x : List ℕ} {q : Type 0} → ◌≡◌ {A = Option (List ℕ)} None (Some x) → q
    no e = cc

pick : (P : ℕ → Type 0) (Q : Type 0) (t : Bool) (y : ℕ) (o : Option ℕ) → o ≡ then_some t y → (t ≡ true → P y) → (t ≡ false → Q) → IfSome o P × IfNone o Q
pick P Q true y o e p q = subst (λ x. IfSome x P × IfNone x Q) (sym e) (p refl, tt)
pick P Q false y o e p q = subst (λ x. IfSome x P × IfNone x Q) (sym e) (tt, q refl)

-- ---- a row in order
module _ (a b c : ℕ) (row : List (List ℕ)) (sorted : IsSorted (slice_cmp nat_cmp) row) (from to : ℕ) where
  abbrev has : ℕ → Bool
  has z = list_any (stands a b c z) row

  abbrev at_row : ℕ → List ℕ
  at_row k = get_or row k []

  abbrev NoneTo : ℕ → Type 0
  NoneTo y = (z : ℕ) → IsInside from y z → has z ≡ false

  record Nearest (y : ℕ) : Type 0 where
    pub inside : IsInside from to y
    pub stands : has y ≡ true
    pub none_nearer : NoneTo y

  none-of : (z : ℕ) → ((k : ℕ) → k < length row → stands a b c z (at_row k) ≡ true → ⊥) → has z ≡ false
  none-of z f = list_any_none (stands a b c z) row (λ i d h. false_from_ne_true _ (λ t. f i h (ap (stands a b c z) (get_or_default row i [] d h) ∙ t)))

  in_order : (i k : ℕ) → i ≤ k → k < length row → is_lt (slice_cmp nat_cmp (at_row k) (at_row i)) ≡ false
  in_order i k l h = sorted_far (λ (x y : List ℕ). is_lt (slice_cmp nat_cmp x y)) (ranks_by nat_list_cmp_total (λ (x : List ℕ). x)) row sorted i k [] l h

  -- ---- from less to more
  module _ (n : ℕ) (within : n ≤ length row) (U : IsPartitionPoint (λ e. is_upto (at a b c from) e ≡ true) (λ e. is_upto (at a b c from) e ≡ false) row n) where
    front : (k : ℕ) → k < n → (z : ℕ) → stands a b c z (at_row k) ≡ true → z ≤ from
    front k h z t = upto_at a b c from z (drop 4 (at_row k)) (subst (λ e. is_upto (at a b c from) e ≡ true) (shape a b c z (at_row k) t) (U.0 k [] (omega arith) h))

    up-none : slice_get (drop n row) 0 ≡ None → from < to → NoneTo to
    up-none s o z i =
        none-of z (λ k h t.
        let m = ends (drop n row) 0 s in
        let q = length-drop n row in
        let u : z ≤ from = front k (omega arith) z t in
        omega arith)

    module _ (e : List ℕ) (s : slice_get (drop n row) 0 ≡ Some e) where
      there : n < length row
      there = let w = slice_get_within (drop n row) 0 e s in let q = length-drop n row in omega arith

      is : at_row n ≡ e
      is = ap (λ (k : ℕ). at_row k) (omega arith) ∙ (sym (get_or-drop n row 0 []) ∙ get_or_from_slice_get (drop n row) 0 e [] s)

      apart : is_upto (at a b c from) e ≡ false
      apart = subst (λ x. is_upto (at a b c from) x ≡ false) is (U.1 n [] (omega arith) there)

      far : (k : ℕ) → k < length row → (z : ℕ) → from < z → stands a b c z (at_row k) ≡ true → is_lt (slice_cmp nat_cmp (a ∷ b ∷ c ∷ z ∷ drop 4 (at_row k)) e) ≡ false
      far k h z l t =
          let m : n ≤ k = ⊎_elim (λ (q : k < n). (let u = front k q z t in absurd (omega arith))) (λ (q : n ≤ k). q) (cases_lt k n) in
          subst (λ x. is_lt (slice_cmp nat_cmp x e) ≡ false) (shape a b c z (at_row k) t)
          (subst (λ x. is_lt (slice_cmp nat_cmp (at_row k) x) ≡ false) is (in_order n k m h))

      abbrev ahead : Bool
      ahead = on_line a b c e && nat_lt (get_or e 3 0) to

      up-missed : from < to → ahead ≡ false → NoneTo to
      up-missed o f z i =
          none-of z (λ k h t.
          true≢false (sym (squeezed_up a b c from to z (drop 4 (at_row k)) e apart (far k h z (omega arith) t) (omega arith)) ∙ f))

      up-next : from < to → length e ≡ 5 → ahead ≡ true → Nearest (get_or e 3 0)
      up-next o w t =
          let y = get_or e 3 0 in
          let st = stands-of a b c e (nat_lt y to) w t in
          let sh = shape a b c y e st in
          let p : from < y = past_at a b c from y (drop 4 e) (subst (λ x. is_upto (at a b c from) x ≡ false) sh apart) in
          let l : y < to = grind (arith, nat_tests, second (on_line a b c e) (nat_lt y to) t) in
          record {
            inside = (omega arith, omega arith);
            stands = list_any_at (stands a b c y) row n [] there (ap (stands a b c y) is ∙ st);
            none_nearer = λ z i. none-of z (λ k h v.
                let r : y ≤ z = rises a b c y z (drop 4 (at_row k)) (drop 4 e) (subst (λ x. is_lt (slice_cmp nat_cmp (a ∷ b ∷ c ∷ z ∷ drop 4 (at_row k)) x) ≡ false) sh (far k h z (omega arith) v)) in
                omega arith);
          }

  -- ---- from more to less
  module _ (n : ℕ) (within : n ≤ length row) (W : IsPartitionPoint (λ e. is_lt (slice_cmp nat_cmp e (at a b c from)) ≡ true) (λ e. is_lt (slice_cmp nat_cmp e (at a b c from)) ≡ false) row n) where
    back : (k : ℕ) → n ≤ k → k < length row → (z : ℕ) → stands a b c z (at_row k) ≡ true → from ≤ z
    back k g h z t = no_less_at a b c from z (drop 4 (at_row k)) (subst (λ e. is_lt (slice_cmp nat_cmp e (at a b c from)) ≡ false) (shape a b c z (at_row k) t) (W.1 k [] g h))

    down-none : slice_get (take n row) (length (take n row) - 1) ≡ None → to ≤ from → NoneTo to
    down-none s o z i =
        none-of z (λ k h t.
        let m = ends (take n row) (length (take n row) - 1) s in
        let q = length-take n row in
        let u : from ≤ z = back k (omega arith) h z t in
        omega arith)

    module _ (e : List ℕ) (s : slice_get (take n row) (length (take n row) - 1) ≡ Some e) where
      some : 0 < n
      some = let w = slice_get_within (take n row) (length (take n row) - 1) e s in let q = length-take n row in omega arith

      is_last : at_row (n - 1) ≡ e
      is_last =
          let q = length-take n row in
          let z = some in
          let k : length (take n row) - 1 ≡ n - 1 = omega arith in
          sym (get_or-take n row (n - 1) [] (omega arith)) ∙ (ap (λ (i : ℕ). get_or (take n row) i []) (sym k) ∙ get_or_from_slice_get (take n row) (length (take n row) - 1) e [] s)

      below : is_lt (slice_cmp nat_cmp e (at a b c from)) ≡ true
      below = let z = some in subst (λ x. is_lt (slice_cmp nat_cmp x (at a b c from)) ≡ true) is_last (W.0 (n - 1) [] (omega arith) (omega arith))

      near : (k : ℕ) → k < length row → (z : ℕ) → z < from → stands a b c z (at_row k) ≡ true → is_lt (slice_cmp nat_cmp e (a ∷ b ∷ c ∷ z ∷ drop 4 (at_row k))) ≡ false
      near k h z l t =
          let p = some in
          let m : k < n = ⊎_elim (λ (q : k < n). q) (λ (q : n ≤ k). (let u = back k q h z t in absurd (omega arith))) (cases_lt k n) in
          subst (λ x. is_lt (slice_cmp nat_cmp e x) ≡ false) (shape a b c z (at_row k) t)
          (subst (λ x. is_lt (slice_cmp nat_cmp x (at_row k)) ≡ false) is_last (in_order k (n - 1) (omega arith) (omega arith)))

      abbrev behind : Bool
      behind = on_line a b c e && nat_lt to (get_or e 3 0)

      down-missed : to ≤ from → behind ≡ false → NoneTo to
      down-missed o f z i =
          none-of z (λ k h t.
          true≢false (sym (squeezed_down a b c from to z (drop 4 (at_row k)) e below (near k h z (omega arith) t) (omega arith)) ∙ f))

      down-next : to ≤ from → length e ≡ 5 → behind ≡ true → Nearest (get_or e 3 0)
      down-next o w t =
          let y = get_or e 3 0 in
          let st = stands-of a b c e (nat_lt to y) w t in
          let sh = shape a b c y e st in
          let p : y < from = below_at a b c from y (drop 4 e) (subst (λ x. is_lt (slice_cmp nat_cmp x (at a b c from)) ≡ true) sh below) in
          let l : to < y = grind (arith, nat_tests, second (on_line a b c e) (nat_lt to y) t) in
          let q = some in
          record {
            inside = (omega arith, omega arith);
            stands = list_any_at (stands a b c y) row (n - 1) [] (omega arith) (ap (stands a b c y) is_last ∙ st);
            none_nearer = λ z i. none-of z (λ k h v.
                let r : z ≤ y = rises a b c z y (drop 4 e) (drop 4 (at_row k)) (subst (λ x. is_lt (slice_cmp nat_cmp x (a ∷ b ∷ c ∷ z ∷ drop 4 (at_row k))) ≡ false) sh (near k h z (omega arith) v)) in
                omega arith);
          }

-- ---- in the words of a class
along-key : (class : Class) (from : Place) (z : ℕ)
    → key_of class (record { x = from.x; y = z }) ≡ get_or (key_of class from) 0 0 ∷ get_or (key_of class from) 1 0 ∷ get_or (key_of class from) 2 0 ∷ z ∷ []
along-key Any from z = refl
along-key (Of layer component) from z = refl

module _ (row : List (List ℕ)) (sorted : IsSorted (slice_cmp nat_cmp) row) (wide : (i : ℕ) → i < length row → length (get_or row i []) ≡ 5) (class : Class) (from : Place) (to : ℕ) (key : List ℕ) (K : key ≡ key_of class from) where
  abbrev a : ℕ
  a = get_or key 0 0

  abbrev b : ℕ
  b = get_or key 1 0

  abbrev c : ℕ
  c = get_or key 2 0

  line-key : (z : ℕ) → key_of class (record { x = from.x; y = z }) ≡ at a b c z
  line-key z = along-key class from z ∙ ap (λ (k : List ℕ). get_or k 0 0 ∷ get_or k 1 0 ∷ get_or k 2 0 ∷ z ∷ []) (sym K)

  whole : key ≡ at a b c from.y
  whole = K ∙ line-key from.y

  has-is : (z : ℕ) → has_entry row class (record { x = from.x; y = z }) ≡ has a b c row sorted from.y to z
  has-is z = ap (λ (k : List ℕ). list_any (λ e. starts_with nat_eq e k) row) (line-key z)

  none-inside : (y : ℕ) → NoneTo a b c row sorted from.y to y → NoneInside row class from y
  none-inside y N z i = has-is z ∙ N z i

  is-nearest : (y : ℕ) → Nearest a b c row sorted from.y to y → IsNearest row class from to y
  is-nearest y N = record { inside = N.inside; stands = has-is y ∙ N.stands; none_nearer = none-inside y N.none_nearer }

  abbrev Answers : Option ℕ → Type 0
  Answers o = IfSome o (λ y. IsNearest row class from to y) × IfNone o (NoneInside row class from to)

  module _ (n : ℕ) (within : n ≤ length row) (U : IsPartitionPoint (λ e. is_upto key e ≡ true) (λ e. is_upto key e ≡ false) row n) (way : from.y < to) where
    parted : IsPartitionPoint (λ e. is_upto (at a b c from.y) e ≡ true) (λ e. is_upto (at a b c from.y) e ≡ false) row n
    parted = subst (λ k. IsPartitionPoint (λ e. is_upto k e ≡ true) (λ e. is_upto k e ≡ false) row n) whole U

    pub none-past : slice_get (drop n row) 0 ≡ None → NoneInside row class from to
    none-past s = none-inside to (up-none a b c row sorted from.y to n within parted s way)

    pub first-past : (e : List ℕ) → slice_get (drop n row) 0 ≡ Some e → (o : Option ℕ)
        → o ≡ then_some (on_line a b c e && nat_lt (get_or e 3 0) to) (get_or e 3 0) → Answers o
    first-past e s o is_o =
        let w = subst (λ x. length x ≡ 5) (is a b c row sorted from.y to n within parted e s) (wide n (there a b c row sorted from.y to n within parted e s)) in
        pick (λ y. IsNearest row class from to y) (NoneInside row class from to) _ _ o is_o
        (λ t. is-nearest _ (up-next a b c row sorted from.y to n within parted e s way w t))
        (λ f. none-inside to (up-missed a b c row sorted from.y to n within parted e s way f))

  module _ (n : ℕ) (within : n ≤ length row) (W : IsPartitionPoint (λ e. is_lt (slice_cmp nat_cmp e key) ≡ true) (λ e. is_lt (slice_cmp nat_cmp e key) ≡ false) row n) (way : to ≤ from.y) where
    split : IsPartitionPoint (λ e. is_lt (slice_cmp nat_cmp e (at a b c from.y)) ≡ true) (λ e. is_lt (slice_cmp nat_cmp e (at a b c from.y)) ≡ false) row n
    split = subst (λ k. IsPartitionPoint (λ e. is_lt (slice_cmp nat_cmp e k) ≡ true) (λ e. is_lt (slice_cmp nat_cmp e k) ≡ false) row n) whole W

    pub none-before : slice_get (take n row) (length (take n row) - 1) ≡ None → NoneInside row class from to
    none-before s = none-inside to (down-none a b c row sorted from.y to n within split s way)

    pub last-before : (e : List ℕ) → slice_get (take n row) (length (take n row) - 1) ≡ Some e → (o : Option ℕ)
        → o ≡ then_some (on_line a b c e && nat_lt to (get_or e 3 0)) (get_or e 3 0) → Answers o
    last-before e s o is_o =
        let h : n - 1 < length row = let z = some a b c row sorted from.y to n within split e s in omega arith in
        let w = subst (λ x. length x ≡ 5) (is_last a b c row sorted from.y to n within split e s) (wide (n - 1) h) in
        pick (λ y. IsNearest row class from to y) (NoneInside row class from to) _ _ o is_o
        (λ t. is-nearest _ (down-next a b c row sorted from.y to n within split e s way w t))
        (λ f. none-inside to (down-missed a b c row sorted from.y to n within split e s way f))
