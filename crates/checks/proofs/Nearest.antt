-- Laws of the walk over all nodes that finds the nearest one between two places of a line. Assumes nothing.
use Rattle.std.proofs.Common.{ℕ, zero, suc, ◌+◌, ◌<◌, ◌≤◌, ◌≡◌, refl, sym, ap, ap₂, subst, ◌∙◌, not, eq-or-lt_of_le, Bool, true, false, ◌&&◌, ◌==◌, nat_lt, min, max, cond, Some, List, length, All, ◌⊎◌, inl, inr, ⊎_elim, arith}
use Rattle.std.specs.Option.{is_some}
use Rattle.std.specs.Bool.{then_some}
use Rattle.std.specs.Ordering.{int_eq}
use Rattle.std.proofs.lemmas.Bool.Decides.{nat_tests}
use Rattle.refusals.specs.Limits.{coordinate}
use Rattle.cell.specs.Ticks.{on}
use Rattle.net_rows.specs.declared.rows.Node.{Node}
use Rattle.net_rows.specs.Nets.{no_node, nth_node}
use Rattle.net_rows.specs.Facts.{IsSoundNode}
use Rattle.net_rows.specs.declared.axis.Axis.{Axis}
use Rattle.net_rows.specs.declared.axis.Axis.TheVariants.{Column, Row}
use Rattle.checks.specs.declared.asked.Place.{Place}
use Rattle.checks.specs.declared.asked.Class.{Class}
use Rattle.checks.specs.Entries.{facing, is_between, place_of, IsInside}
use Rattle.checks.specs.Nodes.{is_of, line_of, here, last_below, node_at, next_place}
use Rattle.checks.specs.Sides.{Near, OnLine}
use Rattle.checks.proofs.Lasts.{last_more, last-not}
use Rattle.checks.proofs.Spots.{spot-same, flips}
use Rattle.checks.proofs.Between.{on_axis, next-is, next-not, facing-twice, same-line}

-- a number that passes is found, if not the last one
is-found : (p : ℕ → Bool) (n j : ℕ) → j < n → p j ≡ true → is_some (last_below p n) ≡ true
is-found p zero j h t = absurd (omega arith)
is-found p (suc n) j h t =
    let e : suc n ≡ n + 1 = omega arith in
    ap (λ m. is_some (last_below p m)) e
    ∙ ap is_some (last_more p n)
    ∙ ⊎_elim
    (λ (k : j ≡ n). ap (λ b. is_some (cond b (Some n) (last_below p n))) (ap p (sym k) ∙ t))
    (λ (l : j < n). by (p n) (is-found p n j l t))
    (eq-or-lt_of_le (omega arith))
  where
    by : (b : Bool) → is_some (last_below p n) ≡ true → is_some (cond b (Some n) (last_below p n)) ≡ true
    by true r = refl
    by false r = r

-- a node is on the line of a place exactly if its own line, in ticks, is that one
pub same_line_of : (axis : Axis) (n : Node) (p : Place) → Near p → IsSoundNode n → ((facing axis (place_of n)).x == (facing axis p).x) ≡ int_eq (line_of axis n) (on (facing axis p).x)
same_line_of Column n p near s = flips _ _ ∙ spot-same n.x p.x s.x near.x
same_line_of Row n p near s = flips _ _ ∙ spot-same n.y p.y s.y near.y

abbrev top : ℕ
top = coordinate + coordinate

-- a node is here exactly if its place is this one
stands-on : (class : Class) (axis : Axis) (line z : ℕ) (n : Node) → line ≤ top → z ≤ top → IsSoundNode n
    → here class (on (on_axis axis line z).x) (on (on_axis axis line z).y) n ≡ (is_of class n && (line == (facing axis (place_of n)).x && z == (facing axis (place_of n)).y))
unfolding here
stands-on class Column line z n l h s = rw (← spot-same n.x line s.x l, ← spot-same n.y z s.y h) (grind arith)
stands-on class Row line z n l h s = rw (← spot-same n.y line s.y l, ← spot-same n.x z s.x h) (grind arith)

-- one node that does not come before y
passed : (t : Bool) (fx fy line a y z : ℕ) → t && (fx == line && nat_lt (min a y) fy && nat_lt fy (max a y)) ≡ false → IsInside a y z → t && (line == fx && z == fy) ≡ false
passed t fx fy line a y z e (l, h) = grind (arith, nat_tests)

-- one that does, and no other place is nearer
here-now : (t : Bool) (fx fy line a y : ℕ) → t && (fx == line && nat_lt (min a y) fy && nat_lt fy (max a y)) ≡ true → (t && (line == fx && fy == fy) ≡ true) × IsInside a y fy
here-now t fx fy line a y e = (grind (arith, nat_tests), (grind (arith, nat_tests), grind (arith, nat_tests)))

no-nearer : (t : Bool) (fx fy line a z : ℕ) → IsInside a fy z → t && (line == fx && z == fy) ≡ false
no-nearer t fx fy line a z (l, h) = grind (arith, nat_tests)

module _ (nodes : List Node) (class : Class) (axis : Axis) (line a b : ℕ) where
  abbrev stands : ℕ → ℕ → Bool
  stands z j = let p = on_axis axis line z in here class (on p.x) (on p.y) (nth_node nodes j)

  -- of the first i nodes none is nearer than y
  pub record IsNearest (i y : ℕ) : Type 0 where
    pub known : (y ≡ b) ⊎ (IsInside a b y × is_some (node_at nodes class (on_axis axis line y)) ≡ true)
    pub none : (j z : ℕ) → j < i → IsInside a y z → stands z j ≡ false

  pub none-yet : IsNearest 0 b
  none-yet = record { known = inl refl; none = λ j z h. absurd (omega arith) }

  abbrev has : ℕ → Bool
  has z = is_some (node_at nodes class (on_axis axis line z))

  abbrev comes_before : ℕ → ℕ → Bool
  comes_before i y =
      let n = nth_node nodes i in
      let p = facing axis (place_of n) in
      is_of class n && (p.x == line && nat_lt (min a y) p.y && nat_lt p.y (max a y))

  module _ (low : line ≤ top) (from : a ≤ top) (to : b ≤ top) (sound : All IsSoundNode nodes) (i y : ℕ) (here : i < length nodes) (R : IsNearest i y) where
    abbrev f : Place
    f = facing axis (place_of (nth_node nodes i))

    within : y ≤ top
    within = ⊎_elim (λ (e : y ≡ b). omega arith) (λ (w : IsInside a b y × has y ≡ true). let l = w.0.0 in let h = w.0.1 in omega arith) R.known

    stands-i : (z : ℕ) → z ≤ top → stands z i ≡ (is_of class (nth_node nodes i) && (line == f.x && z == f.y))
    stands-i z h = stands-on class axis line z (nth_node nodes i) low h (sound i no_node here)

    more : (v : ℕ) → ((z : ℕ) → IsInside a v z → IsInside a y z) → ((z : ℕ) → IsInside a v z → stands z i ≡ false) → (j z : ℕ) → j < i + 1 → IsInside a v z → stands z j ≡ false
    more v w e j z h q =
        ⊎_elim
        (λ (k : j ≡ i). ap (stands z) k ∙ e z q)
        (λ (l : j < i). R.none j z l (w z q))
        (eq-or-lt_of_le (omega arith))

    pub stays : comes_before i y ≡ false → IsNearest (i + 1) y
    stays e = record {
      known = R.known;
      none = more y (λ z q. q) (λ z (l, h). let k = within in stands-i z (omega arith) ∙ passed _ _ _ line a y z e (l, h));
    }

    pub comes : comes_before i y ≡ true → IsNearest (i + 1) f.y
    comes e =
        let n = here-now _ _ _ line a y e in
        let l = n.1.0 in
        let h = n.1.1 in
        let k = within in
        let w : IsInside a b f.y = ⊎_elim (λ (e : y ≡ b). (omega arith, omega arith)) (λ (w : IsInside a b y × has y ≡ true). let l = w.0.0 in let h = w.0.1 in (omega arith, omega arith)) R.known in
        record {
          known = inr (w, is-found (stands f.y) (length nodes) i here (stands-i f.y (omega arith) ∙ n.0));
          none = more f.y (λ z (p, q). (omega arith, omega arith)) (λ z (p, q). stands-i z (omega arith) ∙ no-nearer _ _ _ line a z (p, q));
        }

  pub nearest : (i y : ℕ) → length nodes ≤ i → IsNearest i y → then_some (not (y == b)) (on_axis axis line y) ≡ next_place nodes class (on_axis axis line a) (on_axis axis line b)
  nearest i y h R =
      ⊎_elim
      (λ (e : y ≡ b).
      let t : (y == b) ≡ true = grind (arith, nat_tests) in
      rw t (sym (next-not nodes class axis line a b (λ z q. ap is_some (last-not (stands z) (length nodes) (λ j k. R.none j z (omega arith) (subst (λ v. IsInside a v z) (sym e) q)))))))
      (λ (w : IsInside a b y × has y ≡ true).
      let l = w.0.0 in
      let m = w.0.1 in
      let t : (y == b) ≡ false = grind (arith, nat_tests) in
      rw t (sym (next-is nodes class axis line a b y w.0 w.1 (λ z q. ap is_some (last-not (stands z) (length nodes) (λ j k. R.none j z (omega arith) q))))))
      R.known

-- ---- places as they are
same-end : (axis : Axis) (from to end : Place) → OnLine axis from to → OnLine axis from end → (end.x == to.x && end.y == to.y) ≡ ((facing axis end).y == (facing axis to).y)
same-end Column from to end h k = let e : end.x ≡ to.x = sym k ∙ h in grind (arith, nat_tests)
same-end Row from to end h k = let e : end.y ≡ to.y = sym k ∙ h in grind (arith, nat_tests)

pub nearest-place : (nodes : List Node) (class : Class) (axis : Axis) (from to end : Place) (i : ℕ) → OnLine axis from to → OnLine axis from end → length nodes ≤ i
    → IsNearest nodes class axis (facing axis from).x (facing axis from).y (facing axis to).y i (facing axis end).y
    → then_some (not (end.x == to.x && end.y == to.y)) end ≡ next_place nodes class from to
nearest-place nodes class axis from to end i h k l R =
    let line = (facing axis from).x in
    let back : (p : Place) → OnLine axis from p → on_axis axis line (facing axis p).y ≡ p = λ p q. ap (λ x. on_axis axis x (facing axis p).y) (same-line axis from p q) ∙ facing-twice axis p in
    ap₂ (λ t p. then_some (not t) p) (same-end axis from to end h k) (sym (back end k))
    ∙ nearest nodes class axis line (facing axis from).y (facing axis to).y i (facing axis end).y l R
    ∙ ap₂ (next_place nodes class) (facing-twice axis from) (back to h)

-- of the first i nodes none comes before this place, as it faces the axis
pub record EndsAt (nodes : List Node) (class : Class) (axis : Axis) (from to : Place) (i : ℕ) (end : Place) : Type 0 where
  pub line : OnLine axis from end
  pub nearest : IsNearest nodes class axis (facing axis from).x (facing axis from).y (facing axis to).y i (facing axis end).y

low-line : (axis : Axis) (p : Place) → Near p → (facing axis p).x ≤ top
low-line Column p n = n.x
low-line Row p n = n.y

low-place : (axis : Axis) (p : Place) → Near p → (facing axis p).y ≤ top
low-place Column p n = n.y
low-place Row p n = n.x

line-from : (axis : Axis) (a b : Place) → (facing axis a).x ≡ (facing axis b).x → OnLine axis a b
line-from Column a b e = e
line-from Row a b e = e

on-line : (t : Bool) (fx fy line a y : ℕ) → t && (fx == line && nat_lt (min a y) fy && nat_lt fy (max a y)) ≡ true → line ≡ fx
on-line t fx fy line a y e = grind (arith, nat_tests)

module _ (nodes : List Node) (class : Class) (axis : Axis) (from to end : Place) (sound : All IsSoundNode nodes) (near_from : Near from) (near_to : Near to)
    (i : ℕ) (here : i < length nodes) (E : EndsAt nodes class axis from to i end)
    (t : Bool) (is : t ≡ (is_of class (nth_node nodes i) && is_between axis (place_of (nth_node nodes i)) from end)) where
  abbrev line : ℕ
  line = (facing axis from).x

  pub nearer : t ≡ true → EndsAt nodes class axis from to (i + 1) (place_of (nth_node nodes i))
  nearer e =
      let now = sym is ∙ e in
      record {
        line = line-from axis from (place_of (nth_node nodes i)) (on-line _ _ _ line (facing axis from).y (facing axis end).y now);
        nearest = comes nodes class axis line (facing axis from).y (facing axis to).y (low-line axis from near_from) (low-place axis from near_from) (low-place axis to near_to) sound i (facing axis end).y here E.nearest now;
      }

  pub no-nearer-one : t ≡ false → EndsAt nodes class axis from to (i + 1) end
  no-nearer-one e = record {
    line = E.line;
    nearest = stays nodes class axis line (facing axis from).y (facing axis to).y (low-line axis from near_from) (low-place axis from near_from) (low-place axis to near_to) sound i (facing axis end).y here E.nearest (sym is ∙ e);
  }
