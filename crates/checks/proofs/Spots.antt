-- The numbers of a node as an entry has them. Assumes nothing.
use Rattle.std.proofs.Common.{ℕ, suc, ◌+◌, ◌-◌, min, ◌≤◌, ◌≡◌, sym, ap, ◌∙◌, ◌==◌, nat_eq, List, arith, IsTrue, ℤ, pos, negsuc, le-ltb, lt-ltb}
use lib.IntN.{sub_ℕ}
use Rattle.std.specs.List.{starts_with}
use Rattle.std.specs.Ordering.{int_eq}
use Rattle.std.proofs.lemmas.Bool.Decides.{nat_tests, same_from_decides, Decides-eqb, Decides-like, Decides-int_eq}
use Rattle.refusals.specs.Limits.{coordinate}
use Rattle.cell.specs.Ticks.{off, on, in_range}
use Rattle.cell.proofs.Offsets.{off-on}
use Rattle.net_rows.specs.declared.rows.Node.{Node}
use Rattle.net_rows.specs.Nets.{nth_node}
use Rattle.net_rows.specs.Facts.{IsSoundNode}
use Rattle.net_rows.specs.declared.axis.Axis.{Axis}
use Rattle.net_rows.specs.declared.axis.Axis.TheVariants.{Column, Row}
use Rattle.checks.specs.declared.asked.Place.{Place}
use Rattle.checks.specs.declared.asked.Class.{Class}
use Rattle.checks.specs.declared.asked.Class.TheVariants.{Any, Of}
use Rattle.checks.specs.Nodes.{here}
use Rattle.checks.specs.Sides.{Near}
use Rattle.checks.specs.Entries.{facing, key_of, place_entry}

-- ---- one coordinate
on-off : (z : ℤ) → IsTrue (in_range z) → on (off z) ≡ z
unfolding on off in_range
on-off (pos n) t =
    let h : n ≤ coordinate = grind (arith, nat_tests) in
    let d : min (min (n + coordinate) (coordinate + coordinate)) (coordinate + coordinate) ≡ n + coordinate = omega arith in
    let s : sub_ℕ (n + coordinate) coordinate ≡ pos (n + coordinate - coordinate) = simp (le-ltb (n + coordinate) coordinate (omega arith)) in
    rw d (s ∙ ap pos (omega arith))
on-off (negsuc n) t =
    let h : n ≤ coordinate - 1 = grind (arith, nat_tests) in
    let m = coordinate - suc n in
    let d : min m (coordinate + coordinate) ≡ m = omega arith in
    let s : sub_ℕ m coordinate ≡ negsuc (coordinate - suc m) = simp (lt-ltb m coordinate (omega arith)) in
    rw d (s ∙ ap negsuc (omega arith))

pub spot-same : (z : ℤ) (x : ℕ) → IsTrue (in_range z) → x ≤ coordinate + coordinate → (x == off z) ≡ int_eq z (on x)
spot-same z x r h =
    same_from_decides (x == off z) (int_eq z (on x)) (Decides-eqb x (off z))
    (Decides-like (int_eq z (on x)) (λ e. sym (ap off e ∙ off-on x h)) (λ e. sym (ap on e ∙ on-off z r)) (Decides-int_eq z (on x)))

pub flips : (x y : ℕ) → (x == y) ≡ (y == x)
flips x y = grind (arith, nat_tests)

-- an entry begins with the key of a place exactly if its node is there
pub stands-here : (axis : Axis) (class : Class) (nodes : List Node) (p : Place) (i : ℕ) → Near p → IsSoundNode (nth_node nodes i)
    → starts_with nat_eq (place_entry axis class nodes i) (key_of class (facing axis p)) ≡ here class (on p.x) (on p.y) (nth_node nodes i)
unfolding here
stands-here Column Any nodes p i near s =
    let n = nth_node nodes i in
    rw (spot-same n.x p.x s.x near.x, spot-same n.y p.y s.y near.y) (grind arith)
stands-here Row Any nodes p i near s =
    let n = nth_node nodes i in
    rw (spot-same n.x p.x s.x near.x, spot-same n.y p.y s.y near.y) (grind arith)
stands-here Column (Of l c) nodes p i near s =
    let n = nth_node nodes i in
    rw (spot-same n.x p.x s.x near.x, spot-same n.y p.y s.y near.y, flips l n.layer, flips c n.component)
    (grind arith)
stands-here Row (Of l c) nodes p i near s =
    let n = nth_node nodes i in
    rw (spot-same n.x p.x s.x near.x, spot-same n.y p.y s.y near.y, flips l n.layer, flips c n.component)
    (grind arith)
