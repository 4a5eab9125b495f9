-- The sides of a sound cell: lengths between coordinates in range. Assumes nothing.
use Rattle.std.proofs.Common.{◌≡◌, ℕ, zero, suc, ◌+◌, ◌-◌, ◌<◌, ◌≤◌, List, length, ℤ, pos, negsuc, ◌-ℤ◌, sym, refl, subst, arith, IsTrue, int_lt}
use lib.IntN.{sub_ℕ}
use Rattle.std.proofs.lemmas.Bool.{ltb-true, le-ltb}
use Rattle.std.proofs.lemmas.Bool.Decides.{nat_tests}
use Rattle.refusals.specs.Limits.{coordinate}
use Rattle.cell.specs.Ticks.{in_range}
use Rattle.net_rows.specs.declared.rows.Node.{Node}
use Rattle.net_rows.specs.declared.rows.Edge.{Edge}
use Rattle.net_rows.specs.declared.rows.NetCell.{NetCell}
use Rattle.net_rows.specs.Nets.{no_node, blank_cell, nth_node, nth_cell}
use Rattle.net_rows.specs.Facts.{IsSoundNet, IsGap, HasSides}

of : {z : ℤ} (n : ℕ) → z ≡ pos n → 0 < n → n ≤ coordinate + coordinate → IsGap z
of n e h k = subst IsGap (sym e) (record { is = refl; some = h; most = k })

sub_low : (a b : ℕ) → b ≤ a → sub_ℕ a b ≡ pos (a - b)
sub_low a b h = simp (le-ltb a b h)

-- what the range says of a number, by its sign
high : (n : ℕ) → IsTrue (in_range (pos n)) → n ≤ coordinate
unfolding in_range
high n t = grind (arith, nat_tests)

low : (n : ℕ) → IsTrue (in_range (negsuc n)) → n < coordinate
unfolding in_range
low n t = grind (arith, nat_tests)

gap : (a b : ℤ) → IsTrue (in_range a) → IsTrue (in_range b) → IsTrue (int_lt a b) → IsGap (b -ℤ a)
gap (pos zero) (pos b) p q t =
    let h = high b q in
    let l : 0 < b = ltb-true 0 b t in
    of (b + 0) refl (omega arith) (omega arith)
gap (pos (suc a)) (pos b) p q t =
    let h = high b q in
    let l : suc a < b = ltb-true (suc a) b t in
    of (b - suc a) (sub_low b (suc a) (omega arith)) (omega arith) (omega arith)
gap (pos zero) (negsuc b) p q t = cc
gap (pos (suc a)) (negsuc b) p q t = cc
gap (negsuc a) (pos b) p q t =
    let h = high b q in
    let l = low a p in
    of (b + suc a) refl (omega arith) (omega arith)
gap (negsuc a) (negsuc b) p q t =
    let l = low a p in
    let k : b < a = ltb-true b a t in
    of (suc a - suc b) (sub_low (suc a) (suc b) (omega arith)) (omega arith) (omega arith)

pub sides : (nodes : List Node) (edges : List Edge) (cells : List NetCell) → IsSoundNet nodes edges cells → (c : ℕ) → c < length cells → HasSides nodes (nth_cell cells c)
sides nodes edges cells s c h =
    let k = s.each_cell c blank_cell h in
    let q = (nth_cell cells c).corners in
    let sw = s.each_node q.southwest no_node k.known.southwest in
    let se = s.each_node q.southeast no_node k.known.southeast in
    let nw = s.each_node q.northwest no_node k.known.northwest in
    record {
      width = gap (nth_node nodes q.southwest).x (nth_node nodes q.southeast).x sw.x se.x k.box.wide;
      height = gap (nth_node nodes q.southwest).y (nth_node nodes q.northwest).y sw.y nw.y k.box.high;
    }
