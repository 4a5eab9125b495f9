-- The power of a cell is never a NaN and never negative. Assumes nothing.
use lib.Ieee.{Float}
use Rattle.std.proofs.Common.{ℕ, ◌+◌, ◌<◌, ◌≤◌, ◌≡◌, refl, sym, subst, Bool, true, false, List, map, arith, length, drop, T, IsTrue, All, lit<}
use lib.Ieee.{nan, binary64, of_int, mul, round, le}
use lib.Ieee.Positive.{positive}
use Rattle.std.proofs.lemmas.List.{length-map, get_or_default, get_or_append_left}
use Rattle.std.proofs.lemmas.List.Elements.{All-map}
use Rattle.refusals.specs.Limits.{coordinate}
use Rattle.cell.specs.Ticks.{tick, metres_of}
use Rattle.floats.specs.Fractions.{◌·◌, ◌÷◌, ◌⊕◌, ◌⊖◌, float, in_potential, no_nan, nonneg}
use Rattle.floats.proofs.Signs.{div-no-nan, square-nonneg, add-nonneg, mul-nonneg, div-nonneg}
use Rattle.floats.proofs.Ranges.{In, in-positive, num-in, mul_in}
use Rattle.floats.proofs.Sizes.{within-finite, finite-no-nan, add-within, sub_within}
use Rattle.floats.proofs.Bounds.{sheet-positive, potential-within}
use Rattle.net_rows.specs.declared.rows.Node.{Node}
use Rattle.net_rows.specs.declared.rows.Edge.{Edge}
use Rattle.net_rows.specs.declared.rows.NetCell.{NetCell}
use Rattle.net_rows.specs.Nets.{blank_cell, nth_cell, sound_net}
use Rattle.net_rows.proofs.Sound.{sound_facts}
use Rattle.net_rows.proofs.Gaps.{sides}
use Rattle.power.specs.declared.Slope.{Slope}
use Rattle.power.specs.Formulas.{power_of}
use Rattle.power.specs.Powers.{value_at, cell_values, cell_slope, cell_power, in_ranges, power_row}
use Rattle.power.specs.Laws.{PowersAreNonNegative}
use Rattle.power.proofs.Verdict.{ranged, accepted-is}

-- ---- a side in metres, and twice a side, are positive
one-positive : T (positive (float 1))
unfolding of_int
one-positive = tt

two-positive : T (positive (float 2))
unfolding of_int
two-positive = tt

widest-positive : T (positive (float (coordinate + coordinate)))
unfolding of_int
widest-positive = tt

tick-positive : T (positive tick)
unfolding round
tick-positive = tt

least-positive : T (positive (metres_of 1))
unfolding of_int mul round
least-positive = tt

most-positive : T (positive (metres_of (coordinate + coordinate)))
unfolding of_int mul round
most-positive = tt

twice-least : T (positive (float 2 · metres_of 1))
unfolding of_int mul round
twice-least = tt

twice_most : T (positive (float 2 · metres_of (coordinate + coordinate)))
unfolding of_int mul round
twice_most = tt

tick-itself : In tick tick tick
tick-itself = record { from = unfold le round in tt; to = unfold le round in tt }

two-itself : In (float 2) (float 2) (float 2)
two-itself = record { from = unfold le of_int in tt; to = unfold le of_int in tt }

metres-in : (n : ℕ) → 0 < n → n ≤ coordinate + coordinate → In (metres_of 1) (metres_of (coordinate + coordinate)) (metres_of n)
metres-in n a b = mul_in binary64 one-positive widest-positive tick-positive tick-positive (num-in n (coordinate + coordinate) a b) tick-itself

pub metres-positive : (n : ℕ) → 0 < n → n ≤ coordinate + coordinate → T (positive (metres_of n))
metres-positive n a b = in-positive least-positive most-positive (metres-in n a b)

pub twice-positive : (n : ℕ) → 0 < n → n ≤ coordinate + coordinate → T (positive (float 2 · metres_of n))
twice-positive n a b = in-positive twice-least twice_most (mul_in binary64 two-positive two-positive least-positive most-positive two-itself (metres-in n a b))

-- ---- a slope is no NaN: the sums are finite, and the divisor is positive
slope-no-nan : (a b c d w : Float) → T (in_potential a) → T (in_potential b) → T (in_potential c) → T (in_potential d) → T (positive w) → T (no_nan (((a ⊕ b) ⊖ (c ⊕ d)) ÷ w))
slope-no-nan a b c d w A B C D p =
    let x = add-within a b 20 (lit< tt) (potential-within a A) (potential-within b B) in
    let y = add-within c d 20 (lit< tt) (potential-within c C) (potential-within d D) in
    let z = (a ⊕ b) ⊖ (c ⊕ d) in
    div-no-nan binary64 z w (finite-no-nan z (within-finite 22 z (sub_within (a ⊕ b) (c ⊕ d) 21 (lit< tt) x y))) p

-- ---- a sum of squares times positive numbers, over one
power-nonneg : (s : Slope) (sheet : Float) → T (no_nan s.gx) → T (no_nan s.gy) → T (positive s.dx) → T (positive s.dy) → T (positive sheet) → T (nonneg (power_of s sheet))
power-nonneg s sheet a b c d e =
    let x = s.gx · s.gx in
    let y = s.gy · s.gy in
    div-nonneg binary64 ((x ⊕ y) · s.dx · s.dy) sheet
    (mul-nonneg binary64 ((x ⊕ y) · s.dx) s.dy
    (mul-nonneg binary64 (x ⊕ y) s.dx (add-nonneg binary64 x y (square-nonneg binary64 s.gx a) (square-nonneg binary64 s.gy b)) c)
    d)
    e

-- ---- the power of a cell of a sound net, its values in range
T-true : (b : Bool) → T b → b ≡ true
T-true true h = refl
T-true false h = absurd h

yes : {b : Bool} → b ≡ true → T b
yes e = subst T (sym e) tt

module _ (nodes : List Node) (edges : List Edge) (cells : List NetCell) (potentials : List Float) where
  cell-nonneg : IsTrue (sound_net nodes edges cells) → IsTrue (in_ranges nodes cells potentials) → All (λ c. IsTrue (nonneg (cell_power nodes potentials c))) cells
  unfolding cell_power cell_slope cell_values
  cell-nonneg s r i d h =
      let f = sound_facts nodes edges cells s in
      let c = nth_cell cells i in
      let q = c.corners in
      let k = (f.each_cell i blank_cell h).known in
      let v = ranged nodes cells potentials r in
      let e = v.count in
      let A = yes (v.potential q.southwest nan (omega (arith, k.southwest, e))) in
      let B = yes (v.potential q.southeast nan (omega (arith, k.southeast, e))) in
      let C = yes (v.potential q.northeast nan (omega (arith, k.northeast, e))) in
      let D = yes (v.potential q.northwest nan (omega (arith, k.northwest, e))) in
      let g = sides nodes edges cells f i h in
      let w = g.width in
      let t = g.height in
      rw (get_or_default cells i d blank_cell h)
      (T-true _
      (power-nonneg (cell_slope nodes potentials c) c.sheet
      (slope-no-nan (value_at potentials q.southeast) (value_at potentials q.northeast) (value_at potentials q.southwest) (value_at potentials q.northwest) _ B C A D (twice-positive _ w.some w.most))
      (slope-no-nan (value_at potentials q.northeast) (value_at potentials q.northwest) (value_at potentials q.southwest) (value_at potentials q.southeast) _ C D A B (twice-positive _ t.some t.most))
      (metres-positive _ w.some w.most)
      (metres-positive _ t.some t.most)
      (sheet-positive c.sheet (yes (v.sheet i blank_cell h)))))

-- The law: no answer of an accepted call is a NaN, and none has a minus sign.
pub none-negative : PowersAreNonNegative
unfolding power_row
none-negative nodes edges cells potentials lent e cell h =
    let k = accepted-is nodes edges cells potentials lent e in
    let powers = map (cell_power nodes potentials) cells in
    let inside : cell < length powers = rw (length-map cells (cell_power nodes potentials)) h in
    rw (e, get_or_append_left powers (drop (length powers) lent) nan cell inside)
    (All-map (λ power. IsTrue (nonneg power)) (cell_power nodes potentials) cells (cell-nonneg nodes edges cells potentials k.sound k.fit) cell nan inside)
