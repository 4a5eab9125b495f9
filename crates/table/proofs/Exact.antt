-- The numbers of a slot that holds a cell are exactly those of the cell. Assumes nothing.
use Rattle.std.proofs.Common.{ℕ, suc, ◌+◌, ◌-◌, min, ◌≡◌, refl, ap, ◌∙◌, true, ◌&&◌, List, arith, leb, ℤ, pos, negsuc, le-ltb, lt-ltb, leb-true}
use lib.IntN.{sub_ℕ}
use lib.Signed.{non_neg}
use Rattle.refusals.specs.Limits.{coordinate}
use Rattle.cell.specs.Ticks.{off, on, in_range}
use Rattle.table.specs.Slots.{counted, number, start, cell_at, in_slot}
use Rattle.table.proofs.All.{and_left, and_right}

-- ---- one number, there and back

pub on-off : (z : ℤ) → in_range z ≡ true → on (off z) ≡ z
unfolding on off in_range
on-off (pos n) e =
    let h = leb-true n coordinate (and_right true (leb n coordinate) e) in
    let d : min (min (n + coordinate) (coordinate + coordinate)) (coordinate + coordinate) ≡ n + coordinate = omega arith in
    let s : sub_ℕ (n + coordinate) coordinate ≡ pos (n + coordinate - coordinate) = simp (le-ltb (n + coordinate) coordinate (omega arith)) in
    rw d (s ∙ ap pos (omega arith))
on-off (negsuc n) e =
    let h = leb-true n (coordinate - 1) (and_left (leb n (coordinate - 1)) true e) in
    let m = coordinate - suc n in
    let d : min m (coordinate + coordinate) ≡ m = omega arith in
    let s : sub_ℕ m coordinate ≡ negsuc (coordinate - suc m) = simp (lt-ltb m coordinate (omega arith)) in
    rw d (s ∙ ap negsuc (omega arith))

pub pos-counted : (z : ℤ) → non_neg z ≡ true → pos (counted z) ≡ z
unfolding counted
pos-counted (pos n) e = refl
pos-counted (negsuc n) e = let z : ◌≡◌ {A = ℕ} 0 1 = cc in absurd (omega arith)

-- ---- the numbers of one cell

pub record Exact (t : List ℤ) (i : ℕ) : Type 0 where
  pub x0 : on (cell_at t i).x0 ≡ start t i
  pub y0 : on (cell_at t i).y0 ≡ number t i 1
  pub x1 : on (cell_at t i).x1 ≡ number t i 2
  pub y1 : on (cell_at t i).y1 ≡ number t i 3
  pub level : pos (cell_at t i).level ≡ number t i 4
  pub parent : pos (cell_at t i).parent ≡ number t i 5
  pub first : pos (cell_at t i).first ≡ number t i 6
  pub poly : pos (cell_at t i).poly ≡ number t i 7

pub exact : (t : List ℤ) (i : ℕ) → in_slot t i ≡ true → Exact t i
unfolding in_slot cell_at
exact t i e =
    let b0 = in_range (start t i) in
    let b1 = in_range (number t i 1) in
    let b2 = in_range (number t i 2) in
    let b3 = in_range (number t i 3) in
    let b4 = non_neg (number t i 4) in
    let b5 = non_neg (number t i 5) in
    let b6 = non_neg (number t i 6) in
    let b7 = non_neg (number t i 7) in
    let e6 = and_left (b0 && b1 && b2 && b3 && b4 && b5 && b6) b7 e in
    let e5 = and_left (b0 && b1 && b2 && b3 && b4 && b5) b6 e6 in
    let e4 = and_left (b0 && b1 && b2 && b3 && b4) b5 e5 in
    let e3 = and_left (b0 && b1 && b2 && b3) b4 e4 in
    let e2 = and_left (b0 && b1 && b2) b3 e3 in
    let e1 = and_left (b0 && b1) b2 e2 in
    record {
      x0 = on-off (start t i) (and_left b0 b1 e1);
      y0 = on-off (number t i 1) (and_right b0 b1 e1);
      x1 = on-off (number t i 2) (and_right (b0 && b1) b2 e2);
      y1 = on-off (number t i 3) (and_right (b0 && b1 && b2) b3 e3);
      level = pos-counted (number t i 4) (and_right (b0 && b1 && b2 && b3) b4 e4);
      parent = pos-counted (number t i 5) (and_right (b0 && b1 && b2 && b3 && b4) b5 e5);
      first = pos-counted (number t i 6) (and_right (b0 && b1 && b2 && b3 && b4 && b5) b6 e6);
      poly = pos-counted (number t i 7) (and_right (b0 && b1 && b2 && b3 && b4 && b5 && b6) b7 e);
    }
