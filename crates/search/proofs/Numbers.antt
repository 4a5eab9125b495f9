-- Coordinates in range are in the order of their numbers as they stand in the row. Assumes nothing.
use Rattle.std.proofs.Common.{ℕ, ◌-◌, ◌<◌, ◌≡◌, sym, subst, true, false, ◌&&◌, List, T, arith, ℤ, pos, negsuc, neg_ℤ, ltb-true, leb-true}
use lib.Signed.{le_z, lt_z, non_neg}
use Rattle.refusals.specs.Limits.{coordinate}
use Rattle.cell.specs.Ticks.{in_range, off}
use Rattle.cell.proofs.Contact.{and_left, and_right}
use Rattle.cell.specs.Cells.{box_of}
use Rattle.table.specs.Slots.{number, start, cell_at, in_slot}
use Rattle.search.specs.Search.{meet}
use Rattle.search.proofs.Meeting.{apart-west, apart-east, apart-south, apart-north}

pub off_less : (x y : ℤ) → in_range x ≡ true → in_range y ≡ true → lt_z x y ≡ true → off x < off y
unfolding off in_range
off_less (pos m) (pos n) a b e =
    let i = leb-true m coordinate a in
    let j = leb-true n coordinate b in
    omega (arith, ltb-true m n e)
off_less (pos m) (negsuc n) a b e = absurd (subst T (sym e) tt)
off_less (negsuc m) (pos n) a b e = let j = leb-true n coordinate b in omega arith
off_less (negsuc m) (negsuc n) a b e =
    let i = leb-true m (coordinate - 1) (and_left (le_z (neg_ℤ (pos coordinate)) (negsuc m)) (le_z (negsuc m) (pos coordinate)) a) in
    omega (arith, ltb-true n m e)

-- the four coordinates of a slot
pub record Corners (t : List ℤ) (i : ℕ) : Type 0 where
  pub x0 : in_range (start t i) ≡ true
  pub y0 : in_range (number t i 1) ≡ true
  pub x1 : in_range (number t i 2) ≡ true
  pub y1 : in_range (number t i 3) ≡ true

pub corners : (t : List ℤ) (i : ℕ) → in_slot t i ≡ true → Corners t i
unfolding in_slot
corners t i e =
    let a = in_range (start t i) in
    let b = in_range (number t i 1) in
    let c = in_range (number t i 2) in
    let d = in_range (number t i 3) in
    let p = non_neg (number t i 4) in
    let q = non_neg (number t i 5) in
    let r = non_neg (number t i 6) in
    let s = non_neg (number t i 7) in
    let f = and_left (a && b && c && d) p (and_left (a && b && c && d && p) q (and_left (a && b && c && d && p && q) r (and_left (a && b && c && d && p && q && r) s e))) in
    let g = and_left (a && b && c) d f in
    let h = and_left (a && b) c g in
    record { x0 = and_left a b h; y0 = and_right a b h; x1 = and_right (a && b) c g; y1 = and_right (a && b && c) d f }

-- two slots whose boxes lie apart
module _ (t : List ℤ) (a c : ℕ) (ia : in_slot t a ≡ true) (ic : in_slot t c ≡ true) where
  pub lie-west : lt_z (number t c 2) (start t a) ≡ true → meet (box_of (cell_at t a)) (box_of (cell_at t c)) ≡ false
  unfolding cell_at
  lie-west e = apart-west (box_of (cell_at t a)) (box_of (cell_at t c)) (off_less (number t c 2) (start t a) (corners t c ic).x1 (corners t a ia).x0 e)

  pub lie-east : lt_z (number t a 2) (start t c) ≡ true → meet (box_of (cell_at t a)) (box_of (cell_at t c)) ≡ false
  unfolding cell_at
  lie-east e = apart-east (box_of (cell_at t a)) (box_of (cell_at t c)) (off_less (number t a 2) (start t c) (corners t a ia).x1 (corners t c ic).x0 e)

  pub lie-south : lt_z (number t c 3) (number t a 1) ≡ true → meet (box_of (cell_at t a)) (box_of (cell_at t c)) ≡ false
  unfolding cell_at
  lie-south e = apart-south (box_of (cell_at t a)) (box_of (cell_at t c)) (off_less (number t c 3) (number t a 1) (corners t c ic).y1 (corners t a ia).y0 e)

  pub lie-north : lt_z (number t a 3) (number t c 1) ≡ true → meet (box_of (cell_at t a)) (box_of (cell_at t c)) ≡ false
  unfolding cell_at
  lie-north e = apart-north (box_of (cell_at t a)) (box_of (cell_at t c)) (off_less (number t a 3) (number t c 1) (corners t a ia).y1 (corners t c ic).y0 e)

-- what the test of two slots needs
pub ruleset lying = (lie-west, lie-east, lie-south, lie-north)
