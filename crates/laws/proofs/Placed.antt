-- Every cell is a step of its own root's grid: one of equal cells from the root's corner, with the sides of the cell's level. Assumes nothing.
use Rattle.std.proofs.Common.{◌≡◌, sym, ap, subst, ◌∙◌, List, [], ◌∷◌, ℕ, suc, ◌+◌, ◌*◌, ◌-◌, ◌^◌, ◌<◌, ◌≤◌, arith, mul-zero, mul-pos, length, pow_pos, None, Some}
use native.Mathlib.Nat.{sub-zero}
use Rattle.cell.specs.Boxes.{Box, Quad, sw, se, nw, ne, quadrant, mid, HasArea}
use Rattle.table.specs.Mesh.{Cell, at}
use Rattle.table.specs.Formed.{Formed}
use Rattle.coarsest.specs.Names.{Route, place, find}
use Rattle.table.proofs.Meshes.{root_in}
use Rattle.coarsest.proofs.Find.{tells, find-rooted}
use Rattle.coarsest.proofs.Least.{level-most}
use Rattle.coarsest.proofs.Sides.{Span, cell-sides}
use Rattle.laws.proofs.Axis.{Spot, cut, unit, unit-half}

span_less : (n a b : ℕ) → Span n a b → a < b
span_less n a b s = let e = s.1 in let p : 0 < suc s.0 * 2 ^ n = mul-pos (omega arith) (pow_pos n) in omega arith

pub cell-positive : (M : ℕ) (t : List Cell) → Formed M t → (i : ℕ) → i < length t → HasArea (at t i).box
cell-positive M t formed i h =
    let s = cell-sides M t formed i h in
    (span_less (M + 1 - (at t i).level) (at t i).box.x0 (at t i).box.x1 s.0, span_less (M + 1 - (at t i).level) (at t i).box.y0 (at t i).box.y1 s.1)

-- the box is a cell of the grid from (o, v), whose cells have the sides of level l
abbrev pub Steps : ℕ → ℕ → ℕ → ℕ → ℕ → ℕ → Box → Type 0
Steps M o v w h l b = Spot o (unit M w l) b.x0 b.x1 × Spot v (unit M h l) b.y0 b.y1

module _ (M o v w h : ℕ) where
  abbrev Cut : ℕ → ℕ → ℕ → ℕ → ℕ → Type 0
  Cut z n l a b = Spot z (unit M n (suc l)) a (mid a b) × Spot z (unit M n (suc l)) (mid a b) b

  halve : (z n l a b : ℕ) → l ≤ M → Spot z (unit M n l) a b → Cut z n l a b
  halve z n l a b m s = cut z (unit M n (suc l)) a b (subst (λ (u : ℕ). Spot z u a b) (unit-half M n l m) s)

  quadrant-steps : (l : ℕ) (b : Box) (q : Quad) → l ≤ M → Steps M o v w h l b → Steps M o v w h (suc l) (quadrant b q)
  quadrant-steps l b sw m s = ((halve o w l b.x0 b.x1 m s.0).0, (halve v h l b.y0 b.y1 m s.1).0)
  quadrant-steps l b se m s = ((halve o w l b.x0 b.x1 m s.0).1, (halve v h l b.y0 b.y1 m s.1).0)
  quadrant-steps l b nw m s = ((halve o w l b.x0 b.x1 m s.0).0, (halve v h l b.y0 b.y1 m s.1).1)
  quadrant-steps l b ne m s = ((halve o w l b.x0 b.x1 m s.0).1, (halve v h l b.y0 b.y1 m s.1).1)

  place-steps : (b : Box) → Steps M o v w h 0 b → (p : Route) → length p ≤ M → Steps M o v w h (length p) (place b p)
  place-steps b s [] m = s
  place-steps b s (q ∷ p) m = quadrant-steps (length p) (place b p) q (omega arith) (place-steps b s p (omega arith))

-- the box lies within another, and its sides are not turned round
pub record Inside (a b : Box) : Type 0 where
  pub west : b.x0 ≤ a.x0
  pub east : a.x1 ≤ b.x1
  pub south : b.y0 ≤ a.y0
  pub north : a.y1 ≤ b.y1
  pub wide : a.x0 ≤ a.x1
  pub high : a.y0 ≤ a.y1

quadrant-inside : (a b : Box) (q : Quad) → Inside a b → Inside (quadrant a q) b
quadrant-inside a b sw i = record { west = i.west; east = omega (arith, i.east, i.wide); south = i.south; north = omega (arith, i.north, i.high); wide = omega (arith, i.wide); high = omega (arith, i.high) }
quadrant-inside a b se i = record { west = omega (arith, i.west, i.wide); east = i.east; south = i.south; north = omega (arith, i.north, i.high); wide = omega (arith, i.wide); high = omega (arith, i.high) }
quadrant-inside a b nw i = record { west = i.west; east = omega (arith, i.east, i.wide); south = omega (arith, i.south, i.high); north = i.north; wide = omega (arith, i.wide); high = omega (arith, i.high) }
quadrant-inside a b ne i = record { west = omega (arith, i.west, i.wide); east = i.east; south = omega (arith, i.south, i.high); north = i.north; wide = omega (arith, i.wide); high = omega (arith, i.high) }

place-inside : (b : Box) → HasArea b → (p : Route) → Inside (place b p) b
place-inside b a [] = record { west = omega arith; east = omega arith; south = omega arith; north = omega arith; wide = omega (arith, a.0); high = omega (arith, a.1) }
place-inside b a (q ∷ p) = quadrant-inside (place b p) b q (place-inside b a p)

-- a range is the first step of its own
pub first_step : (M w a b : ℕ) → b ≡ a + unit M w 0 → Spot a (unit M w 0) a b
first_step M w a b e = let z = mul-zero (unit M w 0) in (0, omega arith, e)

module _ (M : ℕ) (t : List Cell) (formed : Formed M t) where
  pub cell-steps : (r : ℕ) (p : Route) (i : ℕ) → find t r p ≡ Some i → (w h : ℕ) → (at t r).box.x1 ≡ (at t r).box.x0 + unit M w 0
      → (at t r).box.y1 ≡ (at t r).box.y0 + unit M h 0 → Steps M (at t r).box.x0 (at t r).box.y0 w h (at t i).level (at t i).box
  cell-steps r p i e w h x y =
      let s = tells M t formed r p i e in
      let m = level-most M t formed i s.inside in
      let z = s.level in
      let R = (at t r).box in
      rw (s.box, s.level) (place-steps M R.x0 R.y0 w h R (first_step M w R.x0 R.x1 x, first_step M h R.y0 R.y1 y) p (omega arith))

  -- how many units of level 0 a root is wide, and how many high
  pub record Units (r : ℕ) : Type 0 where
    pub w : ℕ
    pub h : ℕ
    pub across : (at t r).box.x1 ≡ (at t r).box.x0 + unit M w 0
    pub upright : (at t r).box.y1 ≡ (at t r).box.y0 + unit M h 0

  whole : (w a b : ℕ) → b ≡ a + w * 2 ^ (M + 1) → b ≡ a + unit M w 0
  whole w a b e = e ∙ ap (λ (z : ℕ). a + w * 2 ^ z) (sym (sub-zero (M + 1)))

  pub root-units : (r : ℕ) → (at t r).parent ≡ None → Units r
  root-units r top =
      let f = formed.root r top in
      let R = (at t r).box in
      record { w = suc f.wide.0; h = suc f.high.0; across = whole (suc f.wide.0) R.x0 R.x1 f.wide.1; upright = whole (suc f.high.0) R.y0 R.y1 f.high.1 }

  -- and a cell lies within its root
  pub within-root : (r : ℕ) (p : Route) (i : ℕ) → find t r p ≡ Some i → Inside (at t i).box (at t r).box
  within-root r p i e =
      let s = tells M t formed r p i e in
      let a = cell-positive M t formed r (root_in t r (find-rooted t r p i e)) in
      rw s.box (place-inside (at t r).box a p)
