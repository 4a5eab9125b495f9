-- The leaves of a polygon whose roots are a whole grid fill the grid's outline: each unit square in it lies in just one
-- of them. Assumes nothing.
use mathlib.Core.Bool.{false≢true}
use mathlib.Core.Logic.{by_cases}
use Rattle.std.proofs.Common.{◌≡◌, refl, sym, ap, ap₂, subst, ◌∙◌, Bool, true, ◌&&◌, Option, None, Some, List, ℕ, zero, suc, ◌+◌, ◌*◌, ◌<◌, ◌≤◌, arith, eqb, eqb-true, eq-eqb, length, is_none, add-one, mul-zero, mul-suc}
use native.Mathlib.Decide.{dec_lt}
use Rattle.std.proofs.Math.Nat.{mul-le-mul_left}
use Rattle.cell.specs.Boxes.{Box, Quad, sw, se, nw, ne, num, quadrant, mid}
use Rattle.table.specs.Mesh.{Cell, at}
use Rattle.table.specs.Formed.{Formed}
use Rattle.table.proofs.All.{and_left, and_right, and_both}
use Rattle.table.proofs.Meshes.{num-below, root_in}
use Rattle.coarsest.proofs.Find.{named}
use Rattle.laws.specs.Grids.{RootOf, LeafOf, grid_box}
use Rattle.laws.specs.Borders.{FullGrid, outline}
use Rattle.laws.proofs.Apart.{RootsApart, root-of, leaves-apart}
use Rattle.laws.proofs.Placed.{cell-positive, Inside, within-root}
use Rattle.laws.proofs.Fitting.{grid-by, by-apart}
use Rattle.laws.proofs.BordersTiles.{HoldsUnit, TileAt, Tiles}

-- the unit square from (x, y) on lies in the box
pub record HasUnit (b : Box) (x y : ℕ) : Type 0 where
  pub left : b.x0 ≤ x
  pub right : x < b.x1
  pub low : b.y0 ≤ y
  pub high : y < b.y1

-- then it lies in a quadrant of the box
quadrant-unit : (b : Box) (x y : ℕ) → HasUnit b x y → (q : Quad) × HasUnit (quadrant b q) x y
quadrant-unit b x y u =
    by_cases (dec_lt x (mid b.x0 b.x1))
    (λ l. by_cases (dec_lt y (mid b.y0 b.y1))
    (λ h. (sw, record { left = u.left; right = l; low = u.low; high = h }))
    (λ h. (nw, record { left = u.left; right = l; low = omega arith; high = u.high })))
    (λ l. by_cases (dec_lt y (mid b.y0 b.y1))
    (λ h. (se, record { left = omega arith; right = u.right; low = u.low; high = h }))
    (λ h. (ne, record { left = omega arith; right = u.right; low = omega arith; high = u.high })))

-- the column of a grid that holds x
column-of : (o w n x : ℕ) → o ≤ x → x < o + w * n → (i : ℕ) × (i < n) × (o + w * i ≤ x) × (x < o + w * (i + 1))
column-of o w zero x l h = let z = mul-zero w in absurd (omega arith)
column-of o w (suc n) x l h =
    let s = mul-suc w n in
    by_cases (dec_lt x (o + w * n))
    (λ k. let c = column-of o w n x l k in (c.0, omega (arith, c.1), c.2, c.3))
    (λ k. (n, omega arith, omega arith, subst (λ (m : ℕ). x < o + w * m) (sym (add-one n)) h))

none-of : (o : Option ℕ) → is_none o ≡ true → o ≡ None
none-of None e = refl
none-of (Some v) e = absurd (false≢true e)

module _ (M : ℕ) (t : List Cell) (formed : Formed M t) (k : ℕ) (f : FullGrid t k) where
  abbrev pub tile : ℕ → Bool
  tile i = is_none (at t i).kids && eqb (at t i).polygon k

  abbrev pub Leaf : ℕ → Type 0
  Leaf i = (i < length t) × (tile i ≡ true)

  pub leaf-of : (i : ℕ) → Leaf i → LeafOf t k i
  leaf-of i a =
      record {
        inside = a.0;
        whole = none-of (at t i).kids (and_left (is_none (at t i).kids) (eqb (at t i).polygon k) a.1);
        polygon = eqb-true (at t i).polygon k (and_right (is_none (at t i).kids) (eqb (at t i).polygon k) a.1);
      }

  pub of-leaf : (i : ℕ) → LeafOf t k i → Leaf i
  of-leaf i l = (l.inside, and_both (is_none (at t i).kids) (eqb (at t i).polygon k) (ap (λ (o : Option ℕ). is_none o) l.whole) (eq-eqb (at t i).polygon k l.polygon))

  record LeafAt (x y : ℕ) : Type 0 where
    id : ℕ
    leaf : LeafOf t k id
    has : HasUnit (at t id).box x y

  -- a cell of the polygon that holds a unit square has a leaf below that does
  descend : (x y fuel i : ℕ) → length t ≤ i + fuel → i < length t → (at t i).polygon ≡ k → HasUnit (at t i).box x y → LeafAt x y
  descend x y zero i e l p u = absurd (omega arith)
  descend x y (suc fuel) i e l p u = by (at t i).kids refl (descend x y fuel)
    where
      by : (o : Option ℕ) → (at t i).kids ≡ o
          → ((j : ℕ) → length t ≤ j + fuel → j < length t → (at t j).polygon ≡ k → HasUnit (at t j).box x y → LeafAt x y) → LeafAt x y
      by None c below = record { id = i; leaf = record { inside = l; whole = c; polygon = p }; has = u }
      by (Some c) d below =
          let s = formed.split i c d in
          let q = quadrant-unit (at t i).box x y u in
          let kid = s.kid q.0 in
          let above = s.above in
          let inside = s.below in
          let four = num-below q.0 in
          below (c + num q.0) (omega arith) (omega arith) (kid.polygon ∙ p) (subst (λ (b : Box). HasUnit b x y) (sym kid.box) q.1)

  abbrev o : Box
  o = outline f

  -- a root's box is a place of the grid, and within the outline
  root-in : (r : ℕ) → RootOf t k r → Inside (at t r).box o
  root-in r a =
      let g = f.one.grid in
      let e = f.one.placed r a in
      let p = cell-positive M t formed r (root_in t r a.top) in
      let b = f.inside r a in
      let c = mul-le-mul_left g.wide (below (f.one.column r) f.columns b.0) in
      let d = mul-le-mul_left g.high (below (f.one.row r) f.rows b.1) in
      record {
        west = omega (arith, ap (λ (z : Box). z.x0) e);
        east = omega (arith, ap (λ (z : Box). z.x1) e, c);
        south = omega (arith, ap (λ (z : Box). z.y0) e);
        north = omega (arith, ap (λ (z : Box). z.y1) e, d);
        wide = omega (arith, p.0);
        high = omega (arith, p.1);
      }
    where
      below : (i n : ℕ) → i < n → i + 1 ≤ n
      below i n h = omega arith

  -- and so is a leaf's
  leaf-in : (i : ℕ) → LeafOf t k i → Inside (at t i).box o
  leaf-in i l =
      let n = named M t formed i l.inside in
      let a = within-root M t formed n.root n.path i n.found in
      let b = root-in n.root (root-of M t formed k n.root n.path i n.found l.polygon) in
      let p = cell-positive M t formed i l.inside in
      record {
        west = omega (arith, a.west, b.west);
        east = omega (arith, a.east, b.east);
        south = omega (arith, a.south, b.south);
        north = omega (arith, a.north, b.north);
        wide = omega (arith, p.0);
        high = omega (arith, p.1);
      }

  -- a unit square within the outline lies in a leaf
  leaf-at : (x y : ℕ) → HasUnit o x y → LeafAt x y
  leaf-at x y u =
      let g = f.one.grid in
      let i = column-of g.west g.wide f.columns x u.left u.right in
      let j = column-of g.south g.high f.rows y u.low u.high in
      let r = f.full i.0 j.0 i.1 j.1 in
      let place : (at t r.0).box ≡ grid_box g i.0 j.0 = f.one.placed r.0 r.1 ∙ ap₂ (grid_box g) r.2 r.3 in
      let has : HasUnit (grid_box g i.0 j.0) x y = record { left = i.2; right = i.3; low = j.2; high = j.3 } in
      descend x y (length t) r.0 (omega arith) (root_in t r.0 r.1.top) r.1.polygon (subst (λ (b : Box). HasUnit b x y) (sym place) has)

  abbrev pub x0 : ℕ → ℕ
  x0 i = (at t i).box.x0

  abbrev pub x1 : ℕ → ℕ
  x1 i = (at t i).box.x1

  abbrev pub y0 : ℕ → ℕ
  y0 i = (at t i).box.y0

  abbrev pub y1 : ℕ → ℕ
  y1 i = (at t i).box.y1

  apart : RootsApart t k
  apart = by-apart M 0 t k (grid-by M t formed k f.one)

  -- leaves that hold one unit square are the same
  once : (x y i j : ℕ) → Leaf i → Leaf j → HoldsUnit (length t) tile x0 x1 y0 y1 x y i → HoldsUnit (length t) tile x0 x1 y0 y1 x y j → i ≡ j
  once x y i j a b p q =
      leaves-apart M t formed k apart i j (leaf-of i a) (leaf-of j b)
      (omega (arith, p.left, p.right, q.left, q.right), omega (arith, p.low, p.high, q.low, q.high))

  there : (x y : ℕ) → o.x0 ≤ x → x < o.x1 → o.y0 ≤ y → y < o.y1 → TileAt (length t) tile x0 x1 y0 y1 x y
  there x y l h m n =
      let c = leaf-at x y (record { left = l; right = h; low = m; high = n }) in
      record { id = c.id; is = of-leaf c.id c.leaf; holds = record { left = c.has.left; right = c.has.right; low = c.has.low; high = c.has.high } }

  pub tiles : Tiles (length t) tile x0 x1 y0 y1 o.x0 o.x1 o.y0 o.y1
  tiles =
      record {
        wide = λ i a. (cell-positive M t formed i a.0).0;
        high = λ i a. (cell-positive M t formed i a.0).1;
        from_west = λ i a. (leaf-in i (leaf-of i a)).west;
        to_east = λ i a. (leaf-in i (leaf-of i a)).east;
        from_south = λ i a. (leaf-in i (leaf-of i a)).south;
        to_north = λ i a. (leaf-in i (leaf-of i a)).north;
        once = once;
        there = there;
      }
