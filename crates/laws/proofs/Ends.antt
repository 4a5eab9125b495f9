-- In a balanced table, a corner of a leaf of a polygon whose roots fit that lies on a side of another of its leaves is an end of that
-- side or its middle. Assumes nothing.
use mathlib.Core.Logic.{by_cases}
use Rattle.std.proofs.Common.{◌≡◌, refl, sym, subst, ◌⊎◌, inl, inr, ⊎_elim, List, ℕ, ◌+◌, ◌*◌, ◌<◌, ◌≤◌, arith}
use native.Mathlib.Decide.{ℕ_discrete}
use Rattle.cell.specs.Boxes.{Box, HasArea}
use Rattle.cell.proofs.Contact.{Touch, east, west, north, south, touch→shares, shares-sym}
use Rattle.table.specs.Mesh.{Cell, at}
use Rattle.table.specs.Formed.{Formed}
use Rattle.coarsest.proofs.Find.{Named, named}
use Rattle.coarsest.proofs.Least.{level-most}
use Rattle.laws.specs.Grids.{RootOf, LeafOf, OneGrid, Even, Balanced, Conformed}
use Rattle.laws.specs.Nodes.{End, lower, upper, EndOrMiddle, end, middle, Corner, OnSides}
use Rattle.laws.specs.Fit.{Meet, Overlap, RootsFit}
use Rattle.laws.proofs.Axis.{meet-along, same, above, below, meet-across, Spot, unit, Alike, alike-back, shared, inside-one, inside-none}
use Rattle.laws.proofs.Apart.{root-of, leaves-apart}
use Rattle.laws.proofs.Placed.{cell-positive, cell-steps, Units, root-units, Inside, within-root}
use Rattle.laws.proofs.Fitting.{FitBy, RootsFitBy, fit-by, grid-by, by-apart}

-- where cells of roots that do not overlap meet along a line, it is a border of both roots
border : (a b c e p q r s : ℕ) → p ≤ a → a < b → b ≤ q → r ≤ c → c < e → e ≤ s → b ≡ c → (Meet p q r s → ⊥) → q ≡ r
border a b c e p q r s h i j k l m f n = grind (arith, n)

meet-out : (a b c e p q r s : ℕ) → p ≤ a → b ≤ q → r ≤ c → e ≤ s → Meet a b c e → Meet p q r s
meet-out a b c e p q r s h i j k m = omega arith

meet-back : (a b c e : ℕ) → Meet a b c e → Meet c e a b
meet-back a b c e m = omega arith

-- a place within a range is an end of it or strictly inside
within : (a b x : ℕ) → a ≤ x → x ≤ b → End a b x ⊎ ((a < x) × (x < b))
within a b x l h =
    by_cases (ℕ_discrete x a) (λ e. inl (lower e))
    (λ n. by_cases (ℕ_discrete x b) (λ e. inl (upper e)) (λ m. inr (grind (arith, n), grind (arith, m))))

-- ---- two leaves and their roots

-- the roots are one, or fit
pub data Kin (M d : ℕ) (R S : Box) : Type 0 where
  own : Alike M d R.x0 R.x1 S.x0 S.x1 → Alike M d R.y0 R.y1 S.y0 S.y1 → Kin M d R S
  other : FitBy M d R S → FitBy M d S R → Kin M d R S

pub record Pair (M d k l : ℕ) (A B R S : Box) : Type 0 where
  pub one : Inside A R
  pub two : Inside B S
  pub area : HasArea A
  pub area_of_two : HasArea B
  pub kin : Kin M d R S
  pub near : Touch A B → l ≤ k + d

-- x for y
abbrev turn : Box → Box
turn b = record { x0 = b.y0; y0 = b.x0; x1 = b.y1; y1 = b.x1 }

turn-inside : (A R : Box) → Inside A R → Inside (turn A) (turn R)
turn-inside A R i = record { west = i.south; east = i.north; south = i.west; north = i.east; wide = i.high; high = i.wide }

turn-fit : (M d : ℕ) (R S : Box) → FitBy M d R S → FitBy M d (turn R) (turn S)
turn-fit M d R S f = record { apart = λ o. f.apart (o.1, o.0); on_top = f.beside; beside = f.on_top }

turn-kin : (M d : ℕ) (R S : Box) → Kin M d R S → Kin M d (turn R) (turn S)
turn-kin M d R S (own x y) = own y x
turn-kin M d R S (other f g) = other (turn-fit M d R S f) (turn-fit M d S R g)

turn-touch : (A B : Box) → Touch (turn A) (turn B) → Touch A B
turn-touch A B (east e m) = north e m
turn-touch A B (west e m) = south e m
turn-touch A B (north e m) = east e m
turn-touch A B (south e m) = west e m

turn-pair : (M d k l : ℕ) (A B R S : Box) → Pair M d k l A B R S → Pair M d k l (turn A) (turn B) (turn R) (turn S)
turn-pair M d k l A B R S p =
    record {
      one = turn-inside A R p.one;
      two = turn-inside B S p.two;
      area = (p.area.1, p.area.0);
      area_of_two = (p.area_of_two.1, p.area_of_two.0);
      kin = turn-kin M d R S p.kin;
      near = λ s. p.near (turn-touch A B s);
    }

module _ (M d k l : ℕ) (A B R S : Box) (p : Pair M d k l A B R S) where
  -- where the second stands on the first, so do the roots, or they are one
  on-top : Kin M d R S → A.y1 ≡ B.y0 → Meet A.x0 A.x1 B.x0 B.x1 → Alike M d R.x0 R.x1 S.x0 S.x1
  on-top (own x y) e m = x
  on-top (other f g) e m =
      let i = p.one in
      let j = p.two in
      let n = meet-out A.x0 A.x1 B.x0 B.x1 R.x0 R.x1 S.x0 S.x1 i.west i.east j.west j.east m in
      f.on_top (border A.y0 A.y1 B.y0 B.y1 R.y0 R.y1 S.y0 S.y1 i.south p.area.1 i.north j.south p.area_of_two.1 j.north e (λ z. f.apart (n, z))) n

  under : Kin M d R S → B.y1 ≡ A.y0 → Meet A.x0 A.x1 B.x0 B.x1 → Alike M d R.x0 R.x1 S.x0 S.x1
  under (own x y) e m = x
  under (other f g) e m =
      let i = p.one in
      let j = p.two in
      let n = meet-back R.x0 R.x1 S.x0 S.x1 (meet-out A.x0 A.x1 B.x0 B.x1 R.x0 R.x1 S.x0 S.x1 i.west i.east j.west j.east m) in
      alike-back M d S.x0 S.x1 R.x0 R.x1 (g.on_top (border B.y0 B.y1 A.y0 A.y1 S.y0 S.y1 R.y0 R.y1 j.south p.area_of_two.1 j.north i.south p.area.1 i.north e (λ z. g.apart (n, z))) n)

  -- a corner of the second strictly inside the first's south or north side
  pub along : (x y : ℕ) → Corner B x y → End A.y0 A.y1 y → A.x0 < x → x < A.x1 → (Overlap A B → ⊥) → (l ≤ k + d) × Alike M d R.x0 R.x1 S.x0 S.x1
  along x y c e lo hi o =
      let m = meet-along A.x0 A.x1 B.x0 B.x1 x lo hi p.area_of_two.0 c.across in
      elim (meet-across A.y0 A.y1 B.y0 B.y1 y p.area.1 p.area_of_two.1 e c.upright) [
        | same n ↦ absurd (o (m, n))
        | above f ↦ (p.near (north f m), on-top p.kin f m)
        | below f ↦ (p.near (south f m), under p.kin f m)
      ]

-- strictly inside its step of level k, a place is a multiple of the unit of level k + d
pub record Multiple (M k d a b x : ℕ) : Type 0 where
  pub w : ℕ
  pub from : ℕ
  pub count : ℕ
  pub step : Spot from (unit M w k) a b
  pub there : x ≡ from + unit M w (k + d) * count

-- the corner (x, y) of the leaf j, on a side of the leaf i, in a table with at most d levels between leaves that share an edge
module _ (M : ℕ) (t : List Cell) (formed : Formed M t) (k d : ℕ) (fit : RootsFitBy M d t k) (even : Even d t) (most : d ≤ 1)
    (i j : ℕ) (li : LeafOf t k i) (lj : LeafOf t k j) (x y : ℕ) (corner : Corner (at t j).box x y) where
  abbrev A : Box
  A = (at t i).box

  abbrev B : Box
  B = (at t j).box

  abbrev n : Named M t formed i
  n = named M t formed i li.inside

  abbrev m : Named M t formed j
  m = named M t formed j lj.inside

  -- the leaves' roots
  abbrev R : Box
  R = (at t n.root).box

  abbrev S : Box
  S = (at t m.root).box

  root-i : RootOf t k n.root
  root-i = root-of M t formed k n.root n.path i n.found li.polygon

  root-j : RootOf t k m.root
  root-j = root-of M t formed k m.root m.path j m.found lj.polygon

  abbrev u : Units M t formed n.root
  u = root-units M t formed n.root root-i.top

  abbrev v : Units M t formed m.root
  v = root-units M t formed m.root root-j.top

  kin : Kin M d R S
  kin =
      by_cases (ℕ_discrete n.root m.root)
      (λ e. subst (λ (z : ℕ). Kin M d R (at t z).box) e (own (record { w = u.w; one = u.across; two = u.across; apart = refl }) (record { w = u.h; one = u.upright; two = u.upright; apart = refl })))
      (λ e. other (fit n.root m.root root-i root-j e) (fit m.root n.root root-j root-i (λ c. e (sym c))))

  -- leaves that share an edge are d levels apart at most
  pair : Pair M d (at t i).level (at t j).level A B R S
  pair =
      record {
        one = within-root M t formed n.root n.path i n.found;
        two = within-root M t formed m.root m.path j m.found;
        area = cell-positive M t formed i li.inside;
        area_of_two = cell-positive M t formed j lj.inside;
        kin = kin;
        near = λ s. even j i lj.inside li.inside lj.whole li.whole (shares-sym A B (touch→shares A B s));
      }

  -- and they do not overlap
  one : Overlap A B → i ≡ j
  one = leaves-apart M t formed k (by-apart M d t k fit) i j li lj

  fine : (at t i).level + d ≤ M + 1
  fine = omega (arith, level-most M t formed i li.inside)

  inside-x : End A.y0 A.y1 y → A.x0 < x → x < A.x1 → Multiple M (at t i).level d A.x0 A.x1 x
  inside-x e l h =
      let r = along M d (at t i).level (at t j).level A B R S pair x y corner e l h (λ o. grind (arith, one o, corner.across)) in
      let p = (cell-steps M t formed n.root n.path i n.found r.1.w u.h r.1.one u.upright).0 in
      let q = (cell-steps M t formed m.root m.path j m.found r.1.w v.h r.1.two v.upright).0 in
      let o = shared M d (at t i).level (at t j).level R.x0 S.x0 r.1.w B.x0 B.x1 x fine r.0 r.1.apart q corner.across (omega (arith, pair.one.west)) in
      record { w = r.1.w; from = R.x0; count = o.0; step = p; there = o.1 }

  inside-y : End A.x0 A.x1 x → A.y0 < y → y < A.y1 → Multiple M (at t i).level d A.y0 A.y1 y
  inside-y e l h =
      let r =
      along M d (at t i).level (at t j).level (turn A) (turn B) (turn R) (turn S) (turn-pair M d (at t i).level (at t j).level A B R S pair) y x
      (record { across = corner.upright; upright = corner.across }) e l h (λ o. grind (arith, one (o.1, o.0), corner.upright)) in
      let p = (cell-steps M t formed n.root n.path i n.found u.w r.1.w u.across r.1.one).1 in
      let q = (cell-steps M t formed m.root m.path j m.found v.w r.1.w v.across r.1.two).1 in
      let o = shared M d (at t i).level (at t j).level R.y0 S.y0 r.1.w B.y0 B.y1 y fine r.0 r.1.apart q corner.upright (omega (arith, pair.one.south)) in
      record { w = r.1.w; from = R.y0; count = o.0; step = p; there = o.1 }

  sides : (P : ℕ → ℕ → ℕ → Type 0) → ((a b z : ℕ) → End a b z → P a b z)
      → ((a b z : ℕ) → Multiple M (at t i).level d a b z → a < z → z < b → P a b z) → OnSides P A x y
  sides P ends inner =
      let by : (a b z : ℕ) → (a < z → z < b → Multiple M (at t i).level d a b z) → a ≤ z → z ≤ b → P a b z =
      λ a b z f l h. ⊎_elim (λ e. ends a b z e) (λ s. inner a b z (f s.0 s.1) s.0 s.1) (within a b z l h) in
      record {
        south = λ e. by A.x0 A.x1 x (inside-x (lower e));
        north = λ e. by A.x0 A.x1 x (inside-x (upper e));
        west = λ e. by A.y0 A.y1 y (inside-y (lower e));
        east = λ e. by A.y0 A.y1 y (inside-y (upper e));
      }

-- "every node of the polygon that lies on a leaf's edge is an end of that edge or its middle"
pub on-balanced : (M : ℕ) (t : List Cell) → Formed M t → (k : ℕ) → RootsFit t k → Balanced t → (i j : ℕ) → LeafOf t k i → LeafOf t k j
    → (x y : ℕ) → Corner (at t j).box x y → OnSides EndOrMiddle (at t i).box x y
on-balanced M t formed k fit even i j li lj x y c =
    sides M t formed k 1 (fit-by M t formed k fit) even (omega arith) i j li lj x y c EndOrMiddle (λ a b z e. end e)
    (λ a b z s l h. middle (inside-one M s.w (at t i).level s.from a b z s.count (level-most M t formed i li.inside) s.step s.there l h))

-- and where leaves that share an edge are of one level, and the roots one grid, it is an end
pub on-conformed : (M : ℕ) (t : List Cell) → Formed M t → (k : ℕ) → OneGrid t k → Conformed t → (i j : ℕ) → LeafOf t k i → LeafOf t k j
    → (x y : ℕ) → Corner (at t j).box x y → OnSides End (at t i).box x y
on-conformed M t formed k strip even i j li lj x y c =
    sides M t formed k 0 (grid-by M t formed k strip) even (omega arith) i j li lj x y c End (λ a b z e. e)
    (λ a b z s l h. absurd (inside-none M s.w (at t i).level s.from a b z s.count s.step s.there l h))
