-- Two leaves of a polygon do not overlap if no two of its roots do. Assumes nothing.
use mathlib.Core.Logic.{by_cases}
use Rattle.std.proofs.Common.{◌≡◌, sym, ap, subst, subst₂, ◌∙◌, None, Some, List, [], ◌∷◌, ℕ, suc, ◌≤◌, arith, length}
use native.Mathlib.Decide.{ℕ_discrete, dec_le}
use Rattle.cell.specs.Boxes.{Box, Quad, quadrant}
use Rattle.table.specs.Mesh.{Cell, at}
use Rattle.table.specs.Formed.{Formed}
use Rattle.table.proofs.Meshes.{not_some}
use Rattle.coarsest.specs.Names.{Route, find}
use Rattle.coarsest.proofs.Find.{Up, find-up, find-root, find-rooted, named}
use Rattle.laws.specs.Grids.{RootOf, LeafOf}
use Rattle.laws.specs.Fit.{Overlap}

-- no two roots of the polygon k overlap
abbrev pub RootsApart : List Cell → ℕ → Type 0
RootsApart t k = (r s : ℕ) → RootOf t k r → RootOf t k s → Overlap (at t r).box (at t s).box → r ≡ s

pub overlap-sym : (a b : Box) → Overlap a b → Overlap b a
overlap-sym a b o = (omega arith, omega arith)

-- what overlaps a quadrant overlaps the whole
overlap-up : (a b : Box) (q : Quad) → Overlap (quadrant a q) b → Overlap a b
overlap-up a b q o = grind arith

-- and no two quadrants overlap
quadrant-one : (a : Box) (p q : Quad) → Overlap (quadrant a p) (quadrant a q) → p ≡ q
quadrant-one a p q o = grind arith

module _ (M : ℕ) (t : List Cell) (formed : Formed M t) where
  -- a kid's box and polygon, by the step up
  kid-box : (r : ℕ) (q : Quad) (p : Route) (i : ℕ) (u : Up t r q p i) → (at t i).box ≡ quadrant (at t u.parent).box q
  kid-box r q p i u = ap (λ (x : ℕ). (at t x).box) u.here ∙ ((formed.split u.parent u.first u.kids).kid q).box

  root-polygon : (r : ℕ) (p : Route) (i : ℕ) → find t r p ≡ Some i → (at t i).polygon ≡ (at t r).polygon
  root-polygon r [] i e = ap (λ (x : ℕ). (at t x).polygon) (find-root t r i e).0
  root-polygon r (q ∷ p) i e =
      let u = find-up t r q p i e in
      ap (λ (x : ℕ). (at t x).polygon) u.here ∙ ((formed.split u.parent u.first u.kids).kid q).polygon ∙ root-polygon r p u.parent u.found

  pub root-of : (k r : ℕ) (p : Route) (i : ℕ) → find t r p ≡ Some i → (at t i).polygon ≡ k → RootOf t k r
  root-of k r p i e h = record { top = find-rooted t r p i e; polygon = sym (root-polygon r p i e) ∙ h }

  module _ (k : ℕ) (roots-one : RootsApart t k) where
    -- cells of one level that overlap are the same
    level-one : (r s : ℕ) (p q : Route) (i j : ℕ) → RootOf t k r → RootOf t k s → length p ≡ length q → find t r p ≡ Some i → find t s q ≡ Some j
        → Overlap (at t i).box (at t j).box → i ≡ j
    level-one r s [] [] i j a b l e d o =
        let x = (find-root t r i e).0 in
        let y = (find-root t s j d).0 in
        x ∙ roots-one r s a b (subst₂ (λ (m n : ℕ). Overlap (at t m).box (at t n).box) x y o) ∙ sym y
    level-one r s [] (y ∷ q) i j a b l e d o = absurd (omega arith)
    level-one r s (x ∷ p) [] i j a b l e d o = absurd (omega arith)
    level-one r s (x ∷ p) (y ∷ q) i j a b l e d o =
        let u = find-up t r x p i e in
        let w = find-up t s y q j d in
        let A = (at t u.parent).box in
        let B = (at t w.parent).box in
        let both = subst₂ Overlap (kid-box r x p i u) (kid-box s y q j w) o in
        let up : Overlap A B = overlap-sym B A (overlap-up B A y (overlap-sym A (quadrant B y) (overlap-up A (quadrant B y) x both))) in
        let one : u.parent ≡ w.parent = level-one r s p q u.parent w.parent a b (omega arith) u.found w.found up in
        let quad : x ≡ y = quadrant-one B x y (subst (λ (z : ℕ). Overlap (quadrant (at t z).box x) (quadrant B y)) one both) in
        grind (arith, u.here, w.here, u.kids, w.kids)

    -- a leaf overlaps no other cell that is as fine as it or finer
    leaf-over : (r s : ℕ) (p q : Route) (i j : ℕ) → RootOf t k r → RootOf t k s → length p ≤ length q → find t r p ≡ Some i → find t s q ≡ Some j
        → (at t i).kids ≡ None → Overlap (at t i).box (at t j).box → i ≡ j
    leaf-over r s p [] i j a b l e d leaf o = level-one r s p [] i j a b (omega arith) e d o
    leaf-over r s p (y ∷ q) i j a b l e d leaf o =
        by_cases (ℕ_discrete (length p) (suc (length q)))
        (λ n. level-one r s p (y ∷ q) i j a b n e d o)
        (λ n.
        let w = find-up t s y q j d in
        let A = (at t i).box in
        let B = (at t w.parent).box in
        let up : Overlap A B = overlap-sym B A (overlap-up B A y (overlap-sym A (quadrant B y) (subst (Overlap A) (kid-box s y q j w) o))) in
        let one : i ≡ w.parent = leaf-over r s p q i w.parent a b (omega arith) e w.found leaf up in
        not_some (at t i).kids w.first leaf (ap (λ (z : ℕ). (at t z).kids) one ∙ w.kids))

    pub leaves-apart : (i j : ℕ) → LeafOf t k i → LeafOf t k j → Overlap (at t i).box (at t j).box → i ≡ j
    leaves-apart i j a b o =
        let n = named M t formed i a.inside in
        let m = named M t formed j b.inside in
        let r = root-of k n.root n.path i n.found a.polygon in
        let s = root-of k m.root m.path j m.found b.polygon in
        by_cases (dec_le (length n.path) (length m.path))
        (λ l. leaf-over n.root m.root n.path m.path i j r s l n.found m.found a.whole o)
        (λ l. sym (leaf-over m.root n.root m.path n.path j i s r (omega arith) m.found n.found b.whole (overlap-sym (at t i).box (at t j).box o)))
