-- A table numbers the cells of its splitting: each cell has one name, so the splitting has as many cells as the table. Assumes nothing.
use Rattle.std.proofs.Common.{◌≡◌, refl, sym, ap, ap₂, subst₂, ◌∙◌, Some, List, [], ◌∷◌, ℕ, ◌<◌, arith, length}
use native.Mathlib.Decide.{dec_lt}
use Rattle.cell.specs.Boxes.{Quad, sw, se, nw, ne, num, quad_at}
use Rattle.table.specs.Mesh.{Cell, at}
use Rattle.table.specs.Formed.{Formed}
use Rattle.coarsest.specs.Names.{Route, HasCells, roots_of, find, splitting}
use Rattle.table.proofs.Meshes.{not_some, some_is}
use Rattle.coarsest.proofs.Find.{find-up, find-root, find-rooted, is-root, root_is, stands_of, stands-found, tells, named}

quad-num : (q : Quad) → quad_at (num q) ≡ q
quad-num sw = refl
quad-num se = refl
quad-num nw = refl
quad-num ne = refl

num-one : (p q : Quad) → num p ≡ num q → p ≡ q
num-one p q e = sym (quad-num p) ∙ ap quad_at e ∙ quad-num q

-- a cell has one name
module _ (M : ℕ) (t : List Cell) (formed : Formed M t) where
  kid-parent : (r : ℕ) (q : Quad) (p : Route) (i : ℕ) (e : find t r (q ∷ p) ≡ Some i) → (at t i).parent ≡ Some (find-up t r q p i e).parent
  kid-parent r q p i e =
      let u = find-up t r q p i e in
      ap (λ (x : ℕ). (at t x).parent) u.here ∙ ((formed.split u.parent u.first u.kids).kid q).parent

  pub name-one : (r s : ℕ) (p q : Route) (i : ℕ) → find t r p ≡ Some i → find t s q ≡ Some i → (r ≡ s) × (p ≡ q)
  name-one r s [] [] i e d = (sym (find-root t r i e).0 ∙ (find-root t s i d).0, refl)
  name-one r s [] (y ∷ q) i e d =
      let f = find-root t r i e in
      not_some (at t i).parent (find-up t s y q i d).parent (ap (λ (x : ℕ). (at t x).parent) f.0 ∙ f.1) (kid-parent s y q i d)
  name-one r s (x ∷ p) [] i e d =
      let f = find-root t s i d in
      not_some (at t i).parent (find-up t r x p i e).parent (ap (λ (x : ℕ). (at t x).parent) f.0 ∙ f.1) (kid-parent r x p i e)
  name-one r s (x ∷ p) (y ∷ q) i e d =
      let u = find-up t r x p i e in
      let w = find-up t s y q i d in
      let up : u.parent ≡ w.parent = some_is (at t i).parent u.parent w.parent (kid-parent r x p i e) (kid-parent s y q i d) in
      let f : u.first ≡ w.first = some_is (at t w.parent).kids u.first w.first (ap (λ (j : ℕ). (at t j).kids) (sym up) ∙ u.kids) w.kids in
      let hu = u.here in
      let hw = w.here in
      let n = name-one r s p q u.parent u.found (w.found ∙ ap Some (sym up)) in
      (n.0, ap₂ {C = Route} (λ a b. a ∷ b) (num-one x y (omega arith)) n.1)

  -- the name of a cell, and any other past the count
  name_if : (i : ℕ) → Dec (i < length t) → ℕ × Route
  name_if i (yes h) = let n = named M t formed i h in (n.root, n.path)
  name_if i (no h) = (0, [])

  name-found : (i : ℕ) (d : Dec (i < length t)) → i < length t → find t (name_if i d).0 (name_if i d).1 ≡ Some i
  unfolding name_if
  name-found i (yes h) l = (named M t formed i h).found
  name-found i (no h) l = absurd (h l)

  abbrev root_at : ℕ → ℕ
  root_at i = (name_if i (dec_lt i (length t))).0

  abbrev route_at : ℕ → Route
  route_at i = (name_if i (dec_lt i (length t))).1

  at_name : (i : ℕ) → i < length t → find t (root_at i) (route_at i) ≡ Some i
  at_name i h = name-found i (dec_lt i (length t)) h

  pub formed-cells : HasCells (roots_of t) (splitting t) (length t)
  formed-cells =
      record {
        root = root_at;
        route = route_at;
        known = λ i h. ((at t (root_at i)).box, root_is t (root_at i) (find-rooted t (root_at i) (route_at i) i (at_name i h)));
        stands = λ i h. stands_of t (root_at i) (route_at i) i (at_name i h);
        once = λ i j hi hj r p.
            some_is (find t (root_at j) (route_at j)) i j (subst₂ (λ (x : ℕ) (y : Route). find t x y ≡ Some i) r p (at_name i hi)) (at_name j hj);
        all = λ r p A k st.
            let f = stands-found t r p (is-root t r A k).0 st in
            let l = (tells M t formed r p f.0 f.1).inside in
            let n = name-one (root_at f.0) r (route_at f.0) p f.0 (at_name f.0 l) f.1 in
            (f.0, l, n.0, n.1);
      }
