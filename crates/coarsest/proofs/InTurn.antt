-- Lists of cells split in turn: what they make of a table, and that they may come before or after an evening. Assumes nothing.
use Rattle.std.proofs.Common.{◌≡◌, refl, sym, ap, ap₂, ◌∙◌, Bool, true, false, ◌||◌, not, ◌⊎◌, inl, inr, ⊎_elim, Option, None, Some, List, [], ◌∷◌, ℕ, zero, suc, ◌<◌, ◌≤◌, le_antisymm, subst, arith, length, Contains, is_none, slice_index_or}
use mathlib.Core.Logic.{◌↔◌}
use mathlib.Core.Path.{fun_ext}
use Rattle.std.specs.Bool.{then_some}
use Rattle.std.specs.Prelude.{option_and_then}
use Rattle.std.proofs.lemmas.List.Elements.{Contains-append_right}
use Rattle.cell.specs.Boxes.{Box}
use Rattle.cell.proofs.Contact.{or_cases, or_left, or_right}
use Rattle.table.specs.Mesh.{Cell, at, split, is_leaf}
use Rattle.table.specs.Formed.{Formed}
use Rattle.table.proofs.Meshes.{at_self, formed-split, not_some, some_is}
use Rattle.coarsest.specs.declared.Engine.{Engine}
use Rattle.coarsest.specs.Passes.{split_if, evened}
use Rattle.coarsest.specs.Names.{Route, Roots, HasCells, place, ◌⊆◌, roots_of, find, splitting}
use Rattle.coarsest.specs.InTurn.{Name, Possible, PassedOver, EachInTurn, placed, SameLeaves, split_named, split_in_turn}
use Rattle.coarsest.specs.Laws.{SameRoots}
use Rattle.coarsest.proofs.Roots.{of_root, roots_kept, polygons_kept}
use Rattle.coarsest.proofs.Forced.{bool-ext}
use Rattle.coarsest.proofs.Find.{at_split, at_leaf, split_at, find-root, find-up, find-rooted, is-root, root_is, tells, find-kept, splits-kept, splits-back}
use Rattle.coarsest.proofs.Numbered.{name-one, formed-cells}
use Rattle.coarsest.proofs.Count.{cells-fewer}
use Rattle.coarsest.proofs.Leaves.{found-over}
use Rattle.coarsest.proofs.Evened.{evened-keeps, evened-formed, evened-roots, evened-coarsest}
use Rattle.coarsest.proofs.Ends.{evened-parts}

abbrev pub name_of : ℕ → Route → Name
name_of r p = record { root = r; route = p }

abbrev pub SamePolygons : List Cell → List Cell → Type 0
SamePolygons t u = (r : ℕ) → of_root (λ x. x.polygon) t r ≡ of_root (λ x. x.polygon) u r

-- the table u, of t's roots, splits what t does and what L has
pub record Adds (M : ℕ) (t u : List Cell) (L : ℕ → Route → Type 0) : Type 0 where
  pub formed : Formed M u
  pub roots : SameRoots u t
  pub polygons : SamePolygons u t
  pub back : (r : ℕ) (p : Route) → splitting u r p ≡ true → (splitting t r p ≡ true) ⊎ L r p
  pub keeps : splitting t ⊆ splitting u
  pub adds : (r : ℕ) (p : Route) → L r p → splitting u r p ≡ true

abbrev Is : Name → ℕ → Route → Type 0
Is n r p = n ≡ name_of r p

-- ---- one name

named-at : (t : List Cell) (n : Name) (i : ℕ) → find t n.root n.route ≡ Some i → split_named t n ≡ split_if (is_leaf t i) t i
unfolding split_named
named-at t n i f = rw f refl

pub whole-split : (t : List Cell) (n : Name) (i : ℕ) → find t n.root n.route ≡ Some i → (at t i).kids ≡ None → split_named t n ≡ split t i
whole-split t n i f k = named-at t n i f ∙ ap (λ (o : Option ℕ). split_if (is_none o) t i) k

pub passed-kept : (t : List Cell) (n : Name) → PassedOver t n → split_named t n ≡ t
passed-kept t n s =
    let d = at_split t n.root n.route s in
    named-at t n d.id d.found ∙ ap (λ (o : Option ℕ). split_if (is_none o) t d.id) d.kids

-- a split cell is split under its name
split-self : (t : List Cell) (c : ℕ) (inside : c < length t) → (at t c).kids ≡ None → (r : ℕ) (p : Route) → find t r p ≡ Some c → splitting (split t c) r p ≡ true
split-self t c inside leaf r p f =
    split_at (split t c) r p c (length t) (find-kept t c inside leaf r p c f) (ap (λ (x : Cell). x.kids) (at_self t c inside))

module _ (M : ℕ) (t : List Cell) (formed : Formed M t) (n : Name) where
  possible-adds : Possible M t n → Adds M t (split_named t n) (Is n)
  possible-adds p =
      let c = p.id in
      let hc = (tells M t formed n.root n.route c p.named).inside in
      let formed' = formed-split t c hc p.whole M p.finer formed in
      rw (whole-split t n c p.named p.whole) (record {
        formed = formed';
        roots = roots_kept t c hc;
        polygons = polygons_kept t c hc;
        keeps = splits-kept t c hc p.whole;
        adds = λ r q e. split-self t c hc p.whole r q (rw (sym (ap (λ (x : Name). x.root) e), sym (ap (λ (x : Name). x.route) e)) p.named);
        back = λ r q e.
            ⊎_elim inl (λ f. (let o = name-one M t formed n.root r n.route q c p.named f in inr (ap₂ name_of o.0 o.1)))
            (splits-back t c hc p.whole M formed' r q e);
      })

  passed-adds : PassedOver t n → Adds M t (split_named t n) (Is n)
  passed-adds s =
      rw (passed-kept t n s) (record {
        formed = formed;
        roots = λ r. refl;
        polygons = λ r. refl;
        keeps = λ r q e. e;
        adds = λ r q e. rw (sym (ap (λ (x : Name). x.root) e), sym (ap (λ (x : Name). x.route) e)) s;
        back = λ r q e. inl e;
      })

  pub one-adds : Possible M t n ⊎ PassedOver t n → Adds M t (split_named t n) (Is n)
  one-adds = ⊎_elim possible-adds passed-adds

-- ---- a list

in-front : (n : Name) (ns : List Name) (r : ℕ) (p : Route) → Is n r p → Contains (n ∷ ns) (name_of r p)
in-front n ns r p e = (0, omega arith, e)

in-rest : (n : Name) (ns : List Name) (x : Name) → Contains ns x → Contains (n ∷ ns) x
in-rest n ns x h = Contains-append_right (n ∷ []) ns x h

in-cases : (n : Name) (ns : List Name) (r : ℕ) (p : Route) → Contains (n ∷ ns) (name_of r p) → Is n r p ⊎ Contains ns (name_of r p)
in-cases n ns r p h = go h.0 h.1 h.2
  where
    go : (i : ℕ) → i < length (n ∷ ns) → slice_index_or (n ∷ ns) i (name_of r p) ≡ name_of r p → Is n r p ⊎ Contains ns (name_of r p)
    go zero l e = inl e
    go (suc i) l e = inr (i, omega arith, e)

pub list-adds : (M : ℕ) (names : List Name) (t : List Cell) → Formed M t → EachInTurn M t names
    → Adds M t (split_in_turn t names) (λ r p. Contains names (name_of r p))
unfolding split_in_turn
list-adds M [] t formed each =
    record {
      formed = formed;
      roots = λ r. refl;
      polygons = λ r. refl;
      keeps = λ r p e. e;
      adds = λ r p h. (let l = h.1 in absurd (omega arith));
      back = λ r p e. inl e;
    }
list-adds M (n ∷ ns) t formed each =
    let a = one-adds M t formed n each.0 in
    let b = list-adds M ns (split_named t n) a.formed each.1 in
    record {
      formed = b.formed;
      roots = λ r. b.roots r ∙ a.roots r;
      polygons = λ r. b.polygons r ∙ a.polygons r;
      keeps = λ r p e. b.keeps r p (a.keeps r p e);
      adds = λ r p h. ⊎_elim (λ e. b.keeps r p (a.adds r p e)) (λ h. b.adds r p h) (in-cases n ns r p h);
      back = λ r p e.
          ⊎_elim (λ s. ⊎_elim inl (λ i. inr (in-front n ns r p i)) (a.back r p s)) (λ h. inr (in-rest n ns (name_of r p) h))
          (b.back r p e);
    }

-- ---- what is possible or passed over, in a table that splits more

module _ (M : ℕ) where
  -- the two tables have the same roots, and the second splits what the first does
  pub record More (t u : List Cell) : Type 0 where
    pub before : Formed M t
    pub after : Formed M u
    pub roots : SameRoots u t
    pub splits : splitting t ⊆ splitting u

  one-stays : (t u : List Cell) → More t u → (n : Name) → Possible M t n ⊎ PassedOver t n → Possible M u n ⊎ PassedOver u n
  one-stays t u m n (inr s) = inr (m.splits n.root n.route s)
  one-stays t u m n (inl p) = go (splitting u n.root n.route) refl
    where
      go : (b : Bool) → splitting u n.root n.route ≡ b → Possible M u n ⊎ PassedOver u n
      go true e = inr e
      go false e =
          let f = found-over t u m.roots m.splits n.root n.route p.id p.named in
          let old = (tells M t m.before n.root n.route p.id p.named).level in
          let new = (tells M u m.after n.root n.route f.0 f.1).level in
          let finer = p.finer in
          inl (record { id = f.0; named = f.1; whole = at_leaf u n.root n.route f.0 f.1 e; finer = omega arith })

  pub list-stays : (names : List Name) (t u : List Cell) → More t u → EachInTurn M t names → EachInTurn M u names
  list-stays [] t u m each = tt
  list-stays (n ∷ ns) t u m each =
      let o = one-stays t u m n each.0 in
      let a = one-adds M t m.before n each.0 in
      let b = one-adds M u m.after n o in (
        o,
        list-stays ns (split_named t n) (split_named u n)
            (record {
              before = a.formed;
              after = b.formed;
              roots = λ r. b.roots r ∙ m.roots r ∙ sym (a.roots r);
              splits = λ r p e. ⊎_elim (λ s. b.keeps r p (m.splits r p s)) (λ i. b.adds r p i) (a.back r p e);
            })
            each.1,
      )

-- ---- leaves by name

-- an evening changes no root's polygon
pub evened-polygons : (e : Engine) (k M : ℕ) (t : List Cell) → SamePolygons (evened e k M t) t
evened-polygons e k M t =
    evened-keeps e k M (λ u. SamePolygons u t) (λ u f c hf hc same d r. polygons_kept u c hc r ∙ same r) t (λ r. refl)

-- a cell has its root's polygon
polygon-of : (M : ℕ) (t : List Cell) → Formed M t → (r : ℕ) (p : Route) (i : ℕ) → find t r p ≡ Some i → (at t i).polygon ≡ (at t r).polygon
polygon-of M t formed r [] i f = ap (λ (x : ℕ). (at t x).polygon) (find-root t r i f).0
polygon-of M t formed r (q ∷ p) i f =
    let u = find-up t r q p i f in
    ap (λ (x : ℕ). (at t x).polygon) u.here ∙ ((formed.split u.parent u.first u.kids).kid q).polygon ∙ polygon-of M t formed r p u.parent u.found

-- the two tables split the same of the same roots
pub record Alike (M : ℕ) (t u : List Cell) : Type 0 where
  pub one : Formed M t
  pub other : Formed M u
  pub roots : SameRoots t u
  pub polygons : SamePolygons t u
  pub splits : (r : ℕ) (p : Route) → splitting t r p ≡ splitting u r p

polygon-root : (t u : List Cell) (r : ℕ) → of_root (λ x. x.polygon) t r ≡ of_root (λ x. x.polygon) u r → (at t r).parent ≡ None → (at u r).parent ≡ None
    → (at t r).polygon ≡ (at u r).polygon
polygon-root t u r e p q =
    some_is (of_root (λ x. x.polygon) u r) (at t r).polygon (at u r).polygon
    (sym e ∙ ap (λ (o : Option ℕ). then_some (is_none o) (at t r).polygon) p) (ap (λ (o : Option ℕ). then_some (is_none o) (at u r).polygon) q)

-- whether a cell is a leaf is told by its name
leaf-told : (t : List Cell) (r : ℕ) (p : Route) (i : ℕ) → find t r p ≡ Some i → splitting t r p ≡ not (is_leaf t i)
unfolding splitting
leaf-told t r p i f = rw f refl

not-one : (a b : Bool) → not a ≡ not b → a ≡ b
not-one true true e = refl
not-one true false e = sym e
not-one false true e = sym e
not-one false false e = refl

leaf-there : (t u : List Cell) (r : ℕ) (p : Route) (i j : ℕ) → splitting t r p ≡ splitting u r p → find t r p ≡ Some i → find u r p ≡ Some j → is_leaf t i ≡ is_leaf u j
leaf-there t u r p i j same f g =
    not-one (is_leaf t i) (is_leaf u j) (sym (leaf-told t r p i f) ∙ same ∙ leaf-told u r p j g)

module _ (M : ℕ) where
  alike-turned : (t u : List Cell) → Alike M t u → Alike M u t
  alike-turned t u a =
      record { one = a.other; other = a.one; roots = λ r. sym (a.roots r); polygons = λ r. sym (a.polygons r); splits = λ r p. sym (a.splits r p) }

  found-there : (t u : List Cell) → Alike M t u → (r : ℕ) (p : Route) (i : ℕ) → find t r p ≡ Some i → (j : ℕ) × (find u r p ≡ Some j)
  found-there t u a = found-over t u (λ r. sym (a.roots r)) (λ r p e. sym (a.splits r p) ∙ e)

  placed-there : (t u : List Cell) → Alike M t u → (r : ℕ) (p : Route) (i j : ℕ) → find t r p ≡ Some i → find u r p ≡ Some j → placed t i ≡ placed u j
  placed-there t u a r p i j f g =
      let top = find-rooted t r p i f in
      let here = is-root u r (at t r).box (sym (a.roots r) ∙ root_is t r top) in
      let one = tells M t a.one r p i f in
      let other = tells M u a.other r p j g in
      let box : (at t i).box ≡ (at u j).box = one.box ∙ ap (λ (A : Box). place A p) (sym here.1) ∙ sym other.box in
      let level : (at t i).level ≡ (at u j).level = one.level ∙ sym other.level in
      let root : (at t r).polygon ≡ (at u r).polygon = polygon-root t u r (a.polygons r) top here.0 in
      let polygon = polygon-of M t a.one r p i f ∙ root ∙ sym (polygon-of M u a.other r p j g) in
      let leaf : is_leaf t i ≡ is_leaf u j = leaf-there t u r p i j (a.splits r p) f g in
      λ x. then_some (leaf x) (record { box = box x; level = level x; polygon = polygon x })

  pub leaves-same : (t u : List Cell) → Alike M t u → SameLeaves t u
  leaves-same t u a r p = by (find t r p) (find u r p) refl refl
    where
      by : (o w : Option ℕ) → find t r p ≡ o → find u r p ≡ w → option_and_then (placed t) o ≡ option_and_then (placed u) w
      by None None f g = refl
      by None (Some j) f g = let h = found-there u t (alike-turned t u a) r p j g in not_some (find t r p) h.0 f h.1
      by (Some i) None f g = let h = found-there t u a r p i f in not_some (find u r p) h.0 g h.1
      by (Some i) (Some j) f g = placed-there t u a r p i j f g

-- ---- as many cells

-- of two tables of the same roots the one that splits no less has no fewer cells; alike, they have as many
pub cells-more : (M : ℕ) (t u : List Cell) → Formed M t → Formed M u → SameRoots t u → splitting t ⊆ splitting u → length t ≤ length u
cells-more M t u ft fu roots more =
    cells-fewer (roots_of u) (splitting t) (splitting u) (length t) (length u) more
    (subst (λ (R : Roots). HasCells R (splitting t) (length t)) (fun_ext roots) (formed-cells M t ft)) (formed-cells M u fu)

pub cells-alike : (M : ℕ) (t u : List Cell) → Alike M t u → length t ≡ length u
cells-alike M t u a =
    le_antisymm
    (cells-more M t u a.one a.other a.roots (λ r p e. sym (a.splits r p) ∙ e))
    (cells-more M u t a.other a.one (λ r. sym (a.roots r)) (λ r p e. a.splits r p ∙ e))

-- ---- both laws

pub list-split : (M : ℕ) (t : List Cell) (names : List Name) → Formed M t → EachInTurn M t names
    → Formed M (split_in_turn t names) × SameRoots (split_in_turn t names) t
    × ((r : ℕ) (p : Route) → (splitting (split_in_turn t names) r p ≡ true) ↔ ((splitting t r p ≡ true) ⊎ Contains names (name_of r p)))
list-split M t names formed each =
    let a = list-adds M names t formed each in
    (a.formed, a.roots, λ r p. (a.back r p, ⊎_elim (a.keeps r p) (a.adds r p)))

module _ (e : Engine) (k M : ℕ) (t : List Cell) (names : List Name) (formed : Formed M t) (each : EachInTurn M t names) where
  pub later-each : EachInTurn M (evened e k M t) names
  later-each =
      list-stays M names t (evened e k M t)
      (record {
        before = formed;
        after = evened-formed e k M t formed;
        roots = evened-roots e k M t formed;
        splits = (evened-coarsest e k M t formed).keeps;
      })
      each

  first : Adds M t (split_in_turn t names) (λ r p. Contains names (name_of r p))
  first = list-adds M names t formed each

  later : Adds M (evened e k M t) (split_in_turn (evened e k M t) names) (λ r p. Contains names (name_of r p))
  later = list-adds M names (evened e k M t) (evened-formed e k M t formed) later-each

  -- split later: what the evening split, and what is split at first
  later-splits : (r : ℕ) (p : Route)
      → splitting (split_in_turn (evened e k M t) names) r p ≡ (splitting (evened e k M t) r p || splitting (split_in_turn t names) r p)
  later-splits r p =
      bool-ext _ _
      (λ h. ⊎_elim (or_left _ _) (λ c. or_right (splitting (evened e k M t) r p) _ (first.adds r p c)) (later.back r p h))
      (λ h.
      ⊎_elim (later.keeps r p)
      (λ s. ⊎_elim (λ o. later.keeps r p ((evened-coarsest e k M t formed).keeps r p o)) (later.adds r p) (first.back r p s))
      (or_cases (splitting (evened e k M t) r p) (splitting (split_in_turn t names) r p) h))

  pub later-same : (r : ℕ) (p : Route)
      → splitting (evened e k M (split_in_turn (evened e k M t) names)) r p ≡ splitting (evened e k M (split_in_turn t names)) r p
  later-same r p =
      sym (evened-parts k M e t (split_in_turn t names) (split_in_turn (evened e k M t) names) formed first.formed later.formed
      (λ s. sym (first.roots s))
      (λ s. later.roots s ∙ evened-roots e k M t formed s ∙ sym (first.roots s))
      first.keeps later-splits r p)

  pub later-alike : Alike M (evened e k M (split_in_turn (evened e k M t) names)) (evened e k M (split_in_turn t names))
  later-alike =
      record {
        one = evened-formed e k M (split_in_turn (evened e k M t) names) later.formed;
        other = evened-formed e k M (split_in_turn t names) first.formed;
        roots = λ r.
            evened-roots e k M (split_in_turn (evened e k M t) names) later.formed r ∙ later.roots r ∙ evened-roots e k M t formed r ∙ sym (first.roots r)
            ∙ sym (evened-roots e k M (split_in_turn t names) first.formed r);
        polygons = λ r.
            evened-polygons e k M (split_in_turn (evened e k M t) names) r ∙ later.polygons r ∙ evened-polygons e k M t r ∙ sym (first.polygons r)
            ∙ sym (evened-polygons e k M (split_in_turn t names) r);
        splits = later-same;
      }

  pub later-ends : EachInTurn M (evened e k M t) names
      × SameLeaves (evened e k M (split_in_turn (evened e k M t) names)) (evened e k M (split_in_turn t names))
  later-ends = (later-each, leaves-same M _ _ later-alike)
