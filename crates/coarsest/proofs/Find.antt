-- The names of a table's cells: each cell has one, it tells the cell's box and level, and a split keeps it.
-- Assumes nothing.
use mathlib.Core.Bool.{false≢true}
use Rattle.std.proofs.Common.{◌≡◌, refl, sym, ap, subst, ◌∙◌, true, false, not, true≢false, ◌≢◌, ◌⊎◌, inl, inr, Option, None, Some, List, [], ◌∷◌, ℕ, zero, suc, ◌+◌, ◌<◌, arith, length, is_none}
use native.Mathlib.Decide.{ℕ_discrete}
use Rattle.std.specs.Bool.{then_some}
use Rattle.cell.specs.Boxes.{Box, Quad, num, quadrant}
use Rattle.table.specs.Mesh.{Cell, at, split}
use Rattle.coarsest.specs.Names.{Route, place, Stands, roots_of, plus, kid_of, find, split_in, splitting, ◌⊆◌}
use Rattle.table.specs.Formed.{Formed}
use Rattle.table.proofs.Meshes.{not_some, some_is, num-below, kids-in, root_in, View, old, self, new, out, view, kept, kids-kept}

-- `find`, one step up
pub record Up (t : List Cell) (r : ℕ) (q : Quad) (p : Route) (i : ℕ) : Type 0 where
  pub parent : ℕ
  pub first : ℕ
  pub found : find t r p ≡ Some parent
  pub kids : (at t parent).kids ≡ Some first
  pub here : i ≡ first + num q

pub find-up : (t : List Cell) (r : ℕ) (q : Quad) (p : Route) (i : ℕ) → find t r (q ∷ p) ≡ Some i → Up t r q p i
unfolding find
find-up t r q p i e = go (find t r p) refl e
  where
    next : (j : ℕ) → find t r p ≡ Some j → (o : Option ℕ) → (at t j).kids ≡ o → plus o q ≡ Some i → Up t r q p i
    next j d None k h = not_some None i refl h
    next j d (Some f) k h = record { parent = j; first = f; found = d; kids = k; here = some_is (Some i) i (f + num q) refl (sym h) }

    go : (o : Option ℕ) → find t r p ≡ o → kid_of t o q ≡ Some i → Up t r q p i
    go None d h = not_some None i refl h
    go (Some j) d h = next j d (at t j).kids refl h

pub find-kid : (t : List Cell) (r : ℕ) (q : Quad) (p : Route) (j f : ℕ) → find t r p ≡ Some j → (at t j).kids ≡ Some f → find t r (q ∷ p) ≡ Some (f + num q)
unfolding find
find-kid t r q p j f d k = ap (λ (o : Option ℕ). kid_of t o q) d ∙ ap (λ (o : Option ℕ). plus o q) k

pub find-root : (t : List Cell) (r i : ℕ) → find t r [] ≡ Some i → (i ≡ r) × ((at t r).parent ≡ None)
unfolding find
find-root t r i e = go (at t r).parent refl e
  where
    go : (o : Option ℕ) → (at t r).parent ≡ o → then_some (is_none o) r ≡ Some i → (i ≡ r) × ((at t r).parent ≡ None)
    go None d h = (some_is (Some i) i r refl (sym h), d)
    go (Some j) d h = not_some None i refl h

pub root-find : (t : List Cell) (r : ℕ) → (at t r).parent ≡ None → find t r [] ≡ Some r
unfolding find
root-find t r e = ap (λ (o : Option ℕ). then_some (is_none o) r) e

pub is-root : (t : List Cell) (r : ℕ) (A : Box) → roots_of t r ≡ Some A → ((at t r).parent ≡ None) × ((at t r).box ≡ A)
unfolding roots_of
is-root t r A e = go (at t r).parent refl e
  where
    go : (o : Option ℕ) → (at t r).parent ≡ o → then_some (is_none o) (at t r).box ≡ Some A → ((at t r).parent ≡ None) × ((at t r).box ≡ A)
    go None d h = (d, cc)
    go (Some j) d h = let z : ◌≡◌ {A = ℕ} 0 1 = cc in absurd (omega arith)

pub root_is : (t : List Cell) (r : ℕ) → (at t r).parent ≡ None → roots_of t r ≡ Some (at t r).box
unfolding roots_of
root_is t r e = ap (λ (o : Option ℕ). then_some (is_none o) (at t r).box) e

-- the splitting of a table, by ids
pub split_at : (t : List Cell) (r : ℕ) (p : Route) (i f : ℕ) → find t r p ≡ Some i → (at t i).kids ≡ Some f → splitting t r p ≡ true
unfolding splitting
split_at t r p i f e k = ap (split_in t) e ∙ ap (λ (o : Option ℕ). not (is_none o)) k

pub record SplitAt (t : List Cell) (r : ℕ) (p : Route) : Type 0 where
  pub id : ℕ
  pub first : ℕ
  pub found : find t r p ≡ Some id
  pub kids : (at t id).kids ≡ Some first

pub at_split : (t : List Cell) (r : ℕ) (p : Route) → splitting t r p ≡ true → SplitAt t r p
unfolding splitting
at_split t r p e = go (find t r p) refl e
  where
    next : (i : ℕ) → find t r p ≡ Some i → (o : Option ℕ) → (at t i).kids ≡ o → not (is_none o) ≡ true → SplitAt t r p
    next i d None k h = absurd (false≢true h)
    next i d (Some f) k h = record { id = i; first = f; found = d; kids = k }

    go : (o : Option ℕ) → find t r p ≡ o → split_in t o ≡ true → SplitAt t r p
    go None d h = absurd (false≢true h)
    go (Some i) d h = next i d (at t i).kids refl h

pub at_leaf : (t : List Cell) (r : ℕ) (p : Route) (i : ℕ) → find t r p ≡ Some i → splitting t r p ≡ false → (at t i).kids ≡ None
at_leaf t r p i d e = go (at t i).kids refl
  where
    go : (o : Option ℕ) → (at t i).kids ≡ o → (at t i).kids ≡ None
    go None k = k
    go (Some f) k = absurd (true≢false (sym (split_at t r p i f d k) ∙ e))

pub stands_of : (t : List Cell) (r : ℕ) (p : Route) (i : ℕ) → find t r p ≡ Some i → Stands (splitting t) r p
stands_of t r [] i e = tt
stands_of t r (q ∷ p) i e = let u = find-up t r q p i e in split_at t r p u.parent u.first u.found u.kids

pub stands-found : (t : List Cell) (r : ℕ) (p : Route) → (at t r).parent ≡ None → Stands (splitting t) r p → (i : ℕ) × (find t r p ≡ Some i)
stands-found t r [] e st = (r, root-find t r e)
stands-found t r (q ∷ p) e st = let s = at_split t r p st in (s.first + num q, find-kid t r q p s.id s.first s.found s.kids)

pub find-rooted : (t : List Cell) (r : ℕ) (p : Route) (i : ℕ) → find t r p ≡ Some i → (at t r).parent ≡ None
find-rooted t r [] i e = (find-root t r i e).1
find-rooted t r (q ∷ p) i e = let u = find-up t r q p i e in find-rooted t r p u.parent u.found

module _ (M : ℕ) (t : List Cell) (formed : Formed M t) where
  -- what a name tells
  pub record Tells (r : ℕ) (p : Route) (i : ℕ) : Type 0 where
    pub inside : i < length t
    pub box : (at t i).box ≡ place (at t r).box p
    pub level : (at t i).level ≡ length p

  pub tells : (r : ℕ) (p : Route) (i : ℕ) → find t r p ≡ Some i → Tells r p i
  tells r [] i e =
      let f = find-root t r i e in
      record {
        inside = rw f.0 (root_in t r f.1);
        box = ap (λ (x : ℕ). (at t x).box) f.0;
        level = rw f.0 (formed.root r f.1).level;
      }
  tells r (q ∷ p) i e =
      let u = find-up t r q p i e in
      let b = tells r p u.parent u.found in
      let s = formed.split u.parent u.first u.kids in
      let k = s.kid q in
      record {
        inside = (let n = num-below q in let h = u.here in let l = s.below in omega arith);
        box = rw u.here (k.box ∙ ap (λ (x : Box). quadrant x q) b.box);
        level = rw u.here (k.level ∙ ap suc b.level);
      }

  pub record Named (i : ℕ) : Type 0 where
    pub root : ℕ
    pub path : Route
    pub found : find t root path ≡ Some i

  name_by : (i : ℕ) → i < length t → ((j : ℕ) → j < i → Named j) → (o : Option ℕ) → (at t i).parent ≡ o → Named i
  name_by i l lower None e = record { root = i; path = []; found = root-find t i e }
  name_by i l lower (Some j) e =
      let b = formed.born i j l e in
      let a = (formed.split j b.first b.split).above in
      let g = b.here in
      let u = lower j (omega arith) in
      record { root = u.root; path = b.place ∷ u.path; found = find-kid t u.root b.place u.path j b.first u.found b.split ∙ ap Some (sym g) }

  named-below : (n i : ℕ) → i < n → i < length t → Named i
  named-below zero i h l = absurd (omega arith)
  named-below (suc n) i h l = name_by i l (λ j s. named-below n j (omega arith) (omega arith)) (at t i).parent refl

  pub named : (i : ℕ) → i < length t → Named i
  named i l = named-below (suc i) i (omega arith) l

-- a split keeps the names, and makes no other name for a cell that was there
module _ (t : List Cell) (c : ℕ) (inside : c < length t) (leaf : (at t c).kids ≡ None) where
  pub find-kept : (r : ℕ) (p : Route) (i : ℕ) → find t r p ≡ Some i → find (split t c) r p ≡ Some i
  find-kept r [] i e =
      let f = find-root t r i e in
      root-find (split t c) r ((kept t c inside r (root_in t r f.1)).parent ∙ f.1) ∙ ap Some (sym f.0)
  find-kept r (q ∷ p) i e =
      let u = find-up t r q p i e in
      find-kid (split t c) r q p u.parent u.first (find-kept r p u.parent u.found) (kids-kept t c inside leaf u.parent u.first u.kids)
      ∙ ap Some (sym u.here)

  pub splits-kept : splitting t ⊆ splitting (split t c)
  splits-kept r p e =
      let s = at_split t r p e in
      split_at (split t c) r p s.id s.first (find-kept r p s.id s.found) (kids-kept t c inside leaf s.id s.first s.kids)

  -- the kids of a cell in the table after the split: those that it had, or the new ones, of c
  kids-back : (i f : ℕ) → (at (split t c) i).kids ≡ Some f → i ≢ c → (at t i).kids ≡ Some f
  kids-back i f e other = go (view t c inside i)
    where
      go : View t c inside i → (at t i).kids ≡ Some f
      go (old l n d) = sym (ap (λ (x : Cell). x.kids) d) ∙ e
      go (self n d) = absurd (other n)
      go (new q n d) = not_some (at (split t c) i).kids f (ap (λ (x : Cell). x.kids) d) e
      go (out n d) = not_some (at (split t c) i).kids f (ap (λ (x : Cell). x.kids) d) e

  new-kids : (f : ℕ) → (at (split t c) c).kids ≡ Some f → f ≡ length t
  new-kids f e = go (view t c inside c)
    where
      go : View t c inside c → f ≡ length t
      go (old l n d) = absurd (n refl)
      go (self n d) = some_is (at (split t c) c).kids f (length t) e (ap (λ (x : Cell). x.kids) d)
      go (new q n d) = absurd (omega arith)
      go (out n d) = absurd (omega arith)

  parent-back : (r : ℕ) → (at (split t c) r).parent ≡ None → (at t r).parent ≡ None
  parent-back r e = go (view t c inside r)
    where
      go : View t c inside r → (at t r).parent ≡ None
      go (old l n d) = sym (ap (λ (x : Cell). x.parent) d) ∙ e
      go (self n d) = sym (ap (λ (x : Cell). x.parent) d) ∙ e
      go (new q n d) = not_some (at (split t c) r).parent c e (ap (λ (x : Cell). x.parent) d)
      go (out n d) = not_some (at (split t c) r).parent 0 e (ap (λ (x : Cell). x.parent) d)

  module _ (M : ℕ) (formed : Formed M (split t c)) where
    pub find-back : (r : ℕ) (p : Route) (i : ℕ) → find (split t c) r p ≡ Some i → i < length t → find t r p ≡ Some i
    find-back r [] i e l =
        let f = find-root (split t c) r i e in
        root-find t r (parent-back r f.1) ∙ ap Some (sym f.0)
    find-back r (q ∷ p) i e l =
        let u = find-up (split t c) r q p i e in
        let a = (formed.split u.parent u.first u.kids).above in
        let g = u.here in
        let other : u.parent ≢ c = λ n. (let z = new-kids u.first (subst (λ (x : ℕ). (at (split t c) x).kids ≡ Some u.first) n u.kids) in omega arith) in
        find-kid t r q p u.parent u.first (find-back r p u.parent u.found (omega arith)) (kids-back u.parent u.first u.kids other)
        ∙ ap Some (sym g)

    -- a name that the table splits after the split: c's, or one that was split before
    pub splits-back : (r : ℕ) (p : Route) → splitting (split t c) r p ≡ true → (splitting t r p ≡ true) ⊎ (find t r p ≡ Some c)
    splits-back r p e = go (ℕ_discrete s.id c)
      where
        s : SplitAt (split t c) r p
        s = at_split (split t c) r p e

        go : Dec (s.id ≡ c) → (splitting t r p ≡ true) ⊎ (find t r p ≡ Some c)
        go (yes n) = inr (find-back r p c (s.found ∙ ap Some n) inside)
        go (no n) =
            let k = kids-back s.id s.first s.kids n in
            inl (split_at t r p s.id s.first (find-back r p s.id s.found (kids-in t s.id s.first k)) k)
