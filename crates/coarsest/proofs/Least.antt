-- One split that is due keeps what holds of every table on the way to the coarsest splitting; and a table with none due has reached it.
-- Assumes nothing.
use mathlib.Core.Logic.{by_cases}
use Rattle.std.proofs.Common.{◌≡◌, refl, sym, ap, ◌∙◌, Bool, true, false, ◌&&◌, true≢false, ⊎_elim, Option, None, Some, List, [], ◌∷◌, ℕ, ◌+◌, ◌<◌, ◌≤◌, arith, ltb, length, ltb-true, lt-ltb, is_none}
use native.Mathlib.Decide.{dec_le}
use Rattle.cell.specs.Boxes.{Box, num, shares_edge}
use Rattle.table.specs.Mesh.{Cell, at, split, is_leaf}
use Rattle.coarsest.specs.Passes.{due}
use Rattle.coarsest.specs.Names.{Route, Splitting, Roots, place, Stands, Leaf, Admissible, ◌⊆◌, Coarsest, roots_of, find, splitting}
use Rattle.table.specs.Formed.{Formed}
use Rattle.cell.proofs.Contact.{and_both}
use Rattle.coarsest.proofs.Forced.{forced}
use Rattle.table.proofs.Meshes.{formed-split}
use Rattle.coarsest.proofs.Roots.{roots_kept}
use Rattle.coarsest.proofs.Find.{at_split, at_leaf, split_at, stands_of, stands-found, find-up, find-rooted, is-root, root_is, tells, named, splits-kept, splits-back}

pub record Due (k : ℕ) (t : List Cell) (f c : ℕ) : Type 0 where
  pub fine : (at t f).kids ≡ None
  pub coarse : (at t c).kids ≡ None
  pub apart : (at t c).level + k < (at t f).level
  pub shares : shares_edge (at t f).box (at t c).box ≡ true

pub is-none : (o : Option ℕ) → is_none o ≡ true → o ≡ None
is-none None e = refl
is-none (Some f) e = let z : ◌≡◌ {A = ℕ} 0 1 = cc in absurd (omega arith)

due-split : (x y z w : Bool) → (x && (y && (z && w))) ≡ true → (x ≡ true) × (y ≡ true) × (z ≡ true) × (w ≡ true)
due-split true true true true e = (refl, refl, refl, refl)
due-split true true true false e = absurd (true≢false (sym e))
due-split true true false w e = absurd (true≢false (sym e))
due-split true false z w e = absurd (true≢false (sym e))
due-split false y z w e = absurd (true≢false (sym e))

pub due-of : (k : ℕ) (t : List Cell) (f c : ℕ) → due k t f c ≡ true → Due k t f c
unfolding due
due-of k t f c e =
    let d = due-split (is_leaf t f) (is_leaf t c) (ltb ((at t c).level + k) (at t f).level) (shares_edge (at t f).box (at t c).box) e in
    record { fine = is-none (at t f).kids d.0; coarse = is-none (at t c).kids d.1; apart = ltb-true _ _ d.2; shares = d.3 }

pub of-due : (k : ℕ) (t : List Cell) (f c : ℕ) → Due k t f c → due k t f c ≡ true
unfolding due
of-due k t f c d =
    and_both (is_leaf t f) _ (ap is_none d.fine)
    (and_both (is_leaf t c) _ (ap is_none d.coarse)
    (and_both (ltb ((at t c).level + k) (at t f).level) _ (lt-ltb _ _ d.apart) d.shares))

-- no cell is finer than M
pub level-most : (M : ℕ) (t : List Cell) → Formed M t → (i : ℕ) → i < length t → (at t i).level ≤ M
level-most M t formed i h = go (at t i).parent refl
  where
    go : (o : Option ℕ) → (at t i).parent ≡ o → (at t i).level ≤ M
    go None e = let z = (formed.root i e).level in omega arith
    go (Some j) e =
        let b = formed.born i j h e in
        let s = formed.split j b.first b.split in
        let g = b.here in
        let l = (s.kid b.place).level in
        let m = s.finer in
        let n : (at t i).level ≡ (at t (b.first + num b.place)).level = ap (λ (x : ℕ). (at t x).level) g in
        omega arith

pub stands-more : (S T : Splitting) → T ⊆ S → (r : ℕ) (p : Route) → Stands T r p → Stands S r p
stands-more S T h r [] st = tt
stands-more S T h r (q ∷ p) st = h r p st

-- what holds of every table on the way from the splitting T of the roots R
pub record Way (k M : ℕ) (R : Roots) (T : Splitting) (t : List Cell) : Type 0 where
  pub formed : Formed M t
  pub roots : (r : ℕ) → roots_of t r ≡ R r
  pub keeps : T ⊆ splitting t
  pub least : (S : Splitting) → Admissible k M R S → T ⊆ S → splitting t ⊆ S

pub way-start : (k M : ℕ) (t : List Cell) → Formed M t → Way k M (roots_of t) (splitting t) t
way-start k M t formed = record { formed = formed; roots = λ r. refl; keeps = λ r p e. e; least = λ S adm h. h }

module _ (k M : ℕ) (R : Roots) (T : Splitting) (t : List Cell) (way : Way k M R T t) where
  -- an admissible splitting that has the table's splits splits the coarse cell of a pair that is due
  must : (f c : ℕ) → f < length t → Due k t f c → (S : Splitting) → Admissible k M R S → splitting t ⊆ S
      → (r : ℕ) (p : Route) → find t r p ≡ Some c → S r p ≡ true
  must f c hf d S adm h r p found =
      let n = named M t way.formed f hf in
      let tf = tells M t way.formed n.root n.path f n.found in
      let tc = tells M t way.formed r p c found in
      let a = d.apart in
      let lf = tf.level in
      let lc = tc.level in
      forced k M R S adm n.root r n.path p (at t n.root).box (at t r).box
      (sym (way.roots n.root) ∙ root_is t n.root (find-rooted t n.root n.path f n.found))
      (sym (way.roots r) ∙ root_is t r (find-rooted t r p c found))
      (stands-more S (splitting t) h n.root n.path (stands_of t n.root n.path f n.found))
      (stands-more S (splitting t) h r p (stands_of t r p c found))
      (omega arith)
      (rw (← tf.box, ← tc.box) d.shares)

  pub way-split : (f c : ℕ) → f < length t → c < length t → Due k t f c → Way k M R T (split t c)
  way-split f c hf hc d =
      let m = level-most M t way.formed f hf in
      let a = d.apart in
      let formed' = formed-split t c hc d.coarse M (omega arith) way.formed in
      record {
        formed = formed';
        roots = λ r. roots_kept t c hc r ∙ way.roots r;
        keeps = λ r p e. splits-kept t c hc d.coarse r p (way.keeps r p e);
        least = λ S adm h r p e.
            ⊎_elim (λ s. way.least S adm h r p s) (λ s. must f c hf d S adm (way.least S adm h) r p s)
            (splits-back t c hc d.coarse M formed' r p e);
      }

  -- where nothing is due, the table's splitting is admissible, and so the coarsest
  module _ (calm : (f c : ℕ) → f < length t → c < length t → due k t f c ≡ false) where
    record AtLeaf (r : ℕ) (p : Route) (A : Box) : Type 0 where
      id : ℕ
      inside : id < length t
      kids : (at t id).kids ≡ None
      box : (at t id).box ≡ A
      level : (at t id).level ≡ length p

    leaf-at : (r : ℕ) (p : Route) (A : Box) → Leaf R (splitting t) r p A → AtLeaf r p A
    leaf-at r p A l =
        let k = is-root t r l.root (way.roots r ∙ l.known) in
        let i = stands-found t r p k.0 l.stands in
        let s = tells M t way.formed r p i.0 i.1 in
        record {
          id = i.0;
          inside = s.inside;
          kids = at_leaf t r p i.0 i.1 l.whole;
          box = s.box ∙ ap (λ (x : Box). place x p) k.1 ∙ l.placed;
          level = s.level;
        }

    even : (r s : ℕ) (p q : Route) (A B : Box) → Leaf R (splitting t) r p A → Leaf R (splitting t) s q B → shares_edge A B ≡ true → length p ≤ length q + k
    even r s p q A B lp lq sh =
        let a = leaf-at r p A lp in
        let b = leaf-at s q B lq in
        by_cases (dec_le (length p) (length q + k)) (λ h. h) (λ h.
        let la = a.level in
        let lb = b.level in
        let d : Due k t a.id b.id = record { fine = a.kids; coarse = b.kids; apart = omega arith; shares = rw (a.box, b.box) sh } in
        absurd (true≢false (sym (of-due k t a.id b.id d) ∙ calm a.id b.id a.inside b.inside)))

    pub way_end : Coarsest k M R T (splitting t)
    way_end =
        record {
          keeps = way.keeps;
          admissible =
              record {
                rooted = λ r p e.
                    let s = at_split t r p e in
                    ((at t r).box, sym (way.roots r) ∙ root_is t r (find-rooted t r p s.id s.found));
                closed = λ r q p e.
                    let s = at_split t r (q ∷ p) e in
                    let u = find-up t r q p s.id s.found in
                    split_at t r p u.parent u.first u.found u.kids;
                deep = λ r p e.
                    let s = at_split t r p e in
                    let l = (tells M t way.formed r p s.id s.found).level in
                    let f = (way.formed.split s.id s.first s.kids).finer in
                    omega arith;
                even = even;
              };
          least = way.least;
        }
