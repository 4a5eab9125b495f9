-- What balance and conform end in is balanced or conformed; and roots that fit, are one grid, or do not touch stay so. Assumes nothing.
use Rattle.std.proofs.Common.{◌≡◌, sym, ap, ◌∙◌, subst₂, false, not, Option, None, Some, List, ℕ, ◌<◌, arith, length}
use Rattle.table.specs.Mesh.{Cell, at, split, is_none}
use Rattle.table.specs.Formed.{Formed}
use Rattle.table.proofs.Meshes.{root_in, Kept, kept, formed-split}
use Rattle.coarsest.specs.declared.Engine.TheVariants.{Balancing, Conforming}
use Rattle.coarsest.specs.Passes.{evened, balance, conform}
use Rattle.coarsest.specs.Names.{Route, Leaf, roots_of, find, split_in, splitting, Evens}
use Rattle.coarsest.proofs.Roots.{roots_kept}
use Rattle.coarsest.proofs.Find.{Named, named, tells, stands_of, find-rooted, is-root, root_is}
use Rattle.coarsest.proofs.Kept.{evened-from}
use Rattle.coarsest.proofs.Evened.{evened-roots}
use Rattle.coarsest.specs.Laws.{SameRoots}
use Rattle.net.specs.Net.{Poly}
use Rattle.laws.specs.Grids.{RootOf, OneGrid, Even, Splits, start, next}
use Rattle.laws.specs.Fit.{Fit, RootsFit, Touch, NoneTouches}

leaf-whole : (t : List Cell) (r : ℕ) (p : Route) (i : ℕ) → find t r p ≡ Some i → (at t i).kids ≡ None → splitting t r p ≡ false
unfolding splitting
leaf-whole t r p i e k = ap (split_in t) e ∙ ap (λ (o : Option ℕ). not (is_none o)) k

-- a table that has the coarsest splitting is even
module _ (d M : ℕ) (t u : List Cell) (evens : Evens d M t u) where
  leaf-of : (i : ℕ) → (at u i).kids ≡ None → (n : Named M u evens.formed i) → Leaf (roots_of t) (splitting u) n.root n.path (at u i).box
  leaf-of i k n =
      record {
        root = (at u n.root).box;
        known = sym (evens.roots n.root) ∙ root_is u n.root (find-rooted u n.root n.path i n.found);
        placed = sym (tells M u evens.formed n.root n.path i n.found).box;
        stands = stands_of u n.root n.path i n.found;
        whole = leaf-whole u n.root n.path i n.found k;
      }

  pub evens-even : Even d u
  evens-even i j hi hj ki kj s =
      let n = named M u evens.formed i hi in
      let m = named M u evens.formed j hj in
      let a = (tells M u evens.formed n.root n.path i n.found).level in
      let b = (tells M u evens.formed m.root m.path j m.found).level in
      let c = evens.coarsest.admissible.even n.root m.root n.path m.path (at u i).box (at u j).box (leaf-of i ki n) (leaf-of j kj m) s in
      omega arith

-- splits make no root, and change none
abbrev pub RootsKept : List Cell → List Cell → Type 0
RootsKept t u = ((i : ℕ) → i < length t → Kept t u i) × SameRoots u t

module _ (t u : List Cell) (kept : RootsKept t u) where
  pub root-back : (k r : ℕ) → RootOf u k r → RootOf t k r
  root-back k r a =
      let b = is-root t r (at u r).box (sym (kept.1 r) ∙ root_is u r a.top) in
      record { top = b.0; polygon = sym (kept.0 r (root_in t r b.0)).polygon ∙ a.polygon }

  pub box-same : (k r : ℕ) → RootOf u k r → (at u r).box ≡ (at t r).box
  box-same k r a = (kept.0 r (root_in t r (root-back k r a).top)).box

  grid-kept : (k : ℕ) → OneGrid t k → OneGrid u k
  grid-kept k s =
      record {
        grid = s.grid;
        column = s.column;
        row = s.row;
        placed = λ r a. box-same k r a ∙ s.placed r (root-back k r a);
        once = λ r q a b. s.once r q (root-back k r a) (root-back k q b);
      }

  fit-kept : (k : ℕ) → RootsFit t k → RootsFit u k
  fit-kept k f r s a b n = subst₂ Fit (sym (box-same k r a)) (sym (box-same k s b)) (f r s (root-back k r a) (root-back k s b) n)

  apart-kept : (ps : List Poly) (k : ℕ) → NoneTouches t ps k → NoneTouches u ps k
  apart-kept ps k f j l n e h r s a b o = f j l n e h r s (root-back j r a) (root-back k s b) (subst₂ Touch (box-same j r a) (box-same k s b) o)

-- so refinement keeps what is said of roots alone, and the clauses on roots, children and parents
pub splits-keep : (P : List Cell → Type 0) → ((t u : List Cell) → RootsKept t u → P t → P u) → (M : ℕ) (t : List Cell) → P t → {u : List Cell} → Splits M t u → P u
splits-keep P f M t s start = s
splits-keep P f M t s (next {u = u} w c h leaf finer) = f u (split u c) (kept u c h, roots_kept u c h) (splits-keep P f M t s w)

pub splits-fit : (M : ℕ) (t : List Cell) (k : ℕ) → RootsFit t k → {u : List Cell} → Splits M t u → RootsFit u k
splits-fit M t k = splits-keep (λ u. RootsFit u k) (λ t u c. fit-kept t u c k) M t

pub splits-apart : (M : ℕ) (t : List Cell) (ps : List Poly) (k : ℕ) → NoneTouches t ps k → {u : List Cell} → Splits M t u → NoneTouches u ps k
splits-apart M t ps k = splits-keep (λ u. NoneTouches u ps k) (λ t u c. apart-kept t u c ps k) M t

pub splits-formed : (M : ℕ) (t : List Cell) → Formed M t → {u : List Cell} → Splits M t u → Formed M u
splits-formed M t f start = f
splits-formed M t f (next {u = u} w c h leaf finer) = formed-split u c h leaf M finer (splits-formed M t f w)

-- and so do balance and conform
module _ (M : ℕ) (t : List Cell) (formed : Formed M t) where
  pub balance-keeps : RootsKept t (balance M t)
  unfolding balance
  balance-keeps = ((evened-from Balancing 1 M t).cell, evened-roots Balancing 1 M t formed)

  pub balance-fit : (k : ℕ) → RootsFit t k → RootsFit (balance M t) k
  balance-fit k = fit-kept t (balance M t) balance-keeps k

  pub balance-apart : (ps : List Poly) (k : ℕ) → NoneTouches t ps k → NoneTouches (balance M t) ps k
  balance-apart ps k = apart-kept t (balance M t) balance-keeps ps k

  pub conform-strip : (k : ℕ) → OneGrid t k → OneGrid (conform M t) k
  unfolding conform
  conform-strip k = grid-kept t (evened Conforming 0 M t) ((evened-from Conforming 0 M t).cell, evened-roots Conforming 0 M t formed) k
