-- What the passes keep of a table: the cells that were there, but for the children of those that were leaves; and what each cell hands on
-- to its children. An undo goes by the first, the row's ranges by the second. Assumes nothing.
use Rattle.std.proofs.Common.{◌≡◌, refl, sym, ap, ◌∙◌, None, Some, List, ℕ, ◌<◌, ◌≤◌, arith, length}
use Rattle.table.specs.Mesh.{Cell, at, split}
use Rattle.coarsest.specs.declared.Engine.{Engine}
use Rattle.coarsest.specs.Passes.{evened}
use Rattle.table.proofs.Meshes.{not_some, some_is, length-split, Kept, kept, kids-kept, View, old, self, new, out, view}
use Rattle.coarsest.proofs.Least.{due-of}
use Rattle.coarsest.proofs.Sweep.{Keeps}
use Rattle.coarsest.proofs.Evened.{evened-keeps}

-- ---- the cells that were there

-- u was made of t by splits: a cell that was split has the children it had, and a leaf of t has none, or new ones
pub record From (t u : List Cell) : Type 0 where
  pub longer : length t ≤ length u
  pub cell : (i : ℕ) → i < length t → Kept t u i
  pub split : (i f : ℕ) → (at t i).kids ≡ Some f → (at u i).kids ≡ Some f
  pub leaf : (i f : ℕ) → i < length t → (at t i).kids ≡ None → (at u i).kids ≡ Some f → length t ≤ f

pub from_start : (t : List Cell) → From t t
from_start t =
    record {
      longer = omega arith;
      cell = λ i h. record { box = refl; level = refl; parent = refl; polygon = refl };
      split = λ i f e. e;
      leaf = λ i f h e d. not_some (at t i).kids f e d;
    }

kept_on : (t u v : List Cell) (i : ℕ) → Kept t u i → Kept u v i → Kept t v i
kept_on t u v i a b =
    record { box = b.box ∙ a.box; level = b.level ∙ a.level; parent = b.parent ∙ a.parent; polygon = b.polygon ∙ a.polygon }

-- new children stand at the end
leaf-on : (t u : List Cell) (c i f : ℕ) → c < length u → From t u → i < length t → (at t i).kids ≡ None → (at (split u c) i).kids ≡ Some f → length t ≤ f
leaf-on t u c i f hc w h e d = go (view u c hc i)
  where
    go : View u c hc i → length t ≤ f
    go (old l n s) = w.leaf i f h e (sym (ap (λ (x : Cell). x.kids) s) ∙ d)
    go (self n s) =
        let g : length u ≡ f = some_is (at (split u c) i).kids (length u) f (ap (λ (x : Cell). x.kids) s) d in
        let l = w.longer in
        omega arith
    go (new q n s) = let l = w.longer in absurd (omega arith)
    go (out n s) = let l = w.longer in absurd (omega arith)

pub from-keeps : (k : ℕ) (t : List Cell) → Keeps k (From t)
from-keeps k t u f c hf hc w d =
    let l = length-split u c in
    let m = w.longer in
    record {
      longer = omega arith;
      cell = λ i h. kept_on t u (split u c) i (w.cell i h) (kept u c hc i (omega arith));
      split = λ i g e. kids-kept u c hc (due-of k u f c d).coarse i g (w.split i g e);
      leaf = λ i g h e. leaf-on t u c i g hc w h e;
    }

-- ---- of what the passes end in

module _ (e : Engine) (k M : ℕ) (t : List Cell) where
  pub evened-from : From t (evened e k M t)
  evened-from = evened-keeps e k M (From t) (from-keeps k t) t (from_start t)
