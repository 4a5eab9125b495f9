-- A split changes no root: what a cell has whatever its children are stays as it was. Assumes nothing.
use Rattle.std.proofs.Common.{◌≡◌, refl, sym, ap, ◌∙◌, Option, List, ℕ, ◌<◌, arith, length, is_none}
use Rattle.std.specs.Bool.{then_some}
use Rattle.table.specs.Mesh.{Cell, at, split, with_kids}
use Rattle.table.proofs.Meshes.{beyond, View, old, self, new, out, view}
use Rattle.coarsest.specs.Names.{roots_of}

-- what a root has, by id
abbrev pub of_root : {A : Type 0} → (Cell → A) → List Cell → ℕ → Option A
of_root f t r = then_some (is_none (at t r).parent) (f (at t r))

module _ {A : Type 0} (f : Cell → A) (any : (c : Cell) (k : ℕ) → f (with_kids c k) ≡ f c) (t : List Cell) (c : ℕ) (inside : c < length t) where
  pub root-kept : (r : ℕ) → of_root f (split t c) r ≡ of_root f t r
  root-kept r = go (view t c inside r)
    where
      same : Cell → Option A
      same x = then_some (is_none x.parent) (f x)

      go : View t c inside r → of_root f (split t c) r ≡ of_root f t r
      go (old l n d) = ap same d
      go (self n d) = ap same d ∙ ap (then_some (is_none (at t r).parent)) (any (at t r) (length t))
      go (new q n d) = ap same d ∙ sym (ap same (beyond t r (omega arith)))
      go (out n d) = ap same d ∙ sym (ap same (beyond t r (omega arith)))

module _ (t : List Cell) (c : ℕ) (inside : c < length t) where
  pub roots_kept : (r : ℕ) → roots_of (split t c) r ≡ roots_of t r
  unfolding roots_of
  roots_kept = root-kept (λ x. x.box) (λ x k. refl) t c inside

  pub polygons_kept : (r : ℕ) → of_root (λ x. x.polygon) (split t c) r ≡ of_root (λ x. x.polygon) t r
  polygons_kept = root-kept (λ x. x.polygon) (λ x k. refl) t c inside
