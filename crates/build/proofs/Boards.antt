-- A board's polygons one after another. Assumes nothing.
use Rattle.std.proofs.Common.{ℕ, zero, suc, ◌+◌, ◌-◌, ◌*◌, ◌^◌, ◌<◌, ◌≤◌, ◌≡◌, refl, sym, ap, ◌∙◌, true, false, Option, Some, None, List, [], ◌++◌, ⊎_elim, arith, add-one, eqb, pow_mono, ℤ, length, get_or, length-append}
use borrow.Author.Tests.{eqb-false}
use Rattle.cell.proofs.Offsets.{below?}
use Rattle.refusals.specs.Limits.{widest_level, max_cell}
use Rattle.refusals.specs.Said.{Said, refused}
use Rattle.strips.proofs.Picking.{split}
use Rattle.build.specs.Grid.{all_even, listed_at, cell_or, size_of, roots_in}
use Rattle.build.specs.Board.{Board, unit, size_at, strips_at, roots_at, roots_to}
use Rattle.build.specs.Says.{even_from}
use Rattle.build.specs.Steps.{Sizes, Fit, SameTo, placed}
use Rattle.build.proofs.Tallying.{length-roots}
use Rattle.table.proofs.Ids.{flat_map-range-more}
use Rattle.build.proofs.Placing.{placed-more}

size-some : (o : Option ℕ) (target : ℕ) → 1 ≤ target → 1 ≤ cell_or o target
size-some None target h = h
size-some (Some cell) target h = split (eqb cell 0) (λ e. rw e h) (λ e. rw e (above e))
  where
    above : eqb cell 0 ≡ false → 1 ≤ cell
    above e = ⊎_elim (λ (k : 0 < cell). k) (λ (k : cell ≤ 0). absurd (eqb-false cell 0 e (omega arith))) (below? 0 cell)

size_fits : (o : Option ℕ) (target : ℕ) → target ≤ max_cell → cell_or o 0 ≤ max_cell → cell_or o target ≤ max_cell
size_fits None target h k = h
size_fits (Some cell) target h k = split (eqb cell 0) (λ e. rw e h) (λ e. rw e (rw e at k))

pub unit-fits : (m : ℕ) → m ≤ widest_level → 2 ^ (m + 1) ≤ 2 ^ (widest_level + 1)
unit-fits m h = let k : m + 1 ≤ widest_level + 1 = omega arith in pow_mono {i = m + 1} {j = widest_level + 1} k

module _ (b : Board) where
  pub layer-sizes : Fit b → (layer : ℕ) → Sizes b.settings.cap (size_of b.list layer b.settings.target)
  layer-sizes f layer =
      record {
        some = f.cap-some;
        cap-fits = f.cap-fits;
        cell = size-some (listed_at b.list layer) b.settings.target f.target-some;
        cell-fits = size_fits (listed_at b.list layer) b.settings.target f.target_fits (f.cells layer);
      }

  pub sizes : Fit b → (p : ℕ) → Sizes b.settings.cap (size_at b p)
  sizes f p = layer-sizes f (get_or b.layers p 0)

  pub roots-more : (p : ℕ) → roots_to b (p + 1) ≡ roots_to b p ++ roots_at b p
  unfolding roots_to
  roots-more p = flat_map-range-more (roots_at b) p

  pub length-roots-more : (p : ℕ) → length (roots_to b (p + 1)) ≡ length (roots_to b p) + length (roots_at b p)
  length-roots-more p = ap length (roots-more p) ∙ length-append (roots_to b p) (roots_at b p)

  pub roots-mono : (p q : ℕ) → p ≤ q → length (roots_to b p) ≤ length (roots_to b q)
  roots-mono p zero h = let e : p ≡ 0 = omega arith in rw e (omega arith)
  roots-mono p (suc q) h =
      let r = roots-mono p q in
      let m = rw (add-one q) at (length-roots-more q) in
      ⊎_elim
      (λ (k : p < suc q). let i = r (omega arith) in omega arith)
      (λ (k : suc q ≤ p). let e : p ≡ suc q = omega arith in rw e (omega arith))
      (below? p (suc q))

  pub no-roots : roots_to b 0 ≡ []
  unfolding roots_to
  no-roots = refl

  module _ (p n : ℕ) (h : p < n) (o : Said) where
    rest : n - p ≡ suc (n - (p + 1))
    rest = omega arith

    pub even-on : all_even (unit b) b.settings.cap (size_at b p) (strips_at b p) ≡ true → even_from b p (n - p) o ≡ even_from b (p + 1) (n - (p + 1)) o
    unfolding even_from
    even-on e = rw (rest, e, add-one p) refl

    pub even-stop : all_even (unit b) b.settings.cap (size_at b p) (strips_at b p) ≡ false → even_from b p (n - p) o ≡ refused 5 p
    unfolding even_from
    even-stop e = rw (rest, e) refl

  pub even-end : (p n : ℕ) (o : Said) → n ≤ p → even_from b p (n - p) o ≡ o
  unfolding even_from
  even-end p n o h = let e : n - p ≡ 0 = omega arith in rw e refl

  -- a polygon's roots on top of a count
  pub count-more : (slots sum r p : ℕ) → SameTo slots sum (length (roots_to b p)) → SameTo slots r (sum + length (roots_in 0 b.settings.cap (size_at b p) (strips_at b p))) → SameTo slots r (length (roots_to b (p + 1)))
  count-more slots sum r p s t = omega (arith, length-roots-more p, length-roots p 0 b.settings.cap (size_at b p) (strips_at b p))

  -- a polygon's roots placed behind those before it
  pub polygon-placed : (t u v : List ℤ) (k p : ℕ) → k ≡ length (roots_to b p) → u ≡ placed t 0 (roots_to b p) → v ≡ placed u k (roots_at b p) → length (roots_to b (p + 1)) * 8 ≤ length t → v ≡ placed t 0 (roots_to b (p + 1))
  polygon-placed t u v k p e f g h =
      g ∙ ap (λ (l : List ℤ). placed l k (roots_at b p)) f
      ∙ placed-more t 0 k (roots_to b p) (roots_at b p) (omega arith) (omega (arith, length-roots-more p))
      ∙ ap (placed t 0) (sym (roots-more p))
