-- Each split is three leaves more, and four cells: so a table that splits made has as many leaves as before exactly if it has as many
-- cells. Assumes nothing.
use mathlib.Core.Logic.{by_cases}
use Rattle.std.proofs.Common.{◌≡◌, List, ℕ, ◌+◌, ◌*◌, ◌<◌, arith, length}
use native.Mathlib.Decide.{ℕ_discrete}
use Rattle.table.specs.Mesh.{Cell, leaf_count}
use Rattle.table.proofs.Meshes.{length-split}
use Rattle.table.proofs.Counting.{leaf_count-split}
use Rattle.coarsest.specs.declared.Engine.{Engine}
use Rattle.coarsest.specs.Passes.{pass}
use Rattle.coarsest.proofs.Least.{due-of}
use Rattle.coarsest.proofs.Sweep.{Keeps}
use Rattle.coarsest.proofs.Passes.{pass-keeps, pass-grown}

-- so many splits made u of t
pub record Added (t u : List Cell) : Type 0 where
  pub splits : ℕ
  pub leaves : leaf_count u ≡ leaf_count t + 3 * splits
  pub cells : length u ≡ length t + 4 * splits

pub added-start : (t : List Cell) → Added t t
added-start t = record { splits = 0; leaves = omega arith; cells = omega arith }

pub added-keeps : (k : ℕ) (t : List Cell) → Keeps k (Added t)
added-keeps k t u f c hf hc a d =
    let l = length-split u c in
    let n = leaf_count-split u c hc (due-of k u f c d).coarse in
    let x = a.leaves in
    let y = a.cells in
    record { splits = a.splits + 1; leaves = omega arith; cells = omega arith }

-- as many leaves, as many cells
pub added-longer : (t u : List Cell) → Added t u → leaf_count u ≡ leaf_count t → length u ≡ length t
added-longer t u a e = let x = a.leaves in let y = a.cells in omega arith

pub added-leafier : (t u : List Cell) → Added t u → length u ≡ length t → leaf_count u ≡ leaf_count t
added-leafier t u a e = let x = a.leaves in let y = a.cells in omega arith

-- of a pass
module _ (e : Engine) (k : ℕ) (t : List Cell) where
  pub pass-added : Added t (pass e k t)
  pass-added = pass-keeps e k t (Added t) (added-keeps k t) (added-start t)

  pub same-cells : leaf_count (pass e k t) ≡ leaf_count t → length (pass e k t) ≡ length t
  same-cells = added-longer t (pass e k t) pass-added

  pub same-leaf_count : length (pass e k t) ≡ length t → leaf_count (pass e k t) ≡ leaf_count t
  same-leaf_count = added-leafier t (pass e k t) pass-added

  -- a pass with other leaves made a split
  pub pass-more : (leaf_count (pass e k t) ≡ leaf_count t → ⊥) → length t < length (pass e k t)
  pass-more ne =
      let g = pass-grown e k t in
      by_cases (ℕ_discrete (length (pass e k t)) (length t)) (λ l. absurd (ne (same-leaf_count l))) (λ l. omega arith)
