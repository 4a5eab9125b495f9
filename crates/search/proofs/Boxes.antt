-- The index of the roots: how it is made, that a split keeps it, and that a block which lies apart holds no root that meets. Assumes
-- nothing.
use mathlib.Core.Logic.{by_cases}
use Rattle.std.proofs.Common.{ℕ, ◌+◌, ◌*◌, ◌/◌, ◌%◌, ◌<◌, ◌≤◌, ◌≡◌, sym, ap, subst, ◌∙◌, false, None, List, arith, length, get_or}
use native.Mathlib.Decide.{dec_lt, ℕ_discrete}
use Rattle.cell.specs.Boxes.{Box}
use Rattle.table.specs.Mesh.{Cell, at, split}
use Rattle.table.specs.Formed.{Formed}
use Rattle.table.proofs.Meshes.{length-split}
use Rattle.coarsest.proofs.Find.{is-root, root_is}
use Rattle.coarsest.proofs.Roots.{roots_kept}
use Rattle.search.specs.Search.{meet, Within, Clears, Passed, RootsBelow}
use Rattle.search.specs.declared.roots.Roots.{Roots}
use Rattle.search.specs.Roots.{Indexes, bounds_box, block_box}

-- the boxes of the blocks before j hold their roots
abbrev pub Blocks : List Cell → Roots → ℕ → Type 0
Blocks t roots j = (i : ℕ) → i < roots.end → i < j * 64 → (at t i).level ≡ 0 → Within (at t i).box (block_box roots i)

-- the index, once all blocks are there
pub blocks-indexed : (M : ℕ) (t : List Cell) → Formed M t → (roots : Roots) (j : ℕ) → roots.end ≤ length t → RootsBelow t roots.end
    → Blocks t roots j → roots.end ≤ j * 64 → Indexes roots t
blocks-indexed M t formed roots j inside below blocks all =
    record {
      inside = inside;
      below = below;
      holds = λ i e. let h = below i e in blocks i h (omega arith) (formed.root i e).level;
    }

-- a split changes no root
pub split-indexed : (t : List Cell) (c : ℕ) → c < length t → (roots : Roots) → Indexes roots t → Indexes roots (split t c)
split-indexed t c hc roots x =
    record {
      inside = (let l = length-split t c in let i = x.inside in omega arith);
      below = λ i e. x.below i (back i e).0;
      holds = λ i e. let r = back i e in subst (λ (b : Box). Within b (block_box roots i)) r.1 (x.holds i r.0);
    }
  where
    back : (i : ℕ) → (at (split t c) i).parent ≡ None → ((at t i).parent ≡ None) × ((at t i).box ≡ (at (split t c) i).box)
    back i e = is-root t i (at (split t c) i).box (sym (roots_kept t c hc i) ∙ root_is (split t c) i e)

-- roots that are passed over: none, a block that lies apart, one that does not meet
module _ (t : List Cell) (a c : ℕ) where
  pub passed-block : (i : ℕ) (roots : Roots) → Indexes roots t → Passed t a c i → i % 64 ≡ 0
      → Clears (at t a).box (block_box roots i) → Passed t a c (i + 64)
  passed-block i roots x before even clear j g l e =
      by_cases (dec_lt j i)
      (λ h. before j g h e)
      (λ h.
      let z : j / 64 ≡ i / 64 = omega arith in
      clear (at t j).box (subst (Within (at t j).box) (same j z) (x.holds j e)))
    where
      same : (j : ℕ) → j / 64 ≡ i / 64 → block_box roots j ≡ block_box roots i
      same j z = ap (λ (y : ℕ). bounds_box (get_or roots.blocks y (record { x0 = 0; y0 = 0; x1 = 0; y1 = 0 }))) z

  pub passed-one : (i : ℕ) → Passed t a c i → ((at t i).parent ≡ None → meet (at t a).box (at t i).box ≡ false) → Passed t a c (i + 1)
  passed-one i before own j g l e =
      by_cases (ℕ_discrete j i)
      (λ d. subst (λ (y : ℕ). meet (at t a).box (at t y).box ≡ false) (sym d) (own (ap (λ (y : ℕ). (at t y).parent) (sym d) ∙ e)))
      (λ d. before j g (omega arith) e)
