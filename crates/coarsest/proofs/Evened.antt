-- The passes end, and what they end in is the coarsest splitting. Assumes nothing.
use Rattle.std.proofs.Common.{◌≡◌, refl, sym, ap, ◌∙◌, Bool, true, false, cond, inl, List, ℕ, zero, suc, ◌+◌, ◌*◌, ◌≤◌, ◌<◌, arith, eqb, length, eq-eqb, ne_eqb}
use mathlib.Core.Logic.{by_cases}
use native.Mathlib.Decide.{ℕ_discrete}
use Rattle.table.specs.Mesh.{Cell, at, leaf_count}
use Rattle.table.specs.Formed.{Formed}
use Rattle.coarsest.specs.declared.Engine.{Engine}
use Rattle.coarsest.specs.Passes.{pass, run, splits_left, evened}
use Rattle.coarsest.specs.Names.{Splitting, Roots, Coarsest, roots_of, splitting}
use Rattle.table.proofs.Meshes.{length-split, formed-split}
use Rattle.coarsest.proofs.Least.{due-of, level-most, Way, way-start, way-split, way_end}
use Rattle.coarsest.proofs.Left.{left_split}
use Rattle.coarsest.proofs.Sweep.{Keeps, Grown, grown-keeps, grown-least}
use Rattle.coarsest.proofs.Passes.{pass-keeps, pass-grown, pass_same, pass-calm}
use Rattle.coarsest.proofs.Adding.{Added, added-start, added-keeps, same-cells, same-leaf_count}

run-if : (P : List Cell → Type 0) (d : Bool) (t u : List Cell) → P t → P u → P (cond d t u)
run-if P true t u p q = p
run-if P false t u p q = q

pub run-keeps : (e : Engine) (k : ℕ) (P : List Cell → Type 0) → Keeps k P → (m : ℕ) (t : List Cell) → P t → P (run e k m t)
unfolding run
run-keeps e k P keep zero t p = p
run-keeps e k P keep (suc m) t p =
    run-if P (eqb (leaf_count (pass e k t)) (leaf_count t)) t (run e k m (pass e k t)) p (run-keeps e k P keep m (pass e k t) (pass-keeps e k t P keep p))

-- the splits that are left go down as the table grows
pub record Spent (M : ℕ) (t u : List Cell) : Type 0 where
  pub formed : Formed M u
  pub spent : 4 * splits_left M u + length u ≡ 4 * splits_left M t + length t

pub spent-keeps : (k M : ℕ) (t : List Cell) → Keeps k (Spent M t)
spent-keeps k M t u f c hf hc s d =
    let w = due-of k u f c d in
    let a = w.apart in
    let m = level-most M u s.formed f hf in
    let finer : (at u c).level < M = omega arith in
    let r = left_split M u c hc w.coarse finer in
    let l = length-split u c in
    let b = s.spent in
    record { formed = formed-split u c hc w.coarse M finer s.formed; spent = omega arith }

pub pass_spent : (e : Engine) (k M : ℕ) (t : List Cell) → Formed M t → Spent M t (pass e k t)
pass_spent e k M t formed = pass-keeps e k t (Spent M t) (spent-keeps k M t) (record { formed = formed; spent = refl })

pub pass-formed : (e : Engine) (k M : ℕ) (t : List Cell) → Formed M t → Formed M (pass e k t)
pass-formed e k M t formed = (pass_spent e k M t formed).formed

-- the measure of the passes: one that makes a split leaves fewer splits
pub pass-left : (e : Engine) (k M : ℕ) (t : List Cell) → Formed M t → length t < length (pass e k t) → splits_left M (pass e k t) < splits_left M t
pass-left e k M t formed h = let s = (pass_spent e k M t formed).spent in omega arith

pub run-stop : (e : Engine) (k m : ℕ) (t : List Cell) → length (pass e k t) ≡ length t → run e k m t ≡ t
unfolding run
run-stop e k zero t l = refl
run-stop e k (suc m) t l = ap {B = List Cell} (λ (d : Bool). cond d t (run e k m (pass e k t))) (eq-eqb (leaf_count (pass e k t)) (leaf_count t) (same-leaf_count e k t l))

pub run-go : (e : Engine) (k m : ℕ) (t : List Cell) → (length (pass e k t) ≡ length t → ⊥) → run e k (suc m) t ≡ run e k m (pass e k t)
unfolding run
run-go e k m t l = ap {B = List Cell} (λ (d : Bool). cond d t (run e k m (pass e k t))) (ne_eqb (leaf_count (pass e k t)) (leaf_count t) (λ n. l (same-cells e k t n)))

-- where as many passes are allowed as there are splits left, the last one makes none
pub run_ends : (e : Engine) (k M m : ℕ) (t : List Cell) → Formed M t → splits_left M t ≤ m → length (pass e k (run e k m t)) ≡ length (run e k m t)
run_ends e k M zero t formed h =
    let s = (pass_spent e k M t formed).spent in
    let g = pass-grown e k t in
    let l : length (pass e k t) ≡ length t = omega arith in
    rw (run-stop e k zero t l) l
run_ends e k M (suc m) t formed h =
    let s = pass_spent e k M t formed in
    let w = s.spent in
    let g = pass-grown e k t in
    by_cases (ℕ_discrete (length (pass e k t)) (length t))
    (λ l. rw (run-stop e k (suc m) t l) l)
    (λ l. rw (run-go e k m t l) (run_ends e k M m (pass e k t) s.formed (omega arith)))

-- and allowing more of them changes nothing
pub run_more : (e : Engine) (k M m n : ℕ) (t : List Cell) → Formed M t → splits_left M t ≤ m → splits_left M t ≤ n → run e k m t ≡ run e k n t
run_more e k M zero n t formed hm hn =
    let s = (pass_spent e k M t formed).spent in
    let g = pass-grown e k t in
    let l : length (pass e k t) ≡ length t = omega arith in
    run-stop e k zero t l ∙ sym (run-stop e k n t l)
run_more e k M (suc m) zero t formed hm hn =
    let s = (pass_spent e k M t formed).spent in
    let g = pass-grown e k t in
    let l : length (pass e k t) ≡ length t = omega arith in
    run-stop e k (suc m) t l ∙ sym (run-stop e k zero t l)
run_more e k M (suc m) (suc n) t formed hm hn =
    let s = pass_spent e k M t formed in
    let w = s.spent in
    let g = pass-grown e k t in
    by_cases (ℕ_discrete (length (pass e k t)) (length t))
    (λ l. run-stop e k (suc m) t l ∙ sym (run-stop e k (suc n) t l))
    (λ l. run-go e k m t l ∙ run_more e k M m n (pass e k t) s.formed (omega arith) (omega arith) ∙ sym (run-go e k n t l))

pub evened-keeps : (e : Engine) (k M : ℕ) (P : List Cell → Type 0) → Keeps k P → (t : List Cell) → P t → P (evened e k M t)
unfolding evened
evened-keeps e k M P keep t p = run-keeps e k P keep (splits_left M t) t p

-- each split is three leaves more, and four cells
pub evened-leaves : (e : Engine) (k M : ℕ) (t : List Cell) → Added t (evened e k M t)
evened-leaves e k M t = evened-keeps e k M (Added t) (added-keeps k t) t (added-start t)

-- the main theorem: what the passes end in is the coarsest splitting
module _ (e : Engine) (k M : ℕ) (t : List Cell) (formed : Formed M t) where
  way-keeps : (R : Roots) (T : Splitting) → Keeps k (Way k M R T)
  way-keeps R T u f c hf hc w d = way-split k M R T u w f c hf hc (due-of k u f c d)

  pub evened-way : Way k M (roots_of t) (splitting t) (evened e k M t)
  evened-way = evened-keeps e k M (Way k M (roots_of t) (splitting t)) (way-keeps (roots_of t) (splitting t)) t (way-start k M t formed)

  pub evened-calm : length (pass e k (evened e k M t)) ≡ length (evened e k M t)
  unfolding evened
  evened-calm = run_ends e k M (splits_left M t) t formed (omega arith)

  pub evened-coarsest : Coarsest k M (roots_of t) (splitting t) (splitting (evened e k M t))
  evened-coarsest = way_end k M (roots_of t) (splitting t) (evened e k M t) evened-way (pass-calm e k (evened e k M t) evened-calm)

  pub evened-formed : Formed M (evened e k M t)
  evened-formed = evened-way.formed

  pub evened-roots : (r : ℕ) → roots_of (evened e k M t) r ≡ roots_of t r
  evened-roots = evened-way.roots

  pub evened-grown : length t ≤ length (evened e k M t)
  evened-grown = grown-least t (evened e k M t) (evened-keeps e k M (Grown t) (grown-keeps k t) t (inl refl))

-- a pass on the way, and the end: what a loop of passes goes by
module _ (e : Engine) (k M : ℕ) (t : List Cell) (formed : Formed M t) where
  pub evened-stop : length (pass e k t) ≡ length t → evened e k M t ≡ t
  unfolding evened
  evened-stop l = run-stop e k (splits_left M t) t l

  pub evened-pass : evened e k M (pass e k t) ≡ evened e k M t
  unfolding evened
  evened-pass = by_cases (ℕ_discrete (length (pass e k t)) (length t)) (λ l. ap (evened e k M) (pass_same e k t l)) (λ l. go (splits_left M t) refl l)
    where
      go : (m : ℕ) → splits_left M t ≡ m → (length (pass e k t) ≡ length t → ⊥) → run e k (splits_left M (pass e k t)) (pass e k t) ≡ run e k (splits_left M t) t
      go zero h l = let s = (pass_spent e k M t formed).spent in let g = pass-grown e k t in absurd (l (omega arith))
      go (suc m) h l =
          let s = pass_spent e k M t formed in
          let w = s.spent in
          let g = pass-grown e k t in
          run_more e k M (splits_left M (pass e k t)) m (pass e k t) s.formed (omega arith) (omega arith) ∙ sym (run-go e k m t l) ∙ ap (λ (x : ℕ). run e k x t) (sym h)
