-- Sides judged and roots counted, strip by strip. Assumes nothing.
use Rattle.std.proofs.Common.{ℕ, ◌+◌, ◌*◌, ◌<◌, ◌≤◌, min, ◌≡◌, refl, sym, ap, ◌∙◌, true, false, List, [], ◌∷◌, ⊎_elim, arith, length, lt-ltb, le-ltb, Option, Some, None, Ok, Err}
use Rattle.std.specs.Option.{ok_or}
use Rattle.refusals.specs.declared.Refusal.{Refusal}
use Rattle.cell.proofs.Offsets.{below?}
use Rattle.strips.specs.declared.walk.Strip.{Strip}
use Rattle.build.specs.Grid.{cut_of, even_strip, all_even, roots_in}
use Rattle.build.specs.Steps.{more_of}
use Rattle.build.proofs.Placing.{length-grid, length-roots-cons, roots-none}

pub even-none : (u cap c : ℕ) → all_even u cap c [] ≡ true
unfolding all_even
even-none u cap c = refl

pub even-first : (u cap c : ℕ) (s : Strip) (ss : List Strip) → even_strip u (cut_of cap c s) s ≡ true → all_even u cap c ss ≡ all_even u cap c (s ∷ ss)
unfolding all_even
even-first u cap c s ss e = rw e refl

pub uneven-first : (u cap c : ℕ) (s : Strip) (ss : List Strip) → even_strip u (cut_of cap c s) s ≡ false → all_even u cap c (s ∷ ss) ≡ false
unfolding all_even
uneven-first u cap c s ss e = rw e refl

-- the count goes on, as far as it matters
pub more_same : (slots sum n g rest whole : ℕ) → whole ≡ g + rest → min (sum + whole) (slots + 1) ≡ n → min (more_of slots sum g + rest) (slots + 1) ≡ n
more_same slots sum n g rest whole w e =
    ⊎_elim
    (λ (h : slots < sum). rw (lt-ltb slots sum h) (omega arith))
    (λ (h : sum ≤ slots). rw (le-ltb slots sum h) (omega arith))
    (below? slots sum)

-- how many roots strips have does not depend on the polygon
pub length-roots : (p q cap c : ℕ) (ss : List Strip) → length (roots_in p cap c ss) ≡ length (roots_in q cap c ss)
length-roots p q cap c [] = ap length (roots-none p cap c) ∙ sym (ap length (roots-none q cap c))
length-roots p q cap c (s ∷ ss) =
    let i = length-roots p q cap c ss in
    let g = cut_of cap c s in
    length-roots-cons p cap c s ss
    ∙ omega (arith, length-grid p s g g.ny, length-grid q s g g.ny)
    ∙ sym (length-roots-cons q cap c s ss)

pub length-roots-first : (cap c : ℕ) (s : Strip) (ss : List Strip) → length (roots_in 0 cap c (s ∷ ss)) ≡ (cut_of cap c s).ny * (cut_of cap c s).nx + length (roots_in 0 cap c ss)
length-roots-first cap c s ss = length-roots-cons 0 cap c s ss ∙ ap (λ (n : ℕ). n + length (roots_in 0 cap c ss)) (length-grid 0 s (cut_of cap c s) (cut_of cap c s).ny)

-- a tally of none is an error, and no other is
pub none_from_err : (o : Option ℕ) (x e : Refusal) → ok_or o x ≡ Err e → (o ≡ None) × (e ≡ x)
none_from_err None x e h = (refl, cc)
none_from_err (Some n) x e h = absurd cc

pub some_from_ok : (o : Option ℕ) (x : Refusal) (n : ℕ) → ok_or o x ≡ Ok n → o ≡ Some n
some_from_ok None x n h = absurd cc
some_from_ok (Some m) x n h = cc
