-- The lines of a list's items with their numbers: one more line, and all of them. Assumes nothing.
use Rattle.std.proofs.Common.{ℕ, ◌+◌, ◌<◌, ◌≤◌, ◌≡◌, ap, sym, ◌∙◌, List, [], ◌∷◌, ◌++◌, arith, length, get_or, take}
use Rattle.std.specs.List.{flat_map, enumerate_from}
use Rattle.std.proofs.lemmas.List.{take_more, take_all, flat_map_more}
use Rattle.std.proofs.lemmas.List.FromFn.{length-enumerate_from, get_or-enumerate_from}

pub line_more : {A : Type 0} (line : ℕ × A → List ℕ) (xs : List A) (i : ℕ) (d : A) (before s t : List ℕ) → i < length xs
    → t ≡ s ++ line (i, get_or xs i d) → s ≡ before ++ flat_map line (take i (enumerate_from 0 xs))
    → t ≡ before ++ flat_map line (take (i + 1) (enumerate_from 0 xs))
line_more line xs i d before s t h one others =
    let from_zero : 0 + i ≡ i = omega arith in
    let more = take_more (enumerate_from 0 xs) i (i, d) (omega (arith, length-enumerate_from 0 xs)) in
    let item = rw from_zero at (get_or-enumerate_from 0 xs i (i, d) h) in
    one ∙ ap (λ l. l ++ line (i, get_or xs i d)) others ∙ flat_map_more line before _ (i, get_or xs i d)
    ∙ ap (λ l. before ++ flat_map line l) (sym (more ∙ ap (λ n. take i (enumerate_from 0 xs) ++ (n ∷ [])) item))

pub numbered_all : {A : Type 0} (xs : List A) (i : ℕ) → length xs ≤ i → take i (enumerate_from 0 xs) ≡ enumerate_from 0 xs
numbered_all xs i h = take_all i (enumerate_from 0 xs) (omega (arith, length-enumerate_from 0 xs))
