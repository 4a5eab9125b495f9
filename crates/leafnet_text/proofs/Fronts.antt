-- What stands at the front of a row. Assumes nothing.
use Rattle.std.proofs.Common.{ℕ, ◌+◌, ◌≤◌, ◌≡◌, ap, sym, subst, ◌∙◌, List, ◌++◌, arith, length, take, drop, length-take-le, Option}
use lib.Seq.{take-append-le, take-append-add}
use Rattle.std.proofs.Math.Seq.{take-append_seam}
use Rattle.std.proofs.lemmas.List.Edits.{sets, sets-eq}
use Rattle.std.specs.Io.KnownBytes.{Consumes}
use Rattle.std.proofs.KnownBytes.{Consumes-trans}

-- items stored from a row's start on, and read again
pub front : {A : Type 0} (row xs : List A) (n : ℕ) → n ≡ length xs → n ≤ length row → take n (sets row 0 xs) ≡ xs
front row xs n e h =
    ap (λ m. take m (sets row 0 xs)) e ∙ ap (take (length xs)) (sets-eq xs row 0 (omega arith)) ∙ take-append_seam xs (drop (0 + length xs) row)

-- bytes read behind those that a row holds
pub read-more : (a b c : Option (List ℕ)) (room part rest : List ℕ) (at n : ℕ) → at ≤ length room → n ≤ length part → Consumes a b (take at room)
    → Consumes b c (take n part) → Consumes a c (take (at + n) (take at room ++ (part ++ rest)))
read-more a b c room part rest at n within fits before read =
    let long = length-take-le at room within in
    let grown : take (at + n) (take at room ++ (part ++ rest)) ≡ take at room ++ take n part =
    ap (λ k. take (k + n) (take at room ++ (part ++ rest))) (sym long) ∙ take-append-add (take at room) (part ++ rest) n
    ∙ ap (λ l. take at room ++ l) (take-append-le n part rest fits) in
    subst (Consumes a c) (sym grown) (Consumes-trans a b c (take at room) (take n part) before read)
