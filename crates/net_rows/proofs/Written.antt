-- A row that is written from its front, element by element. Assumes nothing.
use Rattle.std.proofs.Common.{◌≡◌, ℕ, suc, ◌+◌, ◌<◌, ◌≤◌, List, [], ◌∷◌, ◌++◌, map, length, get_or, set, take, drop, sym, ap, ◌∙◌, append_assoc, add-one, drop-cons, arith}
use lib.Seq.{set_at}
use Rattle.std.proofs.lemmas.List.{take_more, map-append, length-map, length-take-le, length_push}
use Rattle.refusals.specs.Said.{written}

-- one element more
pub written_more : {A : Type 0} (new old : List A) (i : ℕ) (v : A) → i ≡ length new → i < length old → set (written new old) i v ≡ written (new ++ v ∷ []) old
written_more new old i v l h =
    rw (length_push, sym l, add-one, drop-cons old i v)
    (set_at new (get_or old i v) (drop (suc i) old) v i (sym l) ∙ sym (append_assoc new (v ∷ []) (drop (suc i) old)))

-- one element more of those that f makes of a list
pub mapped_more : {A B : Type 0} (f : A → B) (xs : List A) (old row : List B) (i : ℕ) (d : A) (v : B)
    → i < length xs → length xs ≤ length old → row ≡ written (map f (take i xs)) old → v ≡ f (get_or xs i d)
    → set row i v ≡ written (map f (take (i + 1) xs)) old
mapped_more {B = B} f xs old row i d v h k e q =
    let l = length-map (take i xs) f ∙ length-take-le i xs (omega arith) in
    let more = ap (map f) (take_more xs i d h) ∙ map-append f (take i xs) (get_or xs i d ∷ []) in
    rw (e, q) (written_more (map f (take i xs)) old i (f (get_or xs i d)) (sym l) (omega arith) ∙ ap (λ (new : List B). written new old) (sym more))
