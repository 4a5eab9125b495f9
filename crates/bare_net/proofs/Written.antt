-- Rows that are written from the front, one entry after the other.
use Rattle.std.proofs.Common.{◌≡◌, sym, ap, ◌∙◌, List, [], ◌∷◌, ◌++◌, map, ℕ, ◌+◌, ◌<◌, arith, length, set}
use Rattle.std.specs.List.{range_with_len}
use Rattle.std.proofs.lemmas.List.FromFn.{length-map-range_with_len, map-range_with_len_more}
use Rattle.refusals.specs.Said.{written}
use Rattle.net_rows.proofs.Written.{written_more}

-- the next of a row of f's values
pub filled_more : {A : Type 0} (f : ℕ → A) (row old : List A) (n : ℕ) (x : A) → row ≡ written (map f (range_with_len 0 n)) old → n < length old → x ≡ f n → set row n x ≡ written (map f (range_with_len 0 (n + 1))) old
filled_more {A} f row old n x e h is =
    ap (λ (z : List A). set z n x) e
    ∙ (written_more (map f (range_with_len 0 n)) old n x (sym (length-map-range_with_len f 0 n)) h
    ∙ ap (λ (z : List A). written z old) (ap (λ (y : A). map f (range_with_len 0 n) ++ (y ∷ [])) is ∙ sym (map-range_with_len_more f 0 n n (let q : 0 + n ≡ n = omega arith in q))))
