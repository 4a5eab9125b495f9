-- Items one after the other, as a loop reads them.
use Rattle.std.proofs.Common.{◌≡◌, ℕ, suc, length, ◌-◌, ◌+◌, ◌≤◌, ◌<◌, List, [], ◌∷◌, ◌++◌, Result, Ok, Err, refl, sym, ap, ◌∙◌, append_assoc, arith, length-append}
use Rattle.std.proofs.lemmas.List.{append-nil}
use Rattle.refusals.specs.declared.Refusal.{Refusal}
use Rattle.fields.specs.Cursor.{Cursor, ◌>>=◌}
use Rattle.fields.specs.Codec.{Codec, many}
use Rattle.fields.proofs.Laws.{ok_is}

-- what was read before, and what is still read
abbrev pub with_front : {A : Type 0} → List A → Result (List A × Cursor) Refusal → Result (List A × Cursor) Refusal
with_front front reading = reading >>= λ xs. Ok (front ++ xs.0, xs.1)

-- before turn i: these items were read, and so many are still to be read where the reader stands
pub record IsAt {A S : Type 0} (item : S → Codec A) (leaves : A → S) (seen : S) (n : ℕ) (old : Cursor) (i : ℕ) (front : List A) (state : S) (c : Cursor) : Type 0 where
  pub long : length front ≡ i
  pub still : with_front front (many item leaves state (n - i) c) ≡ many item leaves seen n old

regroup : {A : Type 0} (front : List A) (x : A) (reading : Result (List A × Cursor) Refusal) → with_front front (reading >>= λ xs. Ok (x ∷ xs.0, xs.1)) ≡ with_front (front ++ x ∷ []) reading
regroup front x (Ok xs) = rw append_assoc refl
regroup front x (Err e) = refl

module _ {A S : Type 0} (item : S → Codec A) (leaves : A → S) (seen : S) (n : ℕ) (old : Cursor) where
  module _ (i : ℕ) (front : List A) (state : S) (c : Cursor) (so_far : IsAt item leaves seen n old i front state c) where
    pub goes_on : (x : A) (next : Cursor) → i < n → (item state).reading c ≡ Ok (x, next) → IsAt item leaves seen n old (i + 1) (front ++ x ∷ []) (leaves x) next
    unfolding many
    goes_on x next lt h =
        let k : n - i ≡ suc (n - (i + 1)) = omega arith in
        let one : with_front front (many item leaves state (n - i) c) ≡ with_front (front ++ x ∷ []) (many item leaves (leaves x) (n - (i + 1)) next) =
        rw (k, h) (regroup front x (many item leaves (leaves x) (n - (i + 1)) next)) in
        record { long = omega (arith, length-append front (x ∷ []), so_far.long); still = sym one ∙ so_far.still }

    pub stops : (e : Refusal) → i < n → (item state).reading c ≡ Err e → many item leaves seen n old ≡ Err e
    unfolding many
    stops e lt h =
        let k : n - i ≡ suc (n - (i + 1)) = omega arith in
        let one : with_front front (many item leaves state (n - i) c) ≡ Err e = rw (k, h) refl in
        sym so_far.still ∙ one

    pub is_done : n ≤ i → many item leaves seen n old ≡ Ok (front, c)
    unfolding many
    is_done le =
        let k : n - i ≡ 0 = omega arith in
        let one : with_front front (many item leaves state (n - i) c) ≡ Ok (front, c) = rw (k, append-nil front) refl in
        sym so_far.still ∙ one

    -- where all of them are read, so is the next
    pub reads_on : {all : List A × Cursor} → i < n → many item leaves seen n old ≡ Ok all → (x : A × Cursor) × ((item state).reading c ≡ Ok x)
    reads_on {all} lt whole = by ((item state).reading c) refl
      where
        refused : (d : Refusal) (all : List A × Cursor) → Err d ≡ Ok all → ⊥
        refused d all h = cc

        by : (r : Result (A × Cursor) Refusal) → (item state).reading c ≡ r → (x : A × Cursor) × ((item state).reading c ≡ Ok x)
        by (Ok x) e = (x, e)
        by (Err d) e = absurd (refused d all (sym (stops d lt e) ∙ whole))

    -- and it stands among them
    pub among : {all : List A × Cursor} {x : A} {next : Cursor} → i < n → many item leaves seen n old ≡ Ok all → (item state).reading c ≡ Ok (x, next) → (rest : List A) × (all.0 ≡ front ++ x ∷ rest)
    unfolding many
    among {all} {x} {next} lt whole h = by (many item leaves (leaves x) (n - (i + 1)) next) (sym one ∙ so_far.still ∙ whole)
      where
        one : with_front front (many item leaves state (n - i) c) ≡ with_front (front ++ x ∷ []) (many item leaves (leaves x) (n - (i + 1)) next)
        one = let k : n - i ≡ suc (n - (i + 1)) = omega arith in rw (k, h) (regroup front x (many item leaves (leaves x) (n - (i + 1)) next))

        by : (r : Result (List A × Cursor) Refusal) → with_front (front ++ x ∷ []) r ≡ Ok all → (rest : List A) × (all.0 ≡ front ++ x ∷ rest)
        by (Ok ys) e = (ys.0, ap (λ (z : List A × Cursor). z.0) (sym (ok_is e)) ∙ append_assoc front (x ∷ []) ys.0)
        by (Err d) e = absurd cc
