-- Two lists of rising numbers are one where they have the same sums. Assumes nothing.
use Rattle.std.proofs.Common.{◌≡◌, ℕ, ◌-◌, ◌<◌, ◌≤◌, List, [], ◌∷◌, ⊎_elim, refl, sym, ap, ap₂, ◌∙◌, arith, sum_by}
use Rattle.std.proofs.lemmas.Bool.{cases_lt}
use Rattle.std.proofs.lemmas.List.Sums.{sum_by-cons}

-- each number of a list is at least v; a list rises
unfoldable pub From : ℕ → List ℕ → Type 0
From v [] = Unit {0}
From v (w ∷ l) = (v ≤ w) × From v l

unfoldable pub Rises : List ℕ → Type 0
Rises [] = Unit {0}
Rises (v ∷ l) = From v l × Rises l

-- how far numbers are below v, together: not at all where each is at least v
none-below : (v : ℕ) (l : List ℕ) → From v l → sum_by (λ x. v - x) l ≡ 0
unfolding From
none-below v [] f = refl
none-below v (w ∷ l) f =
    let h = f.0 in
    sum_by-cons (λ x. v - x) w l ∙ (let e = none-below v l f.1 in omega arith)

abbrev pub SameSums : List ℕ → List ℕ → Type 0
SameSums k l = (f : ℕ → ℕ) → sum_by f k ≡ sum_by f l

least : (v w : ℕ) (k l : List ℕ) → From v k → SameSums (v ∷ k) (w ∷ l) → v ≤ w
least v w k l f s =
    ⊎_elim
    (λ (h : w < v).
    let e = s (λ x. v - x) in
    let a = sum_by-cons (λ x. v - x) v k in
    let b = sum_by-cons (λ x. v - x) w l in
    let n = none-below v k f in
    absurd (omega arith))
    (λ (h : v ≤ w). h)
    (cases_lt w v)

pub same_rising : (k l : List ℕ) → Rises k → Rises l → SameSums k l → k ≡ l
unfolding Rises
same_rising [] [] r q s = refl
same_rising [] (w ∷ l) r q s =
    let e = s (λ x. 1) in
    let b = sum_by-cons (λ x. 1) w l in
    absurd (omega arith)
same_rising (v ∷ k) [] r q s =
    let e = s (λ x. 1) in
    let b = sum_by-cons (λ x. 1) v k in
    absurd (omega arith)
same_rising (v ∷ k) (w ∷ l) r q s =
    let h = least v w k l r.0 s in
    let g = least w v l k q.0 (λ f. sym (s f)) in
    let e : v ≡ w = omega arith in
    ap₂ {C = List ℕ} (λ (x : ℕ) (xs : List ℕ). x ∷ xs) e
    (same_rising k l r.1 q.1 (λ f.
    let a = sum_by-cons f v k in
    let b = sum_by-cons f w l in
    let c = s f in
    let d = ap f e in
    omega arith))
