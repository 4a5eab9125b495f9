-- Rows of numbers that begin alike stand together in a sorted row, and the first of them has the least number.
use Rattle.std.proofs.Common.{◌≡◌, ◌≢◌, ℕ, zero, suc, ◌-◌, ◌<◌, ◌≤◌, Bool, true, false, ◌&&◌, ◌||◌, ◌⊎◌, inl, inr, ⊎_elim, eqb, ltb, List, [], ◌∷◌, length, get_or, set, take, map, refl, sym, ap, ap₂, ◌∙◌, subst, arith, add-zero, length-drop, eqb-true, ltb-false, Contains}
use borrow.Author.Tests.{eqb-false}
use Rattle.std.specs.List.{range_with_len}
use Rattle.std.specs.Ordering.{is_lt, nat_cmp}
use Rattle.std.specs.Cmp.Lexicographic.{slice_cmp}
use Rattle.std.proofs.lemmas.Bool.{cases_lt}
use Rattle.std.proofs.lemmas.Cmp.{nat_list_cmp_total}
use Rattle.std.proofs.lemmas.Grind.{get_or-set_at}
use Rattle.std.proofs.lemmas.List.{get_or_default, get_or-drop, get_or-set_other}
use Rattle.std.proofs.lemmas.List.FromFn.{length-map-range_with_len, get_or-map-range_with_len}
use Rattle.std.proofs.lemmas.List.Elements.{All-get_or, All-from_get_or, Contains-get_or}
use Rattle.std.proofs.lemmas.List.Sorted.{ranks_by, sorted_far, All-permutation, Contains-permutation}
use Rattle.sorted.specs.Firsts.{IsInOrder, EndInNumbers, IsFirst}
use Rattle.sorted.proofs.Below.{first_column}

abbrev less : List ℕ → List ℕ → Bool
less a b = is_lt (slice_cmp nat_cmp a b)

no-less : (x y : ℕ) (e k : List ℕ) → less (x ∷ e) (y ∷ k) ≡ false → (y < x) ⊎ ((x ≡ y) × (less e k ≡ false))
no-less x y e k h = by (ltb x y) (eqb x y) refl refl (sym (first_column x y e k) ∙ h)
  where
    by : (a b : Bool) → ltb x y ≡ a → eqb x y ≡ b → (a || (b && less e k)) ≡ false → (y < x) ⊎ ((x ≡ y) × (less e k ≡ false))
    by true b p q f = absurd (cc f)
    by false true p q f = inr (eqb-true x y q, f)
    by false false p q f = inl (apart (ltb-false x y p) (eqb-false x y q))
      where
        apart : {a b : ℕ} → b ≤ a → (a ≡ b → ⊥) → b < a
        apart l n = omega arith

-- what stands between two that begin alike begins so too
between : (m : ℕ) (a b c : List ℕ) → less b a ≡ false → less c b ≡ false → take m a ≡ take m c → take m a ≡ take m b
between zero a b c f g e = refl
between (suc m) [] [] c f g e = refl
between (suc m) [] (y ∷ b) [] f g e = cc
between (suc m) [] (y ∷ b) (z ∷ c) f g e = absurd (cc e)
between (suc m) (x ∷ a) [] c f g e = cc
between (suc m) (x ∷ a) (y ∷ b) [] f g e = absurd (cc e)
between (suc m) (x ∷ a) (y ∷ b) (z ∷ c) f g e =
    let s : x ≡ z = cc e in
    let t : take m a ≡ take m c = cc e in
    ⊎_elim
    (λ (p : x < y). ⊎_elim (λ (q : y < z). absurd (omega arith)) (λ q. (let r = q.0 in absurd (omega arith))) (no-less z y c b g))
    (λ p. ⊎_elim
    (λ (q : y < z). (let r = p.0 in absurd (omega arith)))
    (λ q. ap₂ {C = List ℕ} (λ u w. u ∷ w) (sym p.0) (between m a b c p.1 q.1 t))
    (no-less z y c b g))
    (no-less y x b a f)

-- of two that begin alike the later one ends in no less
last_column : (m : ℕ) (a b : List ℕ) → length a ≡ suc m → length b ≡ suc m → take m a ≡ take m b → less a b ≡ false → get_or b m 0 ≤ get_or a m 0
last_column m [] b p q e h = absurd (omega arith)
last_column m (x ∷ a) [] p q e h = absurd (omega arith)
last_column zero (x ∷ a) (y ∷ b) p q e h = ⊎_elim (λ (l : y < x). omega arith) (λ s. (let r = s.0 in omega arith)) (no-less x y a b h)
last_column (suc m) (x ∷ a) (y ∷ b) p q e h =
    let s : x ≡ y = cc e in
    let t : take m a ≡ take m b = cc e in
    ⊎_elim (λ (l : y < x). absurd (omega arith)) (λ r. last_column m a b (omega arith) (omega arith) t r.1) (no-less x y a b h)

module _ (entry : ℕ → List ℕ) (m n : ℕ) (row : List (List ℕ)) (O : IsInOrder entry n row) (N : EndInNumbers entry m n) where
  abbrev pub key : ℕ → List ℕ
  key i = take m (entry i)

  abbrev pub number_of : ℕ → ℕ
  number_of k = get_or (get_or row k []) m 0

  abbrev IsEntry : List ℕ → Type 0
  IsEntry e = (get_or e m 0 < n) × (e ≡ entry (get_or e m 0))

  ends : (i : ℕ) → i < n → get_or (entry i) m 0 ≡ i
  ends i h = sym (get_or-drop m (entry i) 0 0 ∙ ap (λ (k : ℕ). get_or (entry i) k 0) (add-zero m)) ∙ ap (λ (l : List ℕ). get_or l 0 0) (N i h)

  pub is_entry : (k : ℕ) → k < length row → IsEntry (get_or row k [])
  is_entry k h =
      All-get_or IsEntry row k [] h
      (All-permutation IsEntry _ row O.same
      (All-from_get_or IsEntry (map entry (range_with_len 0 n)) [] (λ i l.
      let s = length-map-range_with_len entry 0 n in
      let e = ends i (omega arith) in
      subst IsEntry (sym (get_or-map-range_with_len entry 0 n i i [] (omega arith) (omega arith))) (omega arith, ap entry (sym e)))))

  long : (k : ℕ) → k < length row → length (get_or row k []) ≡ suc m
  long k h =
      let p = is_entry k h in
      omega (arith, ap length p.1, length-drop m (entry (number_of k)), ap length (N (number_of k) p.0))

  -- each number has an entry in the row
  place_of : (i : ℕ) → i < n → (k : ℕ) × (k < length row) × (get_or row k [] ≡ entry i)
  place_of i h =
      let all = map entry (range_with_len 0 n) in
      let s = length-map-range_with_len entry 0 n in
      let there = subst (Contains all) (get_or-map-range_with_len entry 0 n i i [] h (omega arith)) (Contains-get_or all i [] (omega arith)) in
      let c = Contains-permutation all row (entry i) O.same there in
      (c.0, c.1, get_or_default row c.0 [] (entry i) c.1 ∙ c.2)

  rising : (i j : ℕ) → i ≤ j → j < length row → less (get_or row j []) (get_or row i []) ≡ false
  rising i j h g = sorted_far (λ (x y : List ℕ). less x y) (ranks_by nat_list_cmp_total (λ (x : List ℕ). x)) row O.sorted i j [] h g

  -- where the one before begins otherwise, the number is a first one
  pub begins : (k : ℕ) → k < length row → (k ≡ 0) ⊎ (take m (get_or row (k - 1) []) ≢ take m (get_or row k [])) → IsFirst key (number_of k) (number_of k)
  begins k h o = record { equal = refl; least = least }
    where
      least : (j : ℕ) → j < number_of k → key j ≢ key (number_of k)
      least j l e =
          let p = is_entry k h in
          let c = place_of j (let q = p.0 in omega arith) in
          let alike : take m (get_or row c.0 []) ≡ take m (get_or row k []) = ap (take m) c.2 ∙ e ∙ sym (ap (take m) p.1) in
          let end : number_of c.0 ≡ j = ap (λ (x : List ℕ). get_or x m 0) c.2 ∙ ends j (let q = p.0 in omega arith) in
          ⊎_elim
          (λ (b : c.0 < k). ⊎_elim
          (λ z. omega arith)
          (λ f. f (sym (between m (get_or row c.0 []) (get_or row (k - 1) []) (get_or row k []) (rising c.0 (k - 1) (omega arith) (omega arith)) (rising (k - 1) k (omega arith) h) alike) ∙ alike))
          o)
          (λ (b : k ≤ c.0). (let z = last_column m (get_or row c.0 []) (get_or row k []) (long c.0 c.1) (long k h) alike (rising k c.0 b c.1) in omega arith))
          (cases_lt c.0 k)

  -- and elsewhere that of the one before is
  pub goes_on : (k f : ℕ) → 0 < k → k < length row → take m (get_or row (k - 1) []) ≡ take m (get_or row k []) → IsFirst key (number_of (k - 1)) f → IsFirst key (number_of k) f
  goes_on k f l h e F =
      let same : key (number_of (k - 1)) ≡ key (number_of k) = ap (take m) (sym (is_entry (k - 1) (omega arith)).1) ∙ e ∙ ap (take m) (is_entry k h).1 in
      record { equal = F.equal ∙ same; least = λ j b z. F.least j b (z ∙ sym same) }

  -- a first number is put where it belongs
  pub put_first : (firsts : List ℕ) (p f q : ℕ) → p < length firsts → IsFirst key p f → (q ≡ p) ⊎ IsFirst key q (get_or firsts q 0) → IsFirst key q (get_or (set firsts p f) q 0)
  put_first firsts p f q h F o = by (eqb q p) refl o
    where
      here : q ≡ p → IsFirst key q (get_or (set firsts p f) q 0)
      here z = subst (λ (v : ℕ). IsFirst key q v) (sym (get_or-set_at firsts p q f 0 z h)) (subst (λ (i : ℕ). IsFirst key i f) (sym z) F)

      by : (b : Bool) → eqb q p ≡ b → (q ≡ p) ⊎ IsFirst key q (get_or firsts q 0) → IsFirst key q (get_or (set firsts p f) q 0)
      by true t o = here (eqb-true q p t)
      by false t (inl z) = here z
      by false t (inr G) = subst (λ (v : ℕ). IsFirst key q v) (sym (get_or-set_other firsts p q f 0 (eqb-false q p t))) G

  pub all_firsts : (firsts : List ℕ) → ((k : ℕ) → k < length row → IsFirst key (number_of k) (get_or firsts (number_of k) 0)) → (i : ℕ) → i < n → IsFirst key i (get_or firsts i 0)
  all_firsts firsts done i h =
      let c = place_of i h in
      subst (λ (j : ℕ). IsFirst key j (get_or firsts j 0)) (ap (λ (x : List ℕ). get_or x m 0) c.2 ∙ ends i h) (done c.0 c.1)
