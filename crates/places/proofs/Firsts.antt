-- The first place of each place's node.
use Rattle.std.proofs.Common.{◌≡◌, refl, sym, ap, ◌∙◌, subst, true, false, ⊎_elim, List, [], ◌∷◌, ℕ, ◌<◌, ◌≤◌, arith, length, get_or, take, eqb, eqb-true, eq-eqb, ne_eqb}
use Rattle.std.proofs.lemmas.Bool.{cases_Bool}
use Rattle.std.proofs.lemmas.List.{length-map, get_or-map, ext_get_or}
use Rattle.sorted.specs.Firsts.{AreFirsts}
use Rattle.net.specs.Net.{position_of, MeshNode, same_node, nth, nowhere}
use Rattle.net.specs.First.{key, first_of}
use Rattle.net.proofs.Positions.{position-hit, position-at-most, position-is}
use Rattle.net.proofs.Keys.{bool-ext, both, both_of}
use Rattle.net.proofs.Weld.{Keyed}
use Rattle.places.specs.Places.{place_entry, firsts}

same_self : (n : MeshNode) → same_node n n ≡ true
same_self n =
    both_of _ _ (eq-eqb n.layer n.layer refl) (both_of _ _ (eq-eqb n.component n.component refl) (both_of _ _ (eq-eqb n.x n.x refl) (eq-eqb n.y n.y refl)))

same-is : (m n : MeshNode) → same_node m n ≡ true → m ≡ n
same-is m n e =
    let a = both _ _ e in
    let b = both _ _ a.1 in
    let c = both _ _ b.1 in
    λ i. record { layer = eqb-true m.layer n.layer a.0 i; component = eqb-true m.component n.component b.0 i; x = eqb-true m.x n.x c.0 i; y = eqb-true m.y n.y c.1 i }

module _ (P : List MeshNode) where
  -- the first place of the same node as place i
  abbrev pub first_at : ℕ → ℕ
  first_at i = position_of same_node P (nth P i)

  pub first-most : (i : ℕ) → first_at i ≤ i
  first-most i = position-at-most same_node P (nth P i) nowhere i (same_self (nth P i))

  pub first-node : (i : ℕ) → i < length P → nth P (first_at i) ≡ nth P i
  first-node i h = same-is (nth P (first_at i)) (nth P i) (position-hit same_node P (nth P i) nowhere (omega (arith, first-most i)))

  pub firsts-length : length (firsts P) ≡ length P
  unfolding firsts
  firsts-length = length-map P (position_of same_node P)

  pub firsts-at : (i : ℕ) → i < length P → get_or (firsts P) i 0 ≡ first_at i
  unfolding firsts
  firsts-at i h = get_or-map (position_of same_node P) P i nowhere 0 h

  own : (i : ℕ) → i < length P → get_or (firsts P) (first_at i) 0 ≡ first_at i
  own i h = firsts-at (first_at i) (omega (arith, first-most i)) ∙ ap (position_of same_node P) (first-node i h)

  -- the first places are keys of the places, and each is the first of its own
  pub firsts-keyed : Keyed same_node nowhere P (firsts P)
  firsts-keyed =
      record {
        long = firsts-length;
        agree = λ i j h k. bool-ext _ _
            (λ e. eq-eqb (key (firsts P) i) (key (firsts P) j) (firsts-at i h ∙ ap (position_of same_node P) (same-is (nth P i) (nth P j) e) ∙ sym (firsts-at j k)))
            (λ e. (let q : first_at i ≡ first_at j = sym (firsts-at i h) ∙ eqb-true (key (firsts P) i) (key (firsts P) j) e ∙ firsts-at j k in
            let n : nth P i ≡ nth P j = sym (first-node i h) ∙ ap (nth P) q ∙ first-node j k in
            subst (λ (m : MeshNode). same_node (nth P i) m ≡ true) n (same_self (nth P i))));
      }

  pub first-of : (i : ℕ) → i < length P → first_of (firsts P) i ≡ get_or (firsts P) i 0
  first-of i h =
      let l = firsts-length in
      let m = first-most i in
      position-is eqb (firsts P) (key (firsts P) i) 0 (get_or (firsts P) i 0)
      (eq-eqb _ _ (ap (λ (k : ℕ). get_or (firsts P) k 0) (firsts-at i h) ∙ own i h ∙ sym (firsts-at i h)))
      (λ j q. ne_eqb _ _ (λ e. (let b = first-most j in absurd (omega (arith, firsts-at i h, firsts-at j (omega (arith, firsts-at i h)))))))
      (omega (arith, firsts-at i h))

  -- so the least numbers of equal entries are the first places
  pub firsts_are : (row : List ℕ) → length row ≡ length P → AreFirsts (λ i. take 4 (place_entry P i)) row → row ≡ firsts P
  firsts_are row n A = ext_get_or 0 row (firsts P) (n ∙ sym firsts-length) (λ i h.
      let F = A i h in
      let least = le-from (λ (l : i < get_or row i 0). F.least i l refl) in
      sym
      (firsts-at i (omega arith)
      ∙ position-is same_node P (nth P i) nowhere (get_or row i 0)
      (subst (λ (m : MeshNode). same_node m (nth P i) ≡ true) (sym (node (get_or row i 0) i F.equal)) (same_self (nth P i)))
      (λ j l. other (nth P j) (nth P i) (λ e. F.least j l (ap (λ (m : MeshNode). m.layer ∷ m.component ∷ m.x ∷ m.y ∷ []) e)))
      (omega arith)))
    where
      node : (i j : ℕ) → take 4 (place_entry P i) ≡ take 4 (place_entry P j) → nth P i ≡ nth P j
      node i j e = λ k. record { layer = get_or (e k) 0 0; component = get_or (e k) 1 0; x = get_or (e k) 2 0; y = get_or (e k) 3 0 }

      le-from : {a b : ℕ} → (b < a → ⊥) → a ≤ b
      le-from n = omega arith

      other : (m n : MeshNode) → (m ≡ n → ⊥) → same_node m n ≡ false
      other m n apart = ⊎_elim (λ t. absurd (apart (same-is m n t))) (λ f. f) (cases_Bool (same_node m n))
