-- The layer list as the code judges it: each entry, and each beside the next. Assumes nothing.
use Rattle.std.proofs.Common.{ℕ, zero, suc, ◌+◌, ◌-◌, ◌<◌, ◌≤◌, ◌≡◌, refl, sym, ap, ◌∙◌, Bool, true, false, ◌&&◌, List, [], ◌∷◌, arith, zero-add, cond, eqb, ltb, length, get_or, ne_eqb}
use Rattle.std.specs.List.{list_all, range_with_len, AllAdjacentBelow, IsAllAdjacentAnswer}
use Rattle.std.proofs.lemmas.List.Sums.{AllPass-from_list_all}
use Rattle.std.proofs.lemmas.List.Folds.{list_all_at}
use Rattle.std.proofs.lemmas.List.FromFn.{length-range_with_len, get_or-range_with_len}
use Rattle.strips.proofs.Picking.{all_below, all-suc}
use Rattle.build.specs.Says.{layer_in, entry_in_range, entry_ok}

abbrev pub rising : List ℕ → List ℕ → Bool
rising x y = ltb (get_or x 0 0) (get_or y 0 0)

both_true : {a b : Bool} → a ≡ true → b ≡ true → (a && b) ≡ true
both_true p q = rw (p, q) refl

and_false : (a : Bool) → (a && false) ≡ false
and_false true = refl
and_false false = refl

-- an entry that is out of range
record IsOut (l : List (List ℕ)) (i : ℕ) : Type 0 where
  inside : i < length l
  out : entry_in_range (get_or l i []) ≡ false

one_of : (x : List ℕ) (l : List (List ℕ)) (b : Bool) → entry_in_range x ≡ b → ((list_all entry_in_range l ≡ false) → (i : ℕ) × IsOut l i) → (b && list_all entry_in_range l) ≡ false → (i : ℕ) × IsOut (x ∷ l) i
one_of x l true q f e = let r = f e in (suc r.0, record { inside = omega (arith, r.1.inside); out = r.1.out })
one_of x l false q f e = (zero, record { inside = omega arith; out = q })

one_out : (l : List (List ℕ)) → list_all entry_in_range l ≡ false → (i : ℕ) × IsOut l i
one_out [] e = absurd cc
one_out (x ∷ l) e = one_of x l (entry_in_range x) refl (λ f. one_out l f) e

module _ (l : List (List ℕ)) where
  -- the entry of a list in order
  entry-in : list_all entry_in_range l ≡ true → AllAdjacentBelow (λ x y. true ≡ rising x y) l (length l) → (i : ℕ) → i < length l → entry_ok l i ≡ true
  entry-in a s zero h = both_true (AllPass-from_list_all entry_in_range l a zero [] h) refl
  entry-in a s (suc i) h =
      let last : suc i - 1 ≡ i = omega arith in
      let next : i + 1 ≡ suc i = omega arith in
      let up = rw next at (s i [] (omega arith)) in
      let some : eqb (suc i) 0 ≡ false = ne_eqb (suc i) 0 (λ z. omega arith) in
      both_true (AllPass-from_list_all entry_in_range l a (suc i) [] h) (rw (some, last) (sym up))

  all-in : list_all entry_in_range l ≡ true → AllAdjacentBelow (λ x y. true ≡ rising x y) l (length l) → (n : ℕ) → n ≤ length l → all_below (entry_ok l) n ≡ true
  all-in a s zero h = refl
  all-in a s (suc n) h = all-suc (entry_ok l) n ∙ both_true (all-in a s n (omega arith)) (entry-in a s n (omega arith))

  one-out : (n i : ℕ) → i < n → entry_ok l i ≡ false → all_below (entry_ok l) n ≡ false
  one-out n i h e =
      list_all_at (entry_ok l) (range_with_len 0 n) i 0 (omega (arith, length-range_with_len 0 n)) (ap (entry_ok l) (get_or-range_with_len 0 n i 0 h ∙ zero-add i) ∙ e)

  flat : (k : ℕ) → false ≡ rising (get_or l k []) (get_or l (k + 1) []) → entry_ok l (k + 1) ≡ false
  flat k e =
      let last : k + 1 - 1 ≡ k = omega arith in
      let some : eqb (k + 1) 0 ≡ false = ne_eqb (k + 1) 0 (λ z. omega arith) in
      rw (some, last, ← e) (and_false (entry_in_range (get_or l (k + 1) [])))

  pub list-judged : (a s : Bool) → a ≡ list_all entry_in_range l → IsAllAdjacentAnswer (λ x y b. b ≡ rising x y) l s → (a && s) ≡ all_below (entry_ok l) (length l)
  list-judged true true e f = sym (all-in (sym e) f (length l) (omega arith))
  list-judged true false e f = sym (one-out (length l) (f.0 + 1) f.1 (flat f.0 (f.2 [])))
  list-judged false s e f =
      let out = one_out l (sym e) in
      let i = out.0 in
      sym (one-out (length l) i out.1.inside (ap (λ b. b && cond (eqb i 0) true (ltb (layer_in l (i - 1)) (layer_in l i))) out.1.out))
