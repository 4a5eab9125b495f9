-- Laws of bytes stored in a row.
use Rattle.std.proofs.Common.{ℕ, suc, ◌+◌, ◌*◌, ◌≤◌, ◌<◌, ◌≡◌, refl, sym, ap, ◌∙◌, List, [], ◌∷◌, ◌++◌, map, arith, add-one, length, drop, get_or, length-drop, Bool, true, false, not, Float, T, eq-eqb, drop-cons}
use lib.Ieee.{nan, inf, fin, up, down, eq, is_nan}
use lib.Seq.{sets}
use Rattle.std.specs.List.{flat_map}
use Rattle.std.specs.Int.{bytes_high_first}
use Rattle.fields.proofs.Stores.{bytes-length, sets_append, bytes_then}

-- ---- items one after another, k bytes each

pub each_map : {A B : Type 0} (f : B → List ℕ) (g : A → B) (xs : List A) → flat_map f (map g xs) ≡ flat_map (λ x. f (g x)) xs
each_map f g [] = refl
each_map f g (x ∷ xs) = ap (λ l. f (g x) ++ l) (each_map f g xs)

module _ {A : Type 0} (f : A → List ℕ) (k : ℕ) (long : (x : A) → length (f x) ≡ k) (none : A) where
  pub row-turn : (out : List ℕ) (row : List A) (at i : ℕ) → i < length row
      → sets out at (flat_map f (drop i row)) ≡ sets (sets out at (f (get_or row i none))) (at + k) (flat_map f (drop (i + 1) row))
  row-turn out row at i h =
      let x = get_or row i none in
      ap (λ l. sets out at (flat_map f l)) (drop-cons row i none h) ∙ sets_append out at (f x) (flat_map f (drop (suc i) row))
      ∙ ap (λ n. sets (sets out at (f x)) (at + n) (flat_map f (drop (suc i) row))) (long x)
      ∙ ap (λ n. sets (sets out at (f x)) (at + k) (flat_map f (drop n row))) (sym (add-one i))

  pub row-end : (out : List ℕ) (row : List A) (at i : ℕ) → length row ≤ i → sets out at (flat_map f (drop i row)) ≡ out
  row-end out row at i h = ap (λ l. sets out at (flat_map f l)) (nil (drop i row) (length-drop i row ∙ omega arith))
    where
      nil : (l : List A) → length l ≡ 0 → l ≡ []
      nil [] e = refl
      nil (x ∷ l) e = absurd (omega arith)

-- the same of what the items stand for
module _ {A B : Type 0} (f : B → List ℕ) (g : A → B) (k : ℕ) (long : (x : B) → length (f x) ≡ k) (none : A) where
  pub mapped-turn : (out : List ℕ) (row : List A) (at i : ℕ) → i < length row
      → sets out at (flat_map f (map g (drop i row))) ≡ sets (sets out at (f (g (get_or row i none)))) (at + k) (flat_map f (map g (drop (i + 1) row)))
  mapped-turn out row at i h =
      rw (each_map f g (drop i row), each_map f g (drop (i + 1) row)) (row-turn (λ x. f (g x)) k (λ x. long (g x)) none out row at i h)

  pub mapped-end : (out : List ℕ) (row : List A) (at i : ℕ) → length row ≤ i → sets out at (flat_map f (map g (drop i row))) ≡ out
  mapped-end out row at i h = rw (each_map f g (drop i row)) (row-end (λ x. f (g x)) k (λ x. long (g x)) none out row at i h)

-- ids
pub splits_turn : (out row : List ℕ) (at i : ℕ) → i < length row
    → sets out at (flat_map (bytes_high_first 4) (drop i row)) ≡ sets (sets out at (bytes_high_first 4 (get_or row i 0))) (at + 4) (flat_map (bytes_high_first 4) (drop (i + 1) row))
splits_turn = row-turn (bytes_high_first 4) 4 (bytes-length 4) 0

pub splits_end : (out row : List ℕ) (at i : ℕ) → length row ≤ i → sets out at (flat_map (bytes_high_first 4) (drop i row)) ≡ out
splits_end = row-end (bytes_high_first 4) 4 (bytes-length 4) 0

-- what putting the splits goes by
pub ruleset splits_put = (bytes_then, splits_turn, splits_end)

-- a number equals itself

same_sign : (s : Bool) → eq (inf s) (inf s) ≡ true
unfolding eq
same_sign true = refl
same_sign false = refl

pub eq_self : (x : Float) → T (not (is_nan x)) → eq x x ≡ true
unfolding eq is_nan
eq_self nan h = absurd h
eq_self (inf s) h = same_sign s
eq_self (fin true m e) h = rw (eq-eqb (m * up e * down e) (m * up e * down e) refl) refl
eq_self (fin false m e) h = rw (eq-eqb (m * up e * down e) (m * up e * down e) refl) refl
