-- Two rows of numbers, column by column.
use Rattle.std.proofs.Common.{◌≡◌, ℕ, suc, ◌+◌, ◌<◌, ◌≤◌, Bool, true, false, ◌&&◌, ◌||◌, eqb, ltb, List, [], ◌∷◌, length, get_or, drop, refl, sym, ap, ◌∙◌, arith, add-one}
use Rattle.std.specs.Ordering.{is_lt, nat_cmp}
use Rattle.std.specs.Cmp.Lexicographic.{slice_cmp}
use Rattle.std.proofs.Math.Seq.{drop-cons}
use Rattle.std.proofs.lemmas.List.{drop_all}
use Rattle.std.proofs.lemmas.Bool.Decides.{nat_tests}
use Rattle.sorted.specs.Upto.{is_upto}

pub first_column : (x y : ℕ) (e k : List ℕ) → is_lt (slice_cmp nat_cmp (x ∷ e) (y ∷ k)) ≡ (ltb x y || (eqb x y && is_lt (slice_cmp nat_cmp e k)))
first_column x y e k = grind (arith, nat_tests)

regroup : (b q l s r : Bool) → (b || (q && (l || (s && r)))) ≡ ((b || (q && l)) || ((q && s) && r))
regroup true q l s r = refl
regroup false false l s r = refl
regroup false true l s r = refl

module _ (entry key : List ℕ) (c : ℕ) (b q : Bool) (I : is_lt (slice_cmp nat_cmp entry key) ≡ (b || (q && is_lt (slice_cmp nat_cmp (drop c entry) (drop c key))))) where
  pub column_more : c < length entry → c < length key
      → is_lt (slice_cmp nat_cmp entry key) ≡ ((b || (q && ltb (get_or entry c 0) (get_or key c 0))) || ((q && eqb (get_or entry c 0) (get_or key c 0)) && is_lt (slice_cmp nat_cmp (drop (c + 1) entry) (drop (c + 1) key))))
  column_more h g =
      I
      ∙ (ap (λ (t : Bool). b || (q && t))
      ((λ t. is_lt (slice_cmp nat_cmp (drop-cons entry c 0 h t) (drop-cons key c 0 g t)))
      ∙ (first_column (get_or entry c 0) (get_or key c 0) (drop (suc c) entry) (drop (suc c) key)
      ∙ ap (λ (n : ℕ). ltb (get_or entry c 0) (get_or key c 0) || (eqb (get_or entry c 0) (get_or key c 0) && is_lt (slice_cmp nat_cmp (drop n entry) (drop n key)))) (sym (add-one c))))
      ∙ regroup b q (ltb (get_or entry c 0) (get_or key c 0)) (eqb (get_or entry c 0) (get_or key c 0)) (is_lt (slice_cmp nat_cmp (drop (c + 1) entry) (drop (c + 1) key))))

  none_left : (e : List ℕ) → is_lt (slice_cmp nat_cmp e []) ≡ false
  none_left [] = refl
  none_left (x ∷ e) = refl

  pub columns_end : length key ≤ c → b ≡ is_lt (slice_cmp nat_cmp entry key)
  columns_end h = sym (I ∙ (ap (λ (k : List ℕ). b || (q && is_lt (slice_cmp nat_cmp (drop c entry) k))) (drop_all c key h) ∙ (ap (λ (t : Bool). b || (q && t)) (none_left (drop c entry)) ∙ nothing b q)))
    where
      nothing : (b q : Bool) → (b || (q && false)) ≡ b
      nothing true q = refl
      nothing false true = refl
      nothing false false = refl

first_upto : (x y : ℕ) (e k : List ℕ) → is_upto (y ∷ k) (x ∷ e) ≡ (ltb x y || (eqb x y && is_upto k e))
first_upto x y e k = grind (arith, nat_tests)

-- whether the columns of an entry from c on are up to a key's: the first of them decides where it differs, and else the others
module _ (entry key : List ℕ) (c : ℕ) (h : c < length entry) (g : c < length key) where
  upto : is_upto (drop c key) (drop c entry) ≡ (ltb (get_or entry c 0) (get_or key c 0) || (eqb (get_or entry c 0) (get_or key c 0) && is_upto (drop (c + 1) key) (drop (c + 1) entry)))
  upto =
      (λ t. is_upto (drop-cons key c 0 g t) (drop-cons entry c 0 h t))
      ∙ (first_upto (get_or entry c 0) (get_or key c 0) (drop (suc c) entry) (drop (suc c) key)
      ∙ ap (λ (n : ℕ). ltb (get_or entry c 0) (get_or key c 0) || (eqb (get_or entry c 0) (get_or key c 0) && is_upto (drop n key) (drop n entry))) (sym (add-one c)))

  left_to : (a b : ℕ) (r : Bool) → a ≡ b → (ltb a b || (eqb a b && r)) ≡ r
  left_to a b r e = grind (arith, nat_tests)

  pub upto_on : get_or entry c 0 ≡ get_or key c 0 → is_upto (drop c key) (drop c entry) ≡ is_upto (drop (c + 1) key) (drop (c + 1) entry)
  upto_on e = upto ∙ left_to _ _ _ e

-- behind the last column of a key
pub past_upto : (entry key : List ℕ) (c : ℕ) → length key ≤ c → true ≡ is_upto (drop c key) (drop c entry)
past_upto entry key c h = sym (ap (λ (k : List ℕ). is_upto k (drop c entry)) (drop_all c key h) ∙ all (drop c entry))
  where
    all : (e : List ℕ) → is_upto [] e ≡ true
    all [] = refl
    all (x ∷ e) = refl
