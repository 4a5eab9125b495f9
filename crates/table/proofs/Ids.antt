-- Laws of lists of the ids below n that pass a test: how one grows by a turn, how long it is, what it holds. Assumes
-- nothing.
use Rattle.std.proofs.Common.{ℕ, zero, suc, ◌+◌, ◌<◌, ◌≤◌, ◌≡◌, refl, sym, ap, ◌∙◌, zero-add, filter, cond, subst, Bool, true, false, List, [], ◌∷◌, ◌++◌, append-nil, ⊎_elim, arith, add-zero, add-one, length, drop, length-append, map, get_or, not, count_by}
use lib.Seq.{sets, sets-eq}
use Rattle.std.specs.List.{range_with_len, flat_map}
use Rattle.std.proofs.lemmas.List.{flat_map_more}
use Rattle.std.proofs.lemmas.List.Elements.{filter-append}
use Rattle.std.proofs.lemmas.List.FromFn.{fill_by_all}
use Rattle.std.proofs.lemmas.List.Recursion.{is_count_by}
use Rattle.std.proofs.lemmas.List.Sums.{sum_by-cons, length-filter}
use Rattle.refusals.specs.Said.{written}
use Rattle.table.proofs.All.{top?}

-- ---- what one number more of a range adds

range_more : (a n : ℕ) → range_with_len a (suc n) ≡ range_with_len a n ++ ((a + n) ∷ [])
range_more a zero = ap (λ (k : ℕ). k ∷ []) (sym (add-zero a))
range_more a (suc n) =
    let e : a + 1 + n ≡ a + suc n = omega arith in
    ap (λ (l : List ℕ). a ∷ l) (range_more (a + 1) n ∙ ap (λ (k : ℕ). range_with_len (a + 1) n ++ (k ∷ [])) e)

pub range-last : (n : ℕ) → range_with_len 0 (suc n) ≡ range_with_len 0 n ++ (n ∷ [])
range-last n = range_more 0 n ∙ ap (λ (k : ℕ). range_with_len 0 n ++ (k ∷ [])) (zero-add n)

pub flat_map-range-more : {A : Type 0} (f : ℕ → List A) (n : ℕ) → flat_map f (range_with_len 0 (n + 1)) ≡ flat_map f (range_with_len 0 n) ++ f n
flat_map-range-more f n =
    ap (λ (k : ℕ). flat_map f (range_with_len 0 k)) (add-one n)
    ∙ ap (flat_map f) (range-last n)
    ∙ sym (flat_map_more f [] (range_with_len 0 n) n)

-- ---- the ids below n that pass a test: opaque, so that a longer list is not taken apart

unfoldable pub ids_to : (ℕ → Bool) → ℕ → List ℕ
ids_to f n = filter f (range_with_len 0 n)

abbrev pub one_if : Bool → ℕ → List ℕ
one_if b n = cond b (n ∷ []) []

module _ (f : ℕ → Bool) where
  pub ids-none : ids_to f 0 ≡ []
  unfolding ids_to
  ids-none = refl

  pub ids-more : (n : ℕ) → ids_to f (suc n) ≡ ids_to f n ++ one_if (f n) n
  unfolding ids_to
  ids-more n = ap (filter f) (range-last n) ∙ filter-append f (range_with_len 0 n) (n ∷ [])

  pub ids-yes : (n : ℕ) → f n ≡ true → ids_to f (n + 1) ≡ ids_to f n ++ (n ∷ [])
  ids-yes n e = rw (add-one, ids-more, e)

  pub ids-no : (n : ℕ) → f n ≡ false → ids_to f (n + 1) ≡ ids_to f n
  ids-no n e = rw (add-one, ids-more, e) (append-nil (ids_to f n))

  pub ids-yes-length : (n : ℕ) → f n ≡ true → length (ids_to f (n + 1)) ≡ length (ids_to f n) + 1
  ids-yes-length n e = rw (ids-yes n e) (length-append (ids_to f n) (n ∷ []))

  -- the list only grows
  pub ids-most : (n m : ℕ) → n ≤ m → length (ids_to f n) ≤ length (ids_to f m)
  ids-most n zero h = let e : n ≡ 0 = omega arith in rw e (omega arith)
  ids-most n (suc m) h =
      ⊎_elim
      (λ (l : n < suc m). let r = ids-most n m (omega arith) in omega (arith, ap length (ids-more m), length-append (ids_to f m) (one_if (f m) m)))
      (λ (e : n ≡ suc m). rw e (omega arith))
      (top? n (suc m) (omega arith))

  -- at most one an index
  pub ids-few : (n : ℕ) → length (ids_to f n) ≤ n
  ids-few zero = omega (arith, ap length ids-none)
  ids-few (suc n) = omega (arith, ids-few n, ap length (ids-more n), length-append (ids_to f n) (one_if (f n) n), one (f n))
    where
      one : (b : Bool) → length (one_if b n) ≤ 1
      one true = omega arith
      one false = omega arith

  -- a test that nothing passes lists no more, and one that each passes one more each time
  pub ids-idle : (a n : ℕ) → a ≤ n → ((i : ℕ) → a ≤ i → i < n → f i ≡ false) → length (ids_to f n) ≡ length (ids_to f a)
  ids-idle a zero h off = let e : a ≡ 0 = omega arith in rw e refl
  ids-idle a (suc n) h off =
      ⊎_elim
      (λ (l : a < suc n).
      let k : a ≤ n = omega arith in
      let r = ids-idle a n k (λ i g b. off i g (omega arith)) in
      let e = ids-no n (off n k (omega arith)) in
      omega (arith, ap (λ (m : ℕ). length (ids_to f m)) (add-one n), ap length e))
      (λ (e : a ≡ suc n). rw e refl)
      (top? a (suc n) (omega arith))

  pub ids-run : (a k : ℕ) → ((j : ℕ) → j < k → f (a + j) ≡ true) → length (ids_to f (a + k)) ≡ length (ids_to f a) + k
  ids-run a zero on = let e : a + 0 ≡ a = omega arith in rw e (omega arith)
  ids-run a (suc k) on =
      let r = ids-run a k (λ j h. on j (omega arith)) in
      let e : a + suc k ≡ a + k + 1 = omega arith in
      rw e (omega (arith, ids-yes-length (a + k) (on k (omega arith))))

-- two tests that agree below n list the same
pub ids-same : (f g : ℕ → Bool) (n : ℕ) → ((i : ℕ) → i < n → f i ≡ g i) → ids_to f n ≡ ids_to g n
ids-same f g zero h = unfold ids_to in refl
ids-same f g (suc n) h =
    rw (ids-more f n, ids-more g n, ids-same f g n (λ i l. h i (omega arith)), h n (omega arith))

pub sets-written : (out ids : List ℕ) → length ids ≤ length out → sets out 0 ids ≡ written ids out
sets-written out ids h =
    let e : 0 + length ids ≡ length ids = omega arith in
    subst (λ (k : ℕ). sets out 0 ids ≡ ids ++ drop k out) e (sets-eq ids out 0 (omega arith))

-- an id that is still to come needs room
pub ids-room : (f : ℕ → Bool) (i n : ℕ) → i < n → f i ≡ true → length (ids_to f i) < length (ids_to f n)
ids-room f i n h e = let r = ids-most f (i + 1) n (omega arith) in omega (arith, ids-yes-length f i e)

-- those that pass a test and those that don't
pub ids-others : (f : ℕ → Bool) (n : ℕ) → length (ids_to (λ i. not (f i)) n) + length (ids_to f n) ≡ n
ids-others f zero = omega (arith, ap length (ids-none (λ i. not (f i))), ap length (ids-none f))
ids-others f (suc n) =
    let h = ids-others f n in
    let one = by (f n) in
    omega (
      arith,
      ap length (ids-more (λ i. not (f i)) n),
      ap length (ids-more f n),
      length-append (ids_to (λ i. not (f i)) n) (one_if (not (f n)) n),
      length-append (ids_to f n) (one_if (f n) n),
    )
  where
    by : (b : Bool) → length (one_if (not b) n) + length (one_if b n) ≡ 1
    by true = refl
    by false = refl

-- how many of a list pass a test, by their places
count-map : {A : Type 0} (g : A → Bool) (f : ℕ → A) (ids : List ℕ) → count_by g (map f ids) ≡ count_by (λ i. g (f i)) ids
count-map g f =
    is_count_by (λ ids. count_by g (map f ids)) (λ i. g (f i)) refl
    (λ i ids. sum_by-cons (λ x. cond (g x) 1 0) (f i) (map f ids) ∙ by (g (f i)) (count_by g (map f ids)))
  where
    by : (b : Bool) (n : ℕ) → cond b 1 0 + n ≡ cond b (1 + n) n
    by true n = refl
    by false n = zero-add n

pub count-ids : {A : Type 0} (g : A → Bool) (d : A) (xs : List A) → count_by g xs ≡ length (ids_to (λ i. g (get_or xs i d)) (length xs))
unfolding ids_to
count-ids g d xs =
    ap (count_by g) (fill_by_all (λ i. get_or xs i d) xs (length xs) d refl (λ k h. refl))
    ∙ count-map g (λ i. get_or xs i d) (range_with_len 0 (length xs))
    ∙ sym (length-filter (λ i. g (get_or xs i d)) (range_with_len 0 (length xs)))
