-- The run of a component in a layer's list has the numbers of its nodes. Assumes nothing.
use Rattle.std.proofs.Common.{◌≡◌, ℕ, zero, suc, ◌+◌, ◌<◌, ◌≤◌, Bool, true, false, cond, List, [], ◌∷◌, length, map, get_or, filter, nat_eq, refl, sym, ap, ◌∙◌, subst, arith, sum_by, All, IsSorted}
use Rattle.std.specs.List.{starts_with, range_with_len}
use Rattle.std.specs.Ordering.{is_lt, nat_cmp}
use Rattle.std.specs.Cmp.Lexicographic.{slice_cmp}
use Rattle.std.proofs.lemmas.Cmp.{nat_list_cmp_total}
use Rattle.std.proofs.lemmas.Bool.Decides.{nat_tests}
use Rattle.std.proofs.lemmas.List.{length-map}
use Rattle.std.proofs.lemmas.List.Elements.{All-head, All-tail, All-map, All-from_get_or, All-filter}
use Rattle.std.proofs.lemmas.List.FromFn.{length-range_with_len, get_or-range_with_len}
use Rattle.std.proofs.lemmas.List.Folds.{fold-map}
use Rattle.std.proofs.lemmas.List.Sorted.{ranks_by, sorted_far, sum_by-IsPermutation, All-permutation}
use Rattle.std.proofs.lemmas.List.Sums.{sum_by-cons, length-filter, count_by-le-length}
use Rattle.net_rows.specs.declared.rows.Node.{Node}
use Rattle.net_rows.specs.Nets.{nth_node}
use Rattle.links.specs.Made.{is_of, nodes_of}
use Rattle.links.specs.Lists.{entry_of, AreInOrder, AreRuns, AreKnown, numbers_of, IsLayer}
use Rattle.links.proofs.Rising.{From, Rises, SameSums, same_rising}

abbrev num : List ℕ → ℕ
num e = get_or e 2 0

abbrev begins : List ℕ → List ℕ → Bool
begins key e = starts_with nat_eq e key

-- ---- what a filter keeps, by whether it keeps the first
keep : {X : Type 0} (P : List X → Type 0) (b : Bool) (x : X) (xs : List X) → (b ≡ true → P (x ∷ xs)) → (b ≡ false → P xs) → P (cond b (x ∷ xs) xs)
keep P true x xs f g = f refl
keep P false x xs f g = g refl

module _ {X : Type 0} (f : X → ℕ) (p : X → Bool) where
  abbrev kept : X → ℕ
  kept x = cond (p x) (f x) 0

  kept-first : (b : Bool) (x : X) (xs : List X) → sum_by f (cond b (x ∷ xs) xs) ≡ cond b (f x) 0 + sum_by f xs
  kept-first true x xs = sum_by-cons f x xs
  kept-first false x xs = omega arith

  -- the sum of what is kept
  sum-kept : (xs : List X) → sum_by f (filter p xs) ≡ sum_by kept xs
  sum-kept [] = refl
  sum-kept (x ∷ xs) = kept-first (p x) x (filter p xs) ∙ (ap (λ (n : ℕ). cond (p x) (f x) 0 + n) (sum-kept xs) ∙ sym (sum_by-cons kept x xs))

sum-mapped : {X Y : Type 0} (f : Y → ℕ) (g : X → Y) (xs : List X) → sum_by f (map g xs) ≡ sum_by (λ x. f (g x)) xs
sum-mapped f g xs = fold-map (λ (a : ℕ) y. a + f y) g 0 xs

-- ---- rising numbers
range-from : (v a n : ℕ) (p : ℕ → Bool) → v ≤ a → From v (filter p (range_with_len a n))
unfolding From
range-from v a zero p h = tt
range-from v a (suc n) p h =
    let rest = range-from v (a + 1) n p (omega arith) in
    keep (From v) (p a) a (filter p (range_with_len (a + 1) n)) (λ t. (h, rest)) (λ t. rest)

range-rises : (a n : ℕ) (p : ℕ → Bool) → Rises (filter p (range_with_len a n))
unfolding Rises
range-rises a zero p = tt
range-rises a (suc n) p =
    let rest = range-rises (a + 1) n p in
    keep Rises (p a) a (filter p (range_with_len (a + 1) n)) (λ t. (range-from a (a + 1) n p (omega arith), rest)) (λ t. rest)

-- ---- a row in order, element by element
abbrev less : List ℕ → List ℕ → Bool
less a b = is_lt (slice_cmp nat_cmp a b)

-- no later entry is less than an earlier one
unfoldable Ordered : List (List ℕ) → Type 0
Ordered [] = Unit {0}
Ordered (e ∷ es) = All (λ f. less f e ≡ false) es × Ordered es

ordered-at : (row : List (List ℕ)) → ((k j : ℕ) → k ≤ j → j < length row → less (get_or row j []) (get_or row k []) ≡ false) → Ordered row
unfolding Ordered
ordered-at [] h = tt
ordered-at (e ∷ es) h = (
  All-from_get_or (λ f. less f e ≡ false) es [] (λ i k. h 0 (suc i) (omega arith) (omega arith)),
  ordered-at es (λ k j p q. h (suc k) (suc j) (omega arith) (omega arith)),
)

ordered : (row : List (List ℕ)) → IsSorted (slice_cmp nat_cmp) row → Ordered row
ordered row up =
    ordered-at row (λ k j p q. sorted_far (λ (x y : List ℕ). less x y) (ranks_by nat_list_cmp_total (λ (x : List ℕ). x)) row up k j [] p q)

ordered-sorted : (row : List (List ℕ)) → Ordered row → IsSorted (slice_cmp nat_cmp) row
unfolding Ordered
ordered-sorted [] o k d h g = absurd (omega arith)
ordered-sorted (e ∷ []) o k d h g = absurd (omega arith)
ordered-sorted (e ∷ f ∷ es) o zero d h g = All-head (λ f. less f e ≡ false) f es o.0
ordered-sorted (e ∷ f ∷ es) o (suc k) d h g =
    subst (λ (j : ℕ). less (get_or (e ∷ f ∷ es) j d) (get_or (e ∷ f ∷ es) (suc k) d) ≡ false) (let q : suc (k + 1) ≡ suc k + 1 = omega arith in q)
    (ordered-sorted (f ∷ es) o.1 k d (omega arith) (omega arith))

filter-ordered : (p : List ℕ → Bool) (row : List (List ℕ)) → Ordered row → Ordered (filter p row)
unfolding Ordered
filter-ordered p [] o = tt
filter-ordered p (e ∷ es) o =
    let rest = filter-ordered p es o.1 in
    keep Ordered (p e) e (filter p es) (λ t. (All-filter p (λ f. less f e ≡ false) es o.0, rest)) (λ t. rest)

-- ---- the entries of nodes
module _ (nodes : List Node) where
  -- an entry is that of one of the nodes
  record IsEntry (e : List ℕ) : Type 0 where
    within : num e < length nodes
    is : e ≡ entry_of nodes (num e)

  entries-are : All IsEntry (map (entry_of nodes) (range_with_len 0 (length nodes)))
  entries-are =
      All-map IsEntry (entry_of nodes) (range_with_len 0 (length nodes))
      (All-from_get_or (λ i. IsEntry (entry_of nodes i)) (range_with_len 0 (length nodes)) 0
      (λ i h.
      let n = length-range_with_len 0 (length nodes) in
      let e = get_or-range_with_len 0 (length nodes) i 0 (omega arith) in
      record { within = omega arith; is = refl }))

  row-entries : (row : List (List ℕ)) → AreInOrder nodes row → All IsEntry row
  row-entries row o = All-permutation IsEntry _ row o.same entries-are

  module _ (layer component : ℕ) where
    abbrev key : List ℕ
    key = layer ∷ component ∷ []

    -- of two entries of the key the later one has no lesser number
    numbers : (a b i c d j : ℕ) → begins key (a ∷ b ∷ i ∷ []) ≡ true → begins key (c ∷ d ∷ j ∷ []) ≡ true → less (c ∷ d ∷ j ∷ []) (a ∷ b ∷ i ∷ []) ≡ false → i ≤ j
    numbers a b i c d j s t h = grind (arith, nat_tests)

    no-less : (e f : List ℕ) → IsEntry e → IsEntry f → begins key e ≡ true → begins key f ≡ true → less f e ≡ false → num e ≤ num f
    no-less e f I J s t h =
        numbers _ _ _ _ _ _
        (subst (λ (x : List ℕ). begins key x ≡ true) I.is s)
        (subst (λ (x : List ℕ). begins key x ≡ true) J.is t)
        (subst (λ (x : List ℕ). less x (entry_of nodes (num e)) ≡ false) J.is (subst (λ (x : List ℕ). less f x ≡ false) I.is h))

    run-from : (e : List ℕ) (row : List (List ℕ)) → IsEntry e → begins key e ≡ true → All IsEntry row → All (λ f. less f e ≡ false) row → From (num e) (numbers_of (filter (begins key) row))
    unfolding From
    run-from e [] I s A o = tt
    run-from e (f ∷ row) I s A o =
        let rest = run-from e row I s (All-tail IsEntry f row A) (All-tail (λ g. less g e ≡ false) f row o) in
        keep (λ es. From (num e) (numbers_of es)) (begins key f) f (filter (begins key) row)
        (λ t. (no-less e f I (All-head IsEntry f row A) s t (All-head (λ g. less g e ≡ false) f row o), rest)) (λ t. rest)

    run-rises : (row : List (List ℕ)) → All IsEntry row → Ordered row → Rises (numbers_of (filter (begins key) row))
    unfolding Rises Ordered
    run-rises [] A o = tt
    run-rises (e ∷ row) A o =
        let rest = run-rises row (All-tail IsEntry e row A) o.1 in
        keep (λ es. Rises (numbers_of es)) (begins key e) e (filter (begins key) row)
        (λ t. (run-from e row (All-head IsEntry e row A) t (All-tail IsEntry e row A) o.0, rest)) (λ t. rest)

    test-is : (i : ℕ) → begins key (entry_of nodes i) ≡ is_of layer component (nth_node nodes i)
    test-is i = grind (arith, nat_tests)

    sums : (row : List (List ℕ)) → AreInOrder nodes row → SameSums (numbers_of (filter (begins key) row)) (nodes_of nodes layer component)
    unfolding nodes_of
    sums row o f =
        let n = length nodes in
        let g = λ (e : List ℕ). cond (begins key e) (f (num e)) 0 in
        sum-mapped f num (filter (begins key) row)
        ∙ (sum-kept (λ e. f (num e)) (begins key) row
        ∙ (sum_by-IsPermutation g _ row o.same
        ∙ (sum-mapped g (entry_of nodes) (range_with_len 0 n)
        ∙ (ap (λ (p : ℕ → Bool). sum_by (λ i. cond (p i) (f i) 0) (range_with_len 0 n)) (λ j i. test-is i j)
        ∙ sym (sum-kept f (λ i. is_of layer component (nth_node nodes i)) (range_with_len 0 n))))))

    run-is : (row : List (List ℕ)) → AreInOrder nodes row → numbers_of (filter (begins key) row) ≡ nodes_of nodes layer component
    unfolding nodes_of
    run-is row o =
        same_rising _ _ (run-rises row (row-entries row o) (ordered row o.sorted)) (range-rises 0 (length nodes) _) (sums row o)

    fails : (e : List ℕ) → begins (layer ∷ []) e ≡ false → begins key e ≡ false
    fails [] h = refl
    fails (a ∷ e) h = grind (arith, nat_tests)

    inner-first : (b : Bool) (e : List ℕ) (row : List (List ℕ)) → begins (layer ∷ []) e ≡ b → filter (begins key) (cond b (e ∷ row) row) ≡ filter (begins key) (e ∷ row)
    inner-first true e row t = refl
    inner-first false e row t = ap (λ (b : Bool). cond b (e ∷ filter (begins key) row) (filter (begins key) row)) (sym (fails e t))

    -- what begins with both begins with the first
    inner : (row : List (List ℕ)) → filter (begins key) (filter (begins (layer ∷ [])) row) ≡ filter (begins key) row
    inner [] = refl
    inner (e ∷ row) =
        inner-first (begins (layer ∷ []) e) e (filter (begins (layer ∷ [])) row) refl
        ∙ ap (λ (l : List (List ℕ)). cond (begins key e) (e ∷ l) l) (inner row)

  pub runs-are : (row : List (List ℕ)) → AreInOrder nodes row → AreRuns nodes row
  runs-are row o layer component = run-is layer component row o

  pub layer-is : (layer : ℕ) (row : List (List ℕ)) → IsSorted (slice_cmp nat_cmp) row → AreRuns nodes row → IsLayer nodes layer (filter (begins (layer ∷ [])) row)
  layer-is layer row up runs =
      record {
        sorted = ordered-sorted _ (filter-ordered (begins (layer ∷ [])) row (ordered row up));
        runs = λ component. ap numbers_of (inner layer component row) ∙ runs layer component;
      }

  -- ---- the numbers of a run are those of nodes
  nodes-known : (layer component : ℕ) → All (λ i. i < length nodes) (nodes_of nodes layer component)
  unfolding nodes_of
  nodes-known layer component =
      All-filter _ (λ i. i < length nodes) (range_with_len 0 (length nodes))
      (All-from_get_or (λ i. i < length nodes) (range_with_len 0 (length nodes)) 0
      (λ i h.
      let n = length-range_with_len 0 (length nodes) in
      let e = get_or-range_with_len 0 (length nodes) i 0 (omega arith) in
      omega arith))

  pub run-known : (layer component : ℕ) (run : List (List ℕ)) → numbers_of run ≡ nodes_of nodes layer component → AreKnown nodes run
  run-known layer component run e = subst (λ (ns : List ℕ). All (λ i. i < length nodes) ns) (sym e) (nodes-known layer component)

  pub run-few : (layer component : ℕ) (run : List (List ℕ)) → numbers_of run ≡ nodes_of nodes layer component → length run ≤ length nodes
  unfolding nodes_of
  run-few layer component run e =
      let p = λ (i : ℕ). is_of layer component (nth_node nodes i) in
      let range = range_with_len 0 (length nodes) in
      let a = length-map run num in
      let b = ap length e in
      let c = length-filter p range in
      let d = count_by-le-length p range in
      let n = length-range_with_len 0 (length nodes) in
      omega arith
