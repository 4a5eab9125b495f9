-- The entries of a sorted row that begin with a key stand together.
use Rattle.std.proofs.Common.{◌≡◌, ℕ, zero, suc, ◌+◌, ◌-◌, ◌<◌, ◌≤◌, Bool, true, false, ◌||◌, Option, length-append, get_or-append-add, nat_eq, List, [], ◌∷◌, ◌++◌, length, get_or, take, drop, filter, refl, sym, ap, ap₂, ◌∙◌, ⊎_elim, arith, All, IsSorted, Ordering, Less, Equal, Greater, Some, None}
use denote.Bor.{Bor}
use Rattle.std.specs.Bool.{then_some}
use Rattle.std.specs.Option.{option_copied}
use Rattle.std.specs.Ordering.{is_lt, nat_cmp, ordering_index}
use Rattle.std.specs.List.{starts_with}
use Rattle.std.specs.List.Sorted.{IsPartitionedBy, IsPartitionPoint}
use Rattle.std.specs.Cmp.Lexicographic.{slice_cmp}
use Rattle.std.proofs.lemmas.Bool.{true≢false, cases_Bool}
use Rattle.std.proofs.lemmas.Bool.Decides.{nat_tests}
use Rattle.std.proofs.lemmas.Cmp.{nat_list_cmp_total}
use Rattle.std.proofs.lemmas.List.{length-take, length-drop, get_or-take, get_or-drop, take-append-drop, append-nil}
use Rattle.std.proofs.lemmas.Option.{get_or_from_slice_get, slice_get-get_or}
use Rattle.std.proofs.Math.Seq.{take-suc}
use Rattle.std.specs.List.{slice_get}
use Rattle.std.proofs.lemmas.List.Elements.{All-head, All-tail, All-from_get_or, filter-append}
use Rattle.std.proofs.lemmas.List.Sorted.{ranks_by, sorted_far, searchable_from_sorted}

-- what is no less than a key, and no greater than something that begins with it, begins with it
pub squeezed : (key a b : List ℕ) → is_lt (slice_cmp nat_cmp a key) ≡ false → is_lt (slice_cmp nat_cmp b a) ≡ false → starts_with nat_eq b key ≡ true → starts_with nat_eq a key ≡ true
squeezed [] a b h g s = refl
squeezed (k ∷ key) [] b h g s = grind arith
squeezed (k ∷ key) (x ∷ a) [] h g s = grind arith
squeezed (k ∷ key) (x ∷ a) (y ∷ b) h g s = grind (arith, nat_tests, squeezed key a b)

-- what begins with a key is no less than it
no_less : (key e : List ℕ) → starts_with nat_eq e key ≡ true → is_lt (slice_cmp nat_cmp e key) ≡ false
no_less [] [] s = refl
no_less [] (x ∷ e) s = refl
no_less (k ∷ key) [] s = grind arith
no_less (k ∷ key) (x ∷ e) s = grind (arith, nat_tests, no_less key e)

filter-none : {A : Type 0} (p : A → Bool) (xs : List A) → All (λ x. p x ≡ false) xs → filter p xs ≡ []
filter-none p [] h = refl
filter-none p (x ∷ xs) h = rw (All-head (λ y. p y ≡ false) x xs h) (filter-none p xs (All-tail (λ y. p y ≡ false) x xs h))

filter-all : {A : Type 0} (p : A → Bool) (xs : List A) → All (λ x. p x ≡ true) xs → filter p xs ≡ xs
filter-all p [] h = refl
filter-all p (x ∷ xs) h = rw (All-head (λ y. p y ≡ true) x xs h) (ap (λ (l : List _). x ∷ l) (filter-all p xs (All-tail (λ y. p y ≡ true) x xs h)))

module _ (row : List (List ℕ)) (up : IsSorted (slice_cmp nat_cmp) row) (key : List ℕ) where
  abbrev pub less : List ℕ → Bool
  less e = is_lt (slice_cmp nat_cmp e key)

  abbrev pub begins : List ℕ → Bool
  begins e = starts_with nat_eq e key

  pub less-parted : IsPartitionedBy less row
  less-parted i j d h g e =
      let n = searchable_from_sorted nat_list_cmp_total (λ (x : List ℕ). x) row key up i j d h g in
      first (slice_cmp nat_cmp (get_or row i d) key) (slice_cmp nat_cmp (get_or row j d) key) n e
    where
      first : (o p : Ordering) → ordering_index o ≤ ordering_index p → is_lt p ≡ true → is_lt o ≡ true
      first Less p h e = refl
      first Equal Less h e = absurd (omega arith)
      first Greater Less h e = absurd (omega arith)
      first o Equal h e = absurd (true≢false (sym e))
      first o Greater h e = absurd (true≢false (sym e))

  module _ (low : ℕ) (within : low ≤ length row) (L : IsPartitionPoint (λ e. less e ≡ true) (λ e. less e ≡ false) row low) where
    pub begins-parted : IsPartitionedBy begins (drop low row)
    begins-parted i j d h g e =
        let n = length-drop low row in
        rw (get_or-drop low row i d)
        (squeezed key (get_or row (low + i) d) (get_or row (low + j) d) (L.1 (low + i) d (omega arith) (omega arith))
        (sorted_far (λ (x y : List ℕ). is_lt (slice_cmp nat_cmp x y)) (ranks_by nat_list_cmp_total (λ (x : List ℕ). x)) row up (low + i) (low + j) d (omega arith) (omega arith))
        (rw (get_or-drop low row j d) at e))

    none : (i : ℕ) → i < length (take low row) → begins (get_or (take low row) i []) ≡ false
    none i h =
        let n = length-take low row in
        let e = L.0 i [] (omega arith) (omega arith) in
        rw (get_or-take low row i [] (omega arith)) (⊎_elim (λ (t : begins (get_or row i []) ≡ true). absurd (true≢false (sym e ∙ no_less key (get_or row i []) t))) (λ f. f) (cases_Bool (begins (get_or row i []))))

    -- nothing in front begins with the key
    pub rest-is : filter begins row ≡ filter begins (drop low row)
    rest-is =
        let front : filter begins (take low row) ≡ [] = filter-none begins (take low row) (All-from_get_or (λ e. begins e ≡ false) (take low row) [] none) in
        ap (filter begins) (sym (take-append-drop low row)) ∙ (filter-append begins (take low row) (drop low row) ∙ ap (λ (x : List (List ℕ)). x ++ filter begins (drop low row)) front)

    -- and where nothing is left, or the next one doesn't, nothing does
    pub none-left : slice_get (drop low row) 0 ≡ None → filter begins row ≡ []
    none-left h = rest-is ∙ go (drop low row) h
      where
        go : (xs : List (List ℕ)) → slice_get xs 0 ≡ None → filter begins xs ≡ []
        go [] h = refl
        go (x ∷ xs) h = cc

    pub none-begins : (e : List ℕ) → slice_get (drop low row) 0 ≡ Some e → begins e ≡ false → filter begins row ≡ []
    none-begins e s f = rest-is ∙ filter-none begins (drop low row) (All-from_get_or (λ e. begins e ≡ false) (drop low row) [] past)
      where
        next : begins (get_or (drop low row) 0 []) ≡ false
        next = ap begins (get_or_from_slice_get (drop low row) 0 e [] s) ∙ f

        past : (i : ℕ) → i < length (drop low row) → begins (get_or (drop low row) i []) ≡ false
        past i g = ⊎_elim (λ (t : begins (get_or (drop low row) i []) ≡ true). absurd (true≢false (sym (begins-parted 0 i [] (omega arith) g t) ∙ next))) (λ f. f) (cases_Bool (begins (get_or (drop low row) i [])))

    -- where it does, it is the first
    pub first_begins : (e : List ℕ) → slice_get (drop low row) 0 ≡ Some e → begins e ≡ true → slice_get (filter begins row) 0 ≡ Some e
    first_begins e s t = ap (λ (x : List (List ℕ)). slice_get x 0) rest-is ∙ go (drop low row) s
      where
        go : (xs : List (List ℕ)) → slice_get xs 0 ≡ Some e → slice_get (filter begins xs) 0 ≡ Some e
        go [] h = cc
        go (x ∷ xs) h = let q : x ≡ e = cc in let u : begins x ≡ true = ap begins q ∙ t in rw (u, q) refl

    pub run-is : (count : ℕ) → IsPartitionPoint (λ e. begins e ≡ true) (λ e. begins e ≡ false) (drop low row) count → count ≤ length (drop low row) → take count (drop low row) ≡ filter begins row
    run-is count C few =
        let rest = drop low row in
        let middle : filter begins (take count rest) ≡ take count rest = filter-all begins (take count rest) (All-from_get_or (λ e. begins e ≡ true) (take count rest) [] all) in
        let back : filter begins (drop count rest) ≡ [] = filter-none begins (drop count rest) (All-from_get_or (λ e. begins e ≡ false) (drop count rest) [] past) in
        let split : filter begins rest ≡ take count rest = ap (filter begins) (sym (take-append-drop count rest)) ∙ (filter-append begins (take count rest) (drop count rest) ∙ (ap₂ (λ (x y : List (List ℕ)). x ++ y) middle back ∙ append-nil (take count rest))) in
        sym (rest-is ∙ split)
      where
        all : (i : ℕ) → i < length (take count (drop low row)) → begins (get_or (take count (drop low row)) i []) ≡ true
        all i h = let n = length-take count (drop low row) in rw (get_or-take count (drop low row) i [] (omega arith)) (C.0 i [] (omega arith) (omega arith))

        past : (i : ℕ) → i < length (drop count (drop low row)) → begins (get_or (drop count (drop low row)) i []) ≡ false
        past i h = let n = length-drop count (drop low row) in rw (get_or-drop count (drop low row) i []) (C.1 (count + i) [] (omega arith) (omega arith))

  -- ---- up to a key

  abbrev pub upto : List ℕ → Bool
  upto e = is_lt (slice_cmp nat_cmp e key) || starts_with nat_eq e key

  either : (a b : Bool) → (a || b) ≡ true → a ≡ false → b ≡ true
  either true b h f = absurd (true≢false f)
  either false b h f = h

  or_first : (a b : Bool) → a ≡ true → (a || b) ≡ true
  or_first a b h = rw h refl

  or_second : (a b : Bool) → b ≡ true → (a || b) ≡ true
  or_second true b h = refl
  or_second false b h = h

  pub upto-parted : IsPartitionedBy upto row
  upto-parted i j d h g e =
      let a = get_or row i d in
      let b = get_or row j d in
      ⊎_elim
      (λ (t : less a ≡ true). or_first (less a) (begins a) t)
      (λ (f : less a ≡ false). or_second (less a) (begins a)
      (⊎_elim
      (λ (t : less b ≡ true). absurd (true≢false (sym (less-parted i j d h g t) ∙ f)))
      (λ (k : less b ≡ false). squeezed key a b f
      (sorted_far (λ (x y : List ℕ). is_lt (slice_cmp nat_cmp x y)) (ranks_by nat_list_cmp_total (λ (x : List ℕ). x)) row up i j d h g)
      (either (less b) (begins b) e k))
      (cases_Bool (less b))))
      (cases_Bool (less a))

  module _ (end : ℕ) (within : end ≤ length row) (U : IsPartitionPoint (λ e. upto e ≡ true) (λ e. upto e ≡ false) row end) where
    neither : (a b : Bool) → (a || b) ≡ false → b ≡ false
    neither true b h = absurd (true≢false h)
    neither false b h = h

    past : (i : ℕ) → i < length (drop end row) → begins (get_or (drop end row) i []) ≡ false
    past i h =
        let n = length-drop end row in
        rw (get_or-drop end row i []) (neither (less (get_or row (end + i) [])) (begins (get_or row (end + i) [])) (U.1 (end + i) [] (omega arith) (omega arith)))

    front-is : filter begins row ≡ filter begins (take end row)
    front-is =
        let back : filter begins (drop end row) ≡ [] = filter-none begins (drop end row) (All-from_get_or (λ e. begins e ≡ false) (drop end row) [] past) in
        ap (filter begins) (sym (take-append-drop end row)) ∙ (filter-append begins (take end row) (drop end row) ∙ (ap (λ (x : List (List ℕ)). filter begins (take end row) ++ x) back ∙ append-nil (filter begins (take end row))))

    last-snoc : (xs : List (List ℕ)) (e : List ℕ) → slice_get (xs ++ e ∷ []) (length (xs ++ e ∷ []) - 1) ≡ Some e
    last-snoc xs e =
        let n : length (xs ++ e ∷ []) - 1 ≡ length xs + 0 = omega (arith, length-append xs (e ∷ [])) in
        slice_get-get_or (xs ++ e ∷ []) (length (xs ++ e ∷ []) - 1) [] (omega (arith, length-append xs (e ∷ [])))
        ∙ ap Some (ap (λ (i : ℕ). get_or (xs ++ e ∷ []) i []) n ∙ get_or-append-add xs (e ∷ []) 0 [])

    none_last : (xs : List (List ℕ)) → slice_get xs (length xs - 1) ≡ None → xs ≡ []
    none_last [] h = refl
    none_last (x ∷ xs) h = absurd (go (slice_get-get_or (x ∷ xs) (length (x ∷ xs) - 1) [] (omega arith)))
      where
        go : slice_get (x ∷ xs) (length (x ∷ xs) - 1) ≡ Some (get_or (x ∷ xs) (length (x ∷ xs) - 1) []) → ⊥
        go q = let r : ◌≡◌ {A = Option (List ℕ)} None (Some (get_or (x ∷ xs) (length (x ∷ xs) - 1) [])) = sym h ∙ q in cc

    pub none-front : slice_get (take end row) (length (take end row) - 1) ≡ None → filter begins row ≡ []
    none-front h = front-is ∙ ap (filter begins) (none_last (take end row) h)

    module _ (e : List ℕ) (s : slice_get (take end row) (length (take end row) - 1) ≡ Some e) where
      long : length (take end row) ≡ end
      long = length-take end row ∙ omega arith

      some : 0 < end
      some = go (take end row) long s
        where
          go : (xs : List (List ℕ)) → length xs ≡ end → slice_get xs (length xs - 1) ≡ Some e → 0 < end
          go [] n q = cc
          go (x ∷ xs) n q = omega arith

      last-at : get_or row (end - 1) [] ≡ e
      last-at =
          let n = long in
          let z = some in
          let k : length (take end row) - 1 ≡ end - 1 = omega arith in
          sym (get_or-take end row (end - 1) [] (omega arith)) ∙ (ap (λ (i : ℕ). get_or (take end row) i []) (sym k) ∙ get_or_from_slice_get (take end row) (length (take end row) - 1) e [] s)

      pub last_begins : begins e ≡ true → slice_get (filter begins row) (length (filter begins row) - 1) ≡ Some e
      last_begins t =
          let z = some in
          let k : suc (end - 1) ≡ end = omega arith in
          let split : take end row ≡ take (end - 1) row ++ e ∷ [] = ap (λ (i : ℕ). take i row) (sym k) ∙ (take-suc row (end - 1) [] (omega arith) ∙ ap (λ (x : List ℕ). take (end - 1) row ++ x ∷ []) last-at) in
          let kept : filter begins (take end row) ≡ filter begins (take (end - 1) row) ++ e ∷ [] = ap (filter begins) split ∙ (filter-append begins (take (end - 1) row) (e ∷ []) ∙ ap (λ (x : List (List ℕ)). filter begins (take (end - 1) row) ++ x) (filter-all begins (e ∷ []) (All-from_get_or (λ x. begins x ≡ true) (e ∷ []) [] one))) in
          ap (λ (x : List (List ℕ)). slice_get x (length x - 1)) (front-is ∙ kept) ∙ last-snoc (filter begins (take (end - 1) row)) e
        where
          one : (i : ℕ) → i < length (e ∷ []) → begins (get_or (e ∷ []) i []) ≡ true
          one zero h = t
          one (suc i) h = absurd (omega arith)

      pub last-other : begins e ≡ false → filter begins row ≡ []
      last-other f = front-is ∙ filter-none begins (take end row) (All-from_get_or (λ x. begins x ≡ false) (take end row) [] none)
        where
          below : less (get_or row (end - 1) []) ≡ true
          below =
              let z = some in
              ⊎_elim (λ (t : less (get_or row (end - 1) []) ≡ true). t)
              (λ k. absurd (true≢false (sym (either (less (get_or row (end - 1) [])) (begins (get_or row (end - 1) [])) (U.0 (end - 1) [] (omega arith) (omega arith)) k) ∙ (ap begins last-at ∙ f))))
              (cases_Bool (less (get_or row (end - 1) [])))

          none : (i : ℕ) → i < length (take end row) → begins (get_or (take end row) i []) ≡ false
          none i h =
              let n = long in
              let z = some in
              let l = less-parted i (end - 1) [] (omega arith) (omega arith) below in
              rw (get_or-take end row i [] (omega arith)) (⊎_elim (λ (t : begins (get_or row i []) ≡ true). absurd (true≢false (sym l ∙ no_less key (get_or row i []) t))) (λ f. f) (cases_Bool (begins (get_or row i []))))

-- an entry that is handed out where a test holds
pub handed : (b : Bool) (e : Bor (List ℕ)) (o : Option (List ℕ)) → (b ≡ true → Some e.now ≡ o) → (b ≡ false → None ≡ o) → option_copied (then_some b e) ≡ o
handed true e o t f = t refl
handed false e o t f = f refl
