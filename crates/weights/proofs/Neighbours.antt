-- In a row of the nodes' entries in order, neighbours in the row are neighbours on the line.
use Rattle.std.proofs.Common.{◌≡◌, ℕ, ◌+◌, ◌-◌, ◌<◌, ◌≤◌, Bool, true, false, ◌&&◌, ◌||◌, ◌==◌, nat_lt, List, [], length, get_or, cond, refl, sym, ap, ap₂, ◌∙◌, subst, ⊎_elim, arith, All, Contains, unwrap_or}
use Rattle.std.specs.List.{IsDistinct}
use Rattle.std.proofs.lemmas.Bool.{cases_lt, ne_eqb, lt-ltb, ltb-true, and_parts, and_from, true≢false}
use Rattle.std.proofs.lemmas.Bool.Decides.{nat_tests}
use Rattle.std.proofs.lemmas.List.{get_or_default}
use Rattle.std.proofs.lemmas.List.Elements.{All-from_get_or, Contains-get_or}
use Rattle.std.proofs.lemmas.List.Sorted.{All-permutation, Contains-permutation}
use Rattle.std.proofs.lemmas.Map.Keys.{IsDistinct-from_apart, IsDistinct-IsPermutation, apart_from_distinct}
use Rattle.net.specs.Net.{MeshNode, nth, after, least, next_gap, prev_gap}
use Rattle.net.proofs.Gaps.{least-is, least_zero}
use Rattle.weights.specs.Lines.{entry_of, entries, Lined, at, rise_of}
use Rattle.weights.proofs.Entries.{length-entries, entry_at}
use Rattle.weights.proofs.Order.{num, Upto, ordered}

-- f comes after e on a line: `after`, of entries
abbrev pub later : List ℕ → List ℕ → Bool
later e f = num e 0 == num f 0 && (num e 1 == num f 1 && (nat_lt (num e 2) (num f 2) || (num e 2 == num f 2 && nat_lt (num e 3) (num f 3))))

abbrev pub one_line : List ℕ → List ℕ → Bool
one_line e f = num f 0 == num e 0 && num f 1 == num e 1

-- what comes after doesn't stand before
not_back : (e f : List ℕ) → Upto f e → later e f ≡ true → ⊥
not_back e f u h = let a = u.layer in let b = u.line in let c = u.place in let d = u.number in grind (arith, nat_tests)

-- of two on one line none that is later than the first is nearer than the second, if it stands behind that
nearer : (e f x : List ℕ) → one_line e f ≡ true → later e x ≡ true → Upto f x → num f 2 - num e 2 ≤ num x 2 - num e 2
nearer e f x o h u = let a = u.place in grind (arith, nat_tests)

nearer_back : (x e f : List ℕ) → one_line e f ≡ true → later x f ≡ true → Upto x e → num f 2 - num e 2 ≤ num f 2 - num x 2
nearer_back x e f o h u = let a = u.place in grind (arith, nat_tests)

-- what stands between two of one line is of that line
between : (e f x : List ℕ) → Upto e f → Upto f x → later e x ≡ true → one_line e f ≡ true
between e f x u w h = let a = u.layer in let b = u.line in let c = w.layer in let d = w.line in grind (arith, nat_tests)

between_back : (x e f : List ℕ) → Upto x e → Upto e f → later x f ≡ true → one_line e f ≡ true
between_back x e f u w h = let a = u.layer in let b = u.line in let c = w.layer in let d = w.line in grind (arith, nat_tests)

module _ (ns : List MeshNode) (row : List (List ℕ)) (L : Lined ns row) where
  abbrev who : ℕ → ℕ
  who k = num (at row k) 3

  abbrev IsEntry : List ℕ → Type 0
  IsEntry e = (num e 3 < length ns) × (e ≡ entry_of ns (num e 3))

  pub here : (k : ℕ) → k < length row → IsEntry (at row k)
  here k h = All-permutation IsEntry (entries ns) row L.same (All-from_get_or IsEntry (entries ns) [] one) k [] h
    where
      one : (i : ℕ) → i < length (entries ns) → IsEntry (get_or (entries ns) i [])
      one i g = let m = length-entries ns in let e = entry_at ns i [] (omega arith) in subst IsEntry (sym e) (omega arith, refl)

  pub long : (i : ℕ) → i < length row → length (get_or row i []) ≡ 4
  long i h = ap length (here i h).1

  pub numbers : All (λ e. num e 3 < length ns) row
  numbers = All-from_get_or (λ e. num e 3 < length ns) row [] (λ k h. (here k h).0)

  -- each node has a place in the row
  pub record Spot (i : ℕ) : Type 0 where
    pub place : ℕ
    pub inside : place < length row
    pub is : who place ≡ i

  pub spot : (i : ℕ) → i < length ns → Spot i
  spot i h =
      let e = entry_of ns i in
      let m = length-entries ns in
      let s = Contains-permutation (entries ns) row e L.same (subst (Contains (entries ns)) (entry_at ns i [] h) (Contains-get_or (entries ns) i [] (omega arith))) in
      record { place = s.0; inside = s.1; is = ap (λ (x : List ℕ). num x 3) (get_or_default row s.0 [] e s.1 ∙ s.2) }

  abbrev same_number : List ℕ → List ℕ → Bool
  same_number x y = num x 3 == num y 3

  pub apart : (k l : ℕ) → k < l → l < length row → who k ≡ who l → ⊥
  apart k l h g e = let d = apart_from_distinct same_number row k l [] (IsDistinct-IsPermutation same_number (λ x y. flips (num x 3) (num y 3)) (entries ns) row L.same each) h g in grind (arith, nat_tests)
    where
      flips : (x y : ℕ) → (x == y) ≡ (y == x)
      flips x y = grind (arith, nat_tests)

      each : IsDistinct same_number (entries ns)
      each = IsDistinct-from_apart same_number (entries ns) (λ i j d h g. (let m = length-entries ns in rw (entry_at ns i d (omega arith), entry_at ns j d (omega arith)) (ne_eqb i j (λ e. omega arith))))

  pub stands : (k l : ℕ) → k ≤ l → l < length row → Upto (at row k) (at row l)
  stands = ordered row L.sorted long

  later-goes : (k l : ℕ) → k < length row → l < length row → later (at row k) (at row l) ≡ true → k < l
  later-goes k l h g e = ⊎_elim (λ (q : k < l). q) (λ (q : l ≤ k). absurd (not_back _ _ (stands l k q h) e)) (cases_lt k l)

  goes-later : (k l : ℕ) → k < l → l < length row → one_line (at row k) (at row l) ≡ true → later (at row k) (at row l) ≡ true
  goes-later k l h g e =
      let u = stands k l (omega arith) g in let b = u.place in let c = u.number in let d = apart k l h g in
      grind (arith, nat_tests)

  -- the least over the nodes is the least over the row
  module _ (p : MeshNode → ℕ → Bool) (g : MeshNode → ℕ) (t : ℕ → Bool) (v : ℕ → ℕ)
      (tests : (l : ℕ) → l < length row → p (nth ns (who l)) (who l) ≡ t l) (gives : (l : ℕ) → l < length row → g (nth ns (who l)) ≡ v l) where
    -- of a node that passes, its place
    passing : (q : ℕ) → q < length ns → p (nth ns q) q ≡ true → (l : ℕ) × (l < length row) × (t l ≡ true) × (g (nth ns q) ≡ v l)
    passing q h e =
        let s = spot q h in
        (s.place, s.inside, sym (tests s.place s.inside) ∙ rw s.is e, rw s.is at (gives s.place s.inside))

    at_least : (m : ℕ) → m < length row → t m ≡ true → ((l : ℕ) → l < length row → t l ≡ true → v m ≤ v l) → unwrap_or (least p g ns 0) 0 ≡ v m
    at_least m h e low =
        least-is p g ns (who m) (here m h).0 (tests m h ∙ e)
        (λ q lt pq. (let s = passing q lt pq in let d = gives m h in let f = low s.0 s.1 s.2 in let r = s.3 in omega arith))
        ∙ gives m h

    none_at : ((l : ℕ) → l < length row → t l ≡ true → ⊥) → unwrap_or (least p g ns 0) 0 ≡ 0
    none_at none = least_zero p g ns (λ q lt pq. (let s = passing q lt pq in none s.0 s.1 s.2))

  says-later : (k l : ℕ) → k < length row → l < length row → after (nth ns (who k)) (who k) (nth ns (who l)) (who l) ≡ later (at row k) (at row l)
  says-later k l h g = sym (ap₂ later (here k h).1 (here l g).1)

  says-along : (k : ℕ) → k < length row → (nth ns (who k)).y ≡ num (at row k) 2
  says-along k h = sym (ap (λ (x : List ℕ). num x 2) (here k h).1)

  -- the k-th entry has its next one in the row
  abbrev joined : ℕ → Bool
  joined k = nat_lt (k + 1) (length row) && one_line (at row k) (at row (k + 1))

  joined-parts : (k : ℕ) → joined k ≡ true → (k + 1 < length row) × (one_line (at row k) (at row (k + 1)) ≡ true)
  joined-parts k e = let b = and_parts (nat_lt (k + 1) (length row)) (one_line (at row k) (at row (k + 1))) e in (ltb-true (k + 1) (length row) b.0, b.1)

  -- nothing on the line of the k-th entry stands behind an entry that isn't joined to it
  last_of_line : (k l : ℕ) → joined k ≡ false → k < l → l < length row → later (at row k) (at row l) ≡ true → ⊥
  last_of_line k l e h g q =
      let o = between (at row k) (at row (k + 1)) (at row l) (stands k (k + 1) (omega arith) (omega arith)) (stands (k + 1) l (omega arith) g) q in
      true≢false (sym (and_from (nat_lt (k + 1) (length row)) (one_line (at row k) (at row (k + 1))) (lt-ltb (k + 1) (length row) (omega arith)) o) ∙ e)

  first_of_line : (k l : ℕ) → joined k ≡ false → k + 1 < length row → l < k + 1 → later (at row l) (at row (k + 1)) ≡ true → ⊥
  first_of_line k l e h g q =
      let o = between_back (at row l) (at row k) (at row (k + 1)) (stands l k (omega arith) (omega arith)) (stands k (k + 1) (omega arith) h) q in
      true≢false (sym (and_from (nat_lt (k + 1) (length row)) (one_line (at row k) (at row (k + 1))) (lt-ltb (k + 1) (length row) h) o) ∙ e)

  -- from the k-th entry up to the l-th
  abbrev rise : ℕ → ℕ → ℕ
  rise k l = num (at row l) 2 - num (at row k) 2

  gives-rise : (k l : ℕ) → k < length row → l < length row → (nth ns (who l)).y - (nth ns (who k)).y ≡ rise k l
  gives-rise k l h g = ap₂ (λ (x y : ℕ). x - y) (says-along l g) (says-along k h)

  next-says : (i : ℕ) → next_gap ns i ≡ unwrap_or (least (λ b j. after (nth ns i) i b j) (λ b. b.y - (nth ns i).y) ns 0) 0
  unfolding next_gap
  next-says i = refl

  prev-says : (i : ℕ) → prev_gap ns i ≡ unwrap_or (least (λ b j. after b j (nth ns i) i) (λ b. (nth ns i).y - b.y) ns 0) 0
  unfolding prev_gap
  prev-says i = refl

  pub next_is : (k : ℕ) → k < length row → next_gap ns (who k) ≡ rise_of row k
  next_is k h = next-says (who k) ∙ go (joined k) refl
    where
      go : (b : Bool) → joined k ≡ b → unwrap_or (least (λ b j. after (nth ns (who k)) (who k) b j) (λ b. b.y - (nth ns (who k)).y) ns 0) 0 ≡ cond b (rise k (k + 1)) 0
      go true e =
          let w = joined-parts k e in
          at_least (λ b j. after (nth ns (who k)) (who k) b j) (λ b. b.y - (nth ns (who k)).y) (λ l. later (at row k) (at row l)) (rise k)
          (λ l g. says-later k l h g) (λ l g. gives-rise k l h g)
          (k + 1) w.0 (goes-later k (k + 1) (omega arith) w.0 w.1)
          (λ l g q. (let z = later-goes k l h g q in nearer (at row k) (at row (k + 1)) (at row l) w.1 q (stands (k + 1) l (omega arith) g)))
      go false e =
          none_at (λ b j. after (nth ns (who k)) (who k) b j) (λ b. b.y - (nth ns (who k)).y) (λ l. later (at row k) (at row l)) (rise k)
          (λ l g. says-later k l h g) (λ l g. gives-rise k l h g)
          (λ l g q. last_of_line k l e (later-goes k l h g q) g q)

  pub prev_zero : 0 < length row → prev_gap ns (who 0) ≡ 0
  prev_zero h =
      prev-says (who 0) ∙
      none_at (λ b j. after b j (nth ns (who 0)) (who 0)) (λ b. (nth ns (who 0)).y - b.y) (λ l. later (at row l) (at row 0)) (λ l. rise l 0)
      (λ l g. says-later l 0 g h) (λ l g. gives-rise l 0 g h)
      (λ l g q. (let z = later-goes l 0 g h q in omega arith))

  pub prev_is : (k : ℕ) → k + 1 < length row → prev_gap ns (who (k + 1)) ≡ rise_of row k
  prev_is k h = prev-says (who (k + 1)) ∙ go (joined k) refl
    where
      go : (b : Bool) → joined k ≡ b → unwrap_or (least (λ b j. after b j (nth ns (who (k + 1))) (who (k + 1))) (λ b. (nth ns (who (k + 1))).y - b.y) ns 0) 0 ≡ cond b (rise k (k + 1)) 0
      go true e =
          let w = joined-parts k e in
          at_least (λ b j. after b j (nth ns (who (k + 1))) (who (k + 1))) (λ b. (nth ns (who (k + 1))).y - b.y) (λ l. later (at row l) (at row (k + 1))) (λ l. rise l (k + 1))
          (λ l g. says-later l (k + 1) g h) (λ l g. gives-rise l (k + 1) g h)
          k (omega arith) (goes-later k (k + 1) (omega arith) h w.1)
          (λ l g q. (let z = later-goes l (k + 1) g h q in nearer_back (at row l) (at row k) (at row (k + 1)) w.1 q (stands l k (omega arith) (omega arith))))
      go false e =
          none_at (λ b j. after b j (nth ns (who (k + 1))) (who (k + 1))) (λ b. (nth ns (who (k + 1))).y - b.y) (λ l. later (at row l) (at row (k + 1))) (λ l. rise l (k + 1))
          (λ l g. says-later l (k + 1) g h) (λ l g. gives-rise l (k + 1) g h)
          (λ l g q. first_of_line k l e h (later-goes l (k + 1) g h q) q)
