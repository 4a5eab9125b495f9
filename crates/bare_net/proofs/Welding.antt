-- The parts welded one by one: each that is its own first comes behind those so far.
use Rattle.std.proofs.Common.{◌≡◌, refl, sym, ap, ap₂, ◌∙◌, ⊎_elim, Bool, true, ◌&&◌, ◌==◌, eqb, eqb-true, eq-eqb, ne_eqb, List, [], ◌∷◌, ◌++◌, map, ℕ, suc, ◌+◌, ◌<◌, ◌≤◌, min, max, arith, add-one, zero-add, length, length-append, length-take, take, get_or, set}
use Rattle.std.proofs.lemmas.Bool.{cases_lt}
use Rattle.std.proofs.lemmas.Bool.Decides.{nat_tests}
use Rattle.std.proofs.lemmas.List.{length-map, map-append, take_all}
use Rattle.std.proofs.lemmas.List.FromFn.{length-map-range_with_len, get_or-map-range_with_len}
use Rattle.refusals.specs.Said.{written}
use Rattle.net.specs.Net.{Edge, weld}
use Rattle.net.specs.First.{Part, same_part, first_of, news}
use Rattle.net.proofs.Positions.{position-is}
use Rattle.net.proofs.Weld.{Keyed, welded, news-new, news-old, map_snoc, weld-nil}
use Rattle.net.proofs.All.{weld-length}
use Rattle.net.proofs.Keys.{bool-ext, pair_is_lem}
use Rattle.sorted.specs.Firsts.{AreFirsts}
use Rattle.bare_net.specs.Edges.{parts_from, key_of}
use Rattle.net_rows.proofs.Written.{written_more}

tests-yes : (a b c x y z : ℕ) → a ≡ x → b ≡ y → c ≡ z → ((a == x) && ((b == y) && (c == z))) ≡ true
tests-yes a b c x y z p q r = grind (arith, nat_tests)

tests-same : (a b c x y z : ℕ) → ((a == x) && ((b == y) && (c == z))) ≡ true → (a ∷ b ∷ c ∷ []) ≡ (x ∷ y ∷ z ∷ [])
tests-same a b c x y z h =
    let p : a ≡ x = grind (arith, nat_tests) in
    let q : b ≡ y = grind (arith, nat_tests) in
    let r : c ≡ z = grind (arith, nat_tests) in
    cc

module _ (f : ℕ → Part) (i j : ℕ) where
  abbrev lesser : ℕ → ℕ
  lesser k = min (f k).edge.from (f k).edge.to

  abbrev greater : ℕ → ℕ
  greater k = max (f k).edge.from (f k).edge.to

  by-key : same_part (f i) (f j) ≡ (((f i).piece == (f j).piece) && ((lesser i == lesser j) && (greater i == greater j)))
  by-key = ap (λ (b : Bool). ((f i).piece == (f j).piece) && b) (pair_is_lem (f i).edge.from (f i).edge.to (f j).edge.from (f j).edge.to)

  key-same : key_of f i ≡ key_of f j → same_part (f i) (f j) ≡ true
  key-same e = by-key ∙ tests-yes (f i).piece (lesser i) (greater i) (f j).piece (lesser j) (greater j) (cc e) (cc e) (cc e)

  same-key : same_part (f i) (f j) ≡ true → key_of f i ≡ key_of f j
  same-key e = tests-same (f i).piece (lesser i) (greater i) (f j).piece (lesser j) (greater j) (sym by-key ∙ e)

module _ (f : ℕ → Part) (n : ℕ) where
  abbrev parts : List Part
  parts = parts_from f n

  part_at_lem : (i : ℕ) (d : Part) → i < n → get_or parts i d ≡ f i
  part_at_lem i d h = get_or-map-range_with_len f 0 n i i d h (zero-add i)

  parts_long : length parts ≡ n
  parts_long = length-map-range_with_len f 0 n

  abbrev pub so_far : ℕ → List Part
  so_far j = weld same_part [] (take j parts)

  module _ (firsts : List ℕ) (long : length firsts ≡ n) (F : AreFirsts (key_of f) firsts) where
    abbrev first : ℕ → ℕ
    first i = get_or firsts i 0

    first-low : (i : ℕ) → i < n → first i ≤ i
    first-low i h = ⊎_elim (λ (p : i < first i). absurd ((F i (omega arith)).least i p refl)) (λ p. p) (cases_lt i (first i))

    first-least : (i j : ℕ) → i < n → j < n → key_of f i ≡ key_of f j → first j ≤ first i
    first-least i j h k e = ⊎_elim (λ (p : first i < first j). absurd ((F j (omega arith)).least (first i) p ((F i (omega arith)).equal ∙ e))) (λ p. p) (cases_lt (first i) (first j))

    first-same : (i j : ℕ) → i < n → j < n → key_of f i ≡ key_of f j → first i ≡ first j
    first-same i j h k e = let a = first-least i j h k e in let b = first-least j i k h (sym e) in omega arith

    parts-keyed : (d : Part) → Keyed same_part d parts firsts
    parts-keyed d =
        record {
          long = long ∙ sym parts_long;
          agree = λ i j h k. (let m = parts_long in
              let a : i < n = omega arith in
              let b : j < n = omega arith in
              ap₂ {C = Bool} (λ (x y : Part). same_part x y) (part_at_lem i d a) (part_at_lem j d b)
              ∙ bool-ext (same_part (f i) (f j)) (eqb (first i) (first j))
              (λ t. eq-eqb _ _ (first-same i j a b (same-key f i j t)))
              (λ t. key-same f i j (sym (F i (omega arith)).equal ∙ (ap (key_of f) (eqb-true _ _ t) ∙ (F j (omega arith)).equal))));
        }

    first-own : (i : ℕ) → i < n → first_of firsts i ≡ first i
    first-own i h =
        let a = first-low i h in
        position-is eqb firsts (first i) 0 (first i)
        (eq-eqb _ _ (first-same (first i) i (omega arith) h (F i (omega arith)).equal))
        (λ j g. (let e = first-low j (omega arith) in ne_eqb _ _ (λ z. omega arith)))
        (omega arith)

    module _ (j : ℕ) (h : j < n) where
      abbrev at : ℕ → Part
      at i = get_or parts i (f j)

      is-welded : (k : ℕ) → k ≤ n → so_far k ≡ map at (news firsts k)
      is-welded k g = let m = parts_long in welded same_part (f j) parts firsts (parts-keyed (f j)) k (omega arith)

      pub own-welded : first j ≡ j → so_far (j + 1) ≡ so_far j ++ (f j ∷ [])
      own-welded e =
          ap so_far (add-one j) ∙ (is-welded (suc j) h
          ∙ (ap (map at) (news-new firsts j (eq-eqb _ _ (first-own j h ∙ e)))
          ∙ (map_snoc at (news firsts j) j ∙ ap₂ (λ (u : List Part) (w : Part). u ++ (w ∷ [])) (sym (is-welded j (omega arith))) (part_at_lem j (f j) h))))

      pub other-welded : (first j ≡ j → ⊥) → so_far (j + 1) ≡ so_far j
      other-welded e = ap so_far (add-one j) ∙ (is-welded (suc j) h ∙ (ap (map at) (news-old firsts j (ne_eqb _ _ (λ z. e (sym (first-own j h) ∙ z)))) ∙ sym (is-welded j (omega arith))))

  pub so_far_few : (j : ℕ) → length (so_far j) ≤ j
  so_far_few j = omega (arith, weld-length same_part [] (take j parts), length-take j parts)

  pub so_far_none : so_far 0 ≡ []
  so_far_none = weld-nil same_part []

  pub so_far_all : (j : ℕ) → n ≤ j → so_far j ≡ weld same_part [] parts
  so_far_all j h = let m = parts_long in ap (weld same_part []) (take_all j parts (omega arith))

-- the next slot in the row of edges
abbrev edges : List Part → List Edge
edges ps = map (λ (p : Part). p.edge) ps

pub record Edged (f : ℕ → Part) (n : ℕ) (old row : List Edge) (count j : ℕ) : Type 0 where
  pub count-is : count ≡ length (so_far f n j)
  pub row-is : row ≡ written (map (λ (p : Part). p.edge) (so_far f n j)) old

pub edged_none : (f : ℕ → Part) (n : ℕ) (old : List Edge) → Edged f n old old 0 0
edged_none f n old = let e = so_far_none f n in record { count-is = sym (ap length e); row-is = sym (ap (λ (z : List Part). written (edges z) old) e) }

pub edged_all : (f : ℕ → Part) (n : ℕ) (old row : List Edge) (count j : ℕ) → n ≤ j → Edged f n old row count j
    → (count ≡ length (edges (weld same_part [] (parts_from f n)))) × (row ≡ written (edges (weld same_part [] (parts_from f n))) old)
edged_all f n old row count j h E =
    let e = so_far_all f n j h in (
      E.count-is ∙ (ap length e ∙ sym (length-map (weld same_part [] (parts_from f n)) (λ (p : Part). p.edge))),
      E.row-is ∙ ap (λ (z : List Part). written (edges z) old) e,
    )

module _ (f : ℕ → Part) (n : ℕ) (firsts : List ℕ) (long : length firsts ≡ n) (F : AreFirsts (key_of f) firsts) (old : List Edge) (room : n ≤ length old) where
  pub edged_own : (row : List Edge) (count j : ℕ) (e : Edge) → j < n → Edged f n old row count j → get_or firsts j 0 ≡ j → e ≡ (f j).edge → Edged f n old (set row count e) (count + 1) (j + 1)
  edged_own row count j e h E own is =
      let w = own-welded f n firsts long F j h own in
      let few = so_far_few f n j in
      let c = E.count-is in
      record {
        count-is = omega (arith, ap length w, length-append (so_far f n j) (f j ∷ []));
        row-is = ap (λ (z : List Edge). set z count e) E.row-is
            ∙ (written_more (edges (so_far f n j)) old count e (c ∙ sym (length-map (so_far f n j) (λ (p : Part). p.edge))) (omega arith)
            ∙ ap (λ (z : List Edge). written z old) (ap (λ (z : Edge). edges (so_far f n j) ++ (z ∷ [])) is ∙ (sym (map-append (λ (p : Part). p.edge) (so_far f n j) (f j ∷ [])) ∙ ap edges (sym w))));
      }

  pub edged_other : (row : List Edge) (count j : ℕ) → j < n → Edged f n old row count j → (get_or firsts j 0 ≡ j → ⊥) → Edged f n old row count (j + 1)
  edged_other row count j h E own = let w = other-welded f n firsts long F j h own in record { count-is = E.count-is ∙ ap length (sym w); row-is = E.row-is ∙ ap (λ (z : List Part). written (edges z) old) (sym w) }
