-- Slots listed one by one, but none that has the whole side of the one before: their parts weld to the same.
use Rattle.std.proofs.Common.{◌≡◌, refl, sym, ap, ◌∙◌, ⊎_elim, Bool, true, ◌==◌, eqb-true, List, [], ◌∷◌, map, ℕ, ◌+◌, ◌-◌, ◌/◌, ◌%◌, ◌<◌, ◌≤◌, arith, length, take, get_or, set, subst, Option, None, Some, Float}
use Rattle.std.specs.Option.{is_none}
use Rattle.std.proofs.lemmas.Bool.{cases_lt}
use Rattle.std.proofs.lemmas.Grind.{get_or-set_at}
use Rattle.std.proofs.lemmas.List.{length-map, get_or-map, get_or-set_other, take_more_set}
use Rattle.std.proofs.lemmas.List.FromFn.{fill_by_all, map-range_with_len_more}
use Rattle.net.specs.Net.{weld}
use Rattle.net.specs.First.{Part, part, same_part}
use Rattle.net.proofs.Keys.{both}
use Rattle.net.proofs.Flat.{weld_twice}
use Rattle.net.proofs.Weld.{weld-append, map_snoc}
use Rattle.bare_net.specs.declared.sides.Sides.{Sides}
use Rattle.bare_net.specs.declared.parts.Parts.{Parts}
use Rattle.bare_net.specs.Sides.{side_at, slot_of, leaf_in, middle_in, node_so_far, half_edge, repeats, edge_at}
use Rattle.bare_net.specs.Edges.{slot_count, part_at, parts_from, parts_in, edges_in}
use Rattle.bare_net.specs.Parts.{part_of, part_count, edges_among}

-- ---- a part twice

module _ (f : ℕ → Part) where
  one_more : (j : ℕ) → weld same_part [] (parts_from f (j + 1)) ≡ weld same_part (weld same_part [] (parts_from f j)) (f j ∷ [])
  one_more j =
      ap (weld same_part []) (map-range_with_len_more f 0 j j (let e : 0 + j ≡ j = omega arith in e)) ∙ weld-append same_part [] (parts_from f j) (f j ∷ [])

  once_more : (i : ℕ) → f (i + 1) ≡ f i → weld same_part [] (parts_from f (i + 1 + 1)) ≡ weld same_part [] (parts_from f (i + 1))
  once_more i e =
      let w = weld same_part [] (parts_from f i) in
      one_more (i + 1)
      ∙ (ap (λ (x : Part). weld same_part (weld same_part [] (parts_from f (i + 1))) (x ∷ [])) e
      ∙ (ap (λ (l : List Part). weld same_part l (f i ∷ [])) (one_more i)
      ∙ (sym (weld-append same_part w (f i ∷ []) (f i ∷ [])) ∙ (sym (weld_twice w (f i)) ∙ sym (one_more i)))))

-- ---- the second slot of a whole side

half_none : (o : Option ℕ) (b c : Bool) (x y : ℕ) (r : Float) → is_none o ≡ true → half_edge b o x y r ≡ half_edge c o x y r
half_none None b c x y r e = refl
half_none (Some m) b c x y r e = absurd (cc e)

module _ (s : Sides) where
  abbrev part_on : ℕ → ℕ → Bool → Part
  part_on v k second = part (leaf_in s v).piece (edge_at s (record { leaf = v; side = side_at k; second = second }))

  whole : (v k : ℕ) (b c : Bool) → is_none (node_so_far s v (middle_in s v (side_at k))) ≡ true → part_on v k b ≡ part_on v k c
  unfolding edge_at
  whole v k b c e = ap (part (leaf_in s v).piece) (half_none _ b c _ _ _ e)

  again : (j : ℕ) → repeats s (slot_of j) ≡ true → (0 < j) × (part_at s j ≡ part_at s (j - 1))
  again j t =
      let b = both _ _ t in
      let odd : j % 2 ≡ 1 = eqb-true (j % 2) 1 b.0 in
      let leaf : j / 8 ≡ (j - 1) / 8 = omega arith in
      let side : j % 8 / 2 ≡ (j - 1) % 8 / 2 = omega arith in (
        omega arith,
        whole (j / 8) (j % 8 / 2) (j % 2 == 1) ((j - 1) % 2 == 1) b.1 ∙ (λ i. part_on (leaf i) (side i) ((j - 1) % 2 == 1)),
      )

-- ---- the slots listed among the first j

pub record ListedTo (s : Sides) (slots : List ℕ) (count j : ℕ) : Type 0 where
  pub few : count ≤ j
  pub known : (i : ℕ) → i < count → get_or slots i 0 < slot_count s
  pub alike : weld same_part [] (map (part_at s) (take count slots)) ≡ weld same_part [] (parts_from (part_at s) j)

pub listed_none : (s : Sides) (slots : List ℕ) → ListedTo s slots 0 0
listed_none s slots = record { few = omega arith; known = λ i h. absurd (omega arith); alike = refl }

pub listed_one : (s : Sides) (slots : List ℕ) (count j : ℕ) → ListedTo s slots count j → j < slot_count s → count < length slots → ListedTo s (set slots count j) (count + 1) (j + 1)
listed_one s slots count j L h room =
    let f = part_at s in
    record {
      few = (let w = L.few in omega arith);
      known = λ i k. ⊎_elim
          (λ (l : i < count). subst (λ (x : ℕ). x < slot_count s) (sym (get_or-set_other slots count i j 0 (λ e. omega arith))) (L.known i l))
          (λ (l : count ≤ i). subst (λ (x : ℕ). x < slot_count s) (sym (get_or-set_at slots count i j 0 (omega arith) room)) h)
          (cases_lt i count);
      alike = ap (λ (z : List ℕ). weld same_part [] (map f z)) (take_more_set slots count j room)
          ∙ (ap (weld same_part []) (map_snoc f (take count slots) j)
          ∙ (weld-append same_part [] (map f (take count slots)) (f j ∷ [])
          ∙ (ap (λ (z : List Part). weld same_part z (f j ∷ [])) L.alike ∙ sym (one_more f j))));
    }

pub listed_again : (s : Sides) (slots : List ℕ) (count j : ℕ) → ListedTo s slots count j → repeats s (slot_of j) ≡ true → ListedTo s slots count (j + 1)
listed_again s slots count j L t =
    let f = part_at s in
    let a = again s j t in
    let p = a.0 in
    let e : j - 1 + 1 ≡ j = omega arith in
    let same : f (j - 1 + 1) ≡ f (j - 1) = ap f e ∙ a.1 in
    record {
      few = (let w = L.few in omega arith);
      known = L.known;
      alike = L.alike ∙ sym (subst (λ (i : ℕ). weld same_part [] (parts_from f (i + 1)) ≡ weld same_part [] (parts_from f i)) e (once_more f (j - 1) same));
    }

-- ---- the edges among parts that weld to the same as all

pub among_all : (p : Parts) → weld same_part [] (map (part_at p.sides.now) p.slots.now) ≡ weld same_part [] (parts_in p.sides.now) → edges_among p ≡ edges_in p.sides.now
unfolding edges_among edges_in
among_all p e =
    let f = part_at p.sides.now in
    let slots = p.slots.now in
    let d = f 0 in
    let row = fill_by_all (part_of p) (map f slots) (part_count p) d (length-map slots f) (λ j h. get_or-map f slots j 0 d h) in
    ap (λ (z : List Part). map (λ (q : Part). q.edge) z) (ap (weld same_part []) (sym row) ∙ e)
