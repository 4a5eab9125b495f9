-- The sides of cells by a sorted row: the first cell that has a pair of nodes, and so its sheet resistance.
use Rattle.std.proofs.Common.{◌≡◌, ℕ, zero, suc, ◌+◌, ◌*◌, ◌/◌, ◌%◌, ◌<◌, min, max, Bool, true, false, nat_eq, List, [], ◌∷◌, map, length, get_or, slice_get, filter, Option, None, Some, refl, sym, ap, ◌∙◌, subst, ⊎_elim, arith, Contains, zero-add}
use Rattle.std.specs.List.{range_with_len, starts_with}
use Rattle.std.specs.Prelude.{option_map}
use Rattle.std.specs.Ordering.{is_lt, nat_cmp}
use Rattle.std.specs.Cmp.Lexicographic.{slice_cmp}
use Rattle.std.proofs.lemmas.Bool.{true≢false, cases_Bool}
use Rattle.std.proofs.lemmas.Bool.Decides.{nat_tests}
use Rattle.std.proofs.lemmas.Option.{slice_get-get_or, slice_get_past}
use Rattle.std.proofs.lemmas.List.{get_or_default}
use Rattle.std.proofs.lemmas.List.Sums.{position_or_len_is}
use Rattle.std.proofs.lemmas.List.Folds.{find_at}
use Rattle.std.proofs.lemmas.List.FromFn.{length-map-range_with_len, get_or-map-range_with_len}
use Rattle.std.proofs.lemmas.List.Elements.{All-from_get_or, Contains-get_or}
use Rattle.std.proofs.lemmas.List.Sorted.{All-permutation, Contains-permutation}
use Rattle.sorted.proofs.Ends.{none_passes, found_passes, first_least}
use Rattle.net.specs.Net.{NetCell, pair_is, is_side, sheet_of}
use Rattle.net.proofs.Keys.{either, left-of, right_of}
use Rattle.net_rows.specs.Nets.{nth_cell, blank_cell, pair_of}
use Rattle.weights.specs.Sides.{round, side_pair, side_of, side_entry, Sided, IsFirstCell, FirstCellIs}
use Rattle.weights.proofs.Order.{num, upto-entries}

begins : (a b c d : ℕ) → starts_with nat_eq (a ∷ b ∷ c ∷ d ∷ []) (a ∷ b ∷ []) ≡ true
begins a b c d = grind (arith, nat_tests)

begins-all : (a b c d x y : ℕ) → starts_with nat_eq (a ∷ b ∷ c ∷ d ∷ []) (x ∷ y ∷ []) ≡ true → (a ≡ x) × (b ≡ y)
begins-all a b c d x y h = (grind (arith, nat_tests), grind (arith, nat_tests))

-- ---- the first cell of a pair

module _ (cs : List NetCell) (row : List (List ℕ)) (S : Sided cs row) where
  abbrev all : List (List ℕ)
  all = map (side_entry cs) (range_with_len 0 (4 * length cs))

  abbrev IsEntry : List ℕ → Type 0
  IsEntry e = (num e 2 < length cs) × (num e 3 < 4) × (e ≡ side_of cs (num e 2) (num e 3))

  here : (k : ℕ) → k < length row → IsEntry (get_or row k [])
  here k h = All-permutation IsEntry all row S.same (All-from_get_or IsEntry all [] one) k [] h
    where
      one : (i : ℕ) → i < length all → IsEntry (get_or all i [])
      one i g =
          let m = length-map-range_with_len (side_entry cs) 0 (4 * length cs) in
          let e = get_or-map-range_with_len (side_entry cs) 0 (4 * length cs) i i [] (omega arith) (zero-add i) in
          subst IsEntry (sym e) (omega arith, omega arith, refl)

  -- each side has a place in the row
  record Spot (v s : ℕ) : Type 0 where
    place : ℕ
    inside : place < length row
    is : get_or row place [] ≡ side_of cs v s

  spot : (v s : ℕ) → v < length cs → s < 4 → Spot v s
  spot v s h g =
      let i = 4 * v + s in
      let m = length-map-range_with_len (side_entry cs) 0 (4 * length cs) in
      let e = get_or-map-range_with_len (side_entry cs) 0 (4 * length cs) (4 * v + s) (4 * v + s) [] (omega arith) (zero-add (4 * v + s)) in
      let x : (4 * v + s) / 4 ≡ v = omega arith in
      let y : (4 * v + s) % 4 ≡ s = omega arith in
      let q : side_entry cs (4 * v + s) ≡ side_of cs v s = λ t. side_of cs (x t) (y t) in
      let c = Contains-permutation all row (side_of cs v s) S.same (subst (Contains all) (e ∙ q) (Contains-get_or all (4 * v + s) [] (omega arith))) in
      record { place = c.0; inside = c.1; is = get_or_default row c.0 [] (side_of cs v s) c.1 ∙ c.2 }

  module _ (a b : ℕ) where
    abbrev test : List ℕ → Bool
    test e = starts_with nat_eq e (min a b ∷ max a b ∷ [])

    side-begins : (v s : ℕ) → side_pair cs v s ≡ pair_of a b → test (side_of cs v s) ≡ true
    side-begins v s e = subst (λ (k : List ℕ). starts_with nat_eq (side_of cs v s) k ≡ true) e (begins (num (side_of cs v s) 0) (num (side_of cs v s) 1) v s)

    pair-is : (v s : ℕ) → test (side_of cs v s) ≡ true → side_pair cs v s ≡ pair_of a b
    pair-is v s t = let w = begins-all (num (side_of cs v s) 0) (num (side_of cs v s) 1) v s (min a b) (max a b) t in λ j. w.0 j ∷ w.1 j ∷ []

    pub first_is : (o : Option (List ℕ)) → o ≡ slice_get (filter test row) 0 → FirstCellIs cs a b (elim o [ None ↦ None | Some e ↦ Some (num e 2) ])
    first_is None s = λ u q h g e.
        let w = spot u q h g in
        true≢false (sym (ap test w.is ∙ side-begins u q e) ∙ none_passes row S.sorted test 0 (omega arith) (sym s) w.place w.inside)
    first_is (Some e) s =
        let f = found_passes row S.sorted test 0 e (sym s) in
        let k = f.there in
        let w = subst IsEntry k.is (here k.place k.inside) in
        record {
          inside = w.0;
          side = num e 3;
          is_side = w.1;
          there = pair-is (num e 2) (num e 3) (sym (ap test w.2) ∙ f.passes);
          first = λ u q h g p.
              let x = spot u q h g in
              let t = ap test x.is ∙ side-begins u q p in
              let y = upto-entries (side_of cs (num e 2) (num e 3)) (side_of cs u q) refl refl
              (subst (λ t. is_lt (slice_cmp nat_cmp (side_of cs u q) t) ≡ false) w.2 (subst (λ t. is_lt (slice_cmp nat_cmp t e) ≡ false) x.is (first_least row S.sorted test e (sym s) x.place x.inside t))) in
              let r : side_pair cs (num e 2) (num e 3) ≡ side_pair cs u q = pair-is (num e 2) (num e 3) (sym (ap test w.2) ∙ f.passes) ∙ sym p in
              y.place (ap (λ (z : List ℕ). num z 0) r) (ap (λ (z : List ℕ). num z 1) r);
        }

-- ---- its sheet resistance

either_way : (a b c d : ℕ) → pair_is a b c d ≡ true → pair_of a b ≡ pair_of c d
either_way a b c d h = let p : min a b ≡ min c d = grind (arith, nat_tests) in let q : max a b ≡ max c d = grind (arith, nat_tests) in λ j. p j ∷ q j ∷ []

either-way-back : (a b c d : ℕ) → pair_of a b ≡ pair_of c d → pair_is a b c d ≡ true
either-way-back a b c d e =
    let p : min a b ≡ min c d = ap (λ (z : List ℕ). num z 0) e in
    let q : max a b ≡ max c d = ap (λ (z : List ℕ). num z 1) e in
    grind (arith, nat_tests)

-- a side of a cell, by its pair
module _ (c : NetCell) (a b : ℕ) where
  abbrev pair_at : ℕ → List ℕ
  pair_at s = pair_of (num (round c.corners) s) (num (round c.corners) ((s + 1) % 4))

  side-is : is_side c a b ≡ true → (s : ℕ) × (s < 4) × (pair_at s ≡ pair_of a b)
  side-is h =
      let sw = c.corners.southwest in
      let se = c.corners.southeast in
      let ne = c.corners.northeast in
      let nw = c.corners.northwest in
      ⊎_elim (λ (p : pair_is sw se a b ≡ true). (0, omega arith, either_way sw se a b p))
      (λ h. ⊎_elim (λ (p : pair_is se ne a b ≡ true). (1, omega arith, either_way se ne a b p))
      (λ h. ⊎_elim (λ (p : pair_is ne nw a b ≡ true). (2, omega arith, either_way ne nw a b p)) (λ (p : pair_is nw sw a b ≡ true). (3, omega arith, either_way nw sw a b p)) (either _ _ h))
      (either _ _ h))
      (either _ _ h)

  is-side : (s : ℕ) → s < 4 → pair_at s ≡ pair_of a b → is_side c a b ≡ true
  is-side zero h e = left-of _ _ (either-way-back c.corners.southwest c.corners.southeast a b e)
  is-side (suc zero) h e = right_of _ _ (left-of _ _ (either-way-back c.corners.southeast c.corners.northeast a b e))
  is-side (suc (suc zero)) h e = right_of _ _ (right_of _ _ (left-of _ _ (either-way-back c.corners.northeast c.corners.northwest a b e)))
  is-side (suc (suc (suc zero))) h e = right_of (pair_is c.corners.southwest c.corners.southeast a b) _ (right_of (pair_is c.corners.southeast c.corners.northeast a b) _ (right_of (pair_is c.corners.northeast c.corners.northwest a b) _ (either-way-back c.corners.northwest c.corners.southwest a b e)))
  is-side (suc (suc (suc (suc s)))) h e = absurd (omega arith)

-- the first of the list that has the pair
sheet-none : (cs : List NetCell) (d : NetCell) (a b : ℕ) → ((u : ℕ) → u < length cs → is_side (get_or cs u d) a b ≡ false) → sheet_of cs a b ≡ None
unfolding sheet_of
sheet-none cs d a b h =
    let k = position_or_len_is (λ c. is_side c a b) cs (length cs) d (omega arith) h (λ l. absurd (omega arith)) in
    ap (option_map (λ c. c.sheet)) (find_at (λ c. is_side c a b) cs ∙ slice_get_past cs _ (omega arith))

sheet-some : (cs : List NetCell) (d : NetCell) (a b v : ℕ) → v < length cs → is_side (get_or cs v d) a b ≡ true → ((u : ℕ) → u < v → is_side (get_or cs u d) a b ≡ false) → sheet_of cs a b ≡ Some (get_or cs v d).sheet
unfolding sheet_of
sheet-some cs d a b v h t f =
    let k = position_or_len_is (λ c. is_side c a b) cs v d (omega arith) f (λ l. t) in
    ap (option_map (λ c. c.sheet)) (find_at (λ c. is_side c a b) cs ∙ ap (slice_get cs) k ∙ slice_get-get_or cs v d h)

module _ (cs : List NetCell) (a b : ℕ) where
  no-side : (u : ℕ) → ((s : ℕ) → s < 4 → side_pair cs u s ≡ pair_of a b → ⊥) → is_side (nth_cell cs u) a b ≡ false
  no-side u n =
      ⊎_elim (λ (t : is_side (nth_cell cs u) a b ≡ true). (let s = side-is (nth_cell cs u) a b t in absurd (n s.0 s.1 s.2))) (λ e. e) (cases_Bool (is_side (nth_cell cs u) a b))

  pub sheet-missing : ((u s : ℕ) → u < length cs → s < 4 → side_pair cs u s ≡ pair_of a b → ⊥) → sheet_of cs a b ≡ None
  sheet-missing n = sheet-none cs blank_cell a b (λ u h. no-side u (λ s g e. n u s h g e))

  pub sheet-found : (v : ℕ) (d : NetCell) → IsFirstCell cs a b v → sheet_of cs a b ≡ Some (get_or cs v d).sheet
  sheet-found v d F =
      let h = F.inside in
      sheet-some cs blank_cell a b v h (is-side (nth_cell cs v) a b F.side F.is_side F.there)
      (λ u g. no-side u (λ s k e. (let w = F.first u s (omega arith) k e in omega arith)))
      ∙ ap (λ (c : NetCell). Some c.sheet) (get_or_default cs v blank_cell d h)
