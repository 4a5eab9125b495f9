-- The last node at a place, by a sorted row; and what cells ask for it.
use Rattle.std.proofs.Common.{◌≡◌, ℕ, suc, ◌+◌, ◌-◌, ◌<◌, ◌≤◌, max, Bool, true, false, not, nat_eq, eqb, List, [], ◌∷◌, ◌++◌, length, get_or, set, drop, filter, slice_get, Option, None, Some, refl, sym, ap, ◌∙◌, subst, ⊎_elim, arith, length-drop, get_or-drop, ltb-true, eqb-true, eq-eqb, if◌then◌else◌}
use Rattle.std.specs.List.{starts_with}
use Rattle.std.specs.Ordering.{is_lt, nat_cmp}
use Rattle.std.specs.Cmp.Lexicographic.{slice_cmp}
use Rattle.std.proofs.lemmas.Bool.{true≢false, cases_Bool, ne_eqb}
use Rattle.std.proofs.lemmas.Bool.Decides.{nat_tests}
use Rattle.std.proofs.lemmas.List.Folds.{list_any_at}
use Rattle.std.proofs.lemmas.List.{get_or-set_same, get_or-set_other}
use mathlib.Core.Logic.{by_cases}
use native.Mathlib.Decide.{ℕ_discrete}
use Rattle.sorted.proofs.Ends.{none_passes, found_passes, last_greatest}
use Rattle.net.specs.Net.{position_of, has, MeshNode, NetCell, Way, same_place, nth, nowhere, is_last, gap, hung, extent, hangs_at, box_of, size_of}
use Rattle.net.proofs.Positions.{has-at, position-hit}
use Rattle.net.proofs.Keys.{both, both_of, bool-ext}
use Rattle.net.proofs.Last.{asks, hung-snoc}
use Rattle.weights.specs.Lines.{place_of, entry_of, Lined, at, IsLast, LastIs, raised, Reaches}
use Rattle.weights.proofs.Order.{num, upto-entries}
use Rattle.weights.proofs.Neighbours.{here, spot}
use Rattle.weights.proofs.Facing.{one_place, place-one}

-- ---- the last node at a place

begins : (a b c i : ℕ) → starts_with nat_eq (a ∷ b ∷ c ∷ i ∷ []) (a ∷ b ∷ c ∷ []) ≡ true
begins a b c i = grind (arith, nat_tests)

begins-all : (a b c i x y z : ℕ) → starts_with nat_eq (a ∷ b ∷ c ∷ i ∷ []) (x ∷ y ∷ z ∷ []) ≡ true → (a ≡ x) × (b ≡ y) × (c ≡ z)
begins-all a b c i x y z h = (grind (arith, nat_tests), grind (arith, nat_tests), grind (arith, nat_tests))

module _ (ns : List MeshNode) (row : List (List ℕ)) (L : Lined ns row) (x y z : ℕ) where
  abbrev test : List ℕ → Bool
  test e = starts_with nat_eq e (x ∷ y ∷ z ∷ [])

  entry-begins : (i : ℕ) → place_of (nth ns i) ≡ x ∷ y ∷ z ∷ [] → test (entry_of ns i) ≡ true
  entry-begins i e = subst (λ (k : List ℕ). starts_with nat_eq (entry_of ns i) k ≡ true) e (begins (nth ns i).layer (nth ns i).x (nth ns i).y i)

  place-is : (i : ℕ) → test (entry_of ns i) ≡ true → place_of (nth ns i) ≡ x ∷ y ∷ z ∷ []
  place-is i t = let b = begins-all (nth ns i).layer (nth ns i).x (nth ns i).y i x y z t in λ j. b.0 j ∷ b.1 j ∷ b.2 j ∷ []

  -- a node that stands there has an entry that passes
  record Shown (i : ℕ) : Type 0 where
    place : ℕ
    inside : place < length row
    is : at row place ≡ entry_of ns i
    passes : test (at row place) ≡ true

  shown : (i : ℕ) → i < length ns → place_of (nth ns i) ≡ x ∷ y ∷ z ∷ [] → Shown i
  shown i h e =
      let s = spot ns row L i h in
      let q : at row s.place ≡ entry_of ns i = (here ns row L s.place s.inside).1 ∙ ap (entry_of ns) s.is in
      record { place = s.place; inside = s.inside; is = q; passes = ap test q ∙ entry-begins i e }

  pub last_is : (o : Option (List ℕ)) → o ≡ slice_get (filter test row) (length (filter test row) - 1) → LastIs ns (x ∷ y ∷ z ∷ []) (elim o [ None ↦ None | Some e ↦ Some (num e 3) ])
  last_is None s = λ i h e.
      let w = shown i h e in
      true≢false (sym w.passes ∙ none_passes row L.sorted test (length (filter test row) - 1) (omega arith) (sym s) w.place w.inside)
  last_is (Some e) s =
      let f = found_passes row L.sorted test (length (filter test row) - 1) e (sym s) in
      let k = f.there in
      let w = here ns row L k.place k.inside in
      let is : e ≡ entry_of ns (num e 3) = subst (λ (u : List ℕ). u ≡ entry_of ns (num u 3)) k.is w.1 in
      let p = place-is (num e 3) (sym (ap test is) ∙ f.passes) in
      record {
        inside = subst (λ (u : List ℕ). num u 3 < length ns) k.is w.0;
        there = p;
        last = λ i h q.
            let v = shown i h q in
            let u = upto-entries (entry_of ns i) (entry_of ns (num e 3)) refl refl
            (subst (λ t. is_lt (slice_cmp nat_cmp t (entry_of ns i)) ≡ false) is (subst (λ t. is_lt (slice_cmp nat_cmp e t) ≡ false) v.is (last_greatest row L.sorted test e (sym s) v.place v.inside v.passes))) in
            let r : place_of (nth ns i) ≡ place_of (nth ns (num e 3)) = q ∙ sym p in
            u.number (ap (λ (l : List ℕ). num l 0) r) (ap (λ (l : List ℕ). num l 1) r) (ap (λ (l : List ℕ). num l 2) r);
      }

-- ---- the rules' last node at a place

-- a later node at the place
module _ (n : List MeshNode) (m : MeshNode) (i : ℕ) where
  later-yes : (j : ℕ) → i < j → j < length n → same_place (nth n j) m ≡ true → has same_place (drop (suc i) n) m ≡ true
  unfolding has
  later-yes j h g e =
      let p : suc i + (j - suc i) ≡ j = omega arith in
      list_any_at (λ (z : MeshNode). same_place z m) (drop (suc i) n) (j - suc i) nowhere (omega (arith, length-drop (suc i) n))
      (ap (λ (z : MeshNode). same_place z m) (get_or-drop (suc i) n (j - suc i) nowhere ∙ ap (nth n) p) ∙ e)

  later-no : has same_place (drop (suc i) n) m ≡ true → (j : ℕ) × ((i < j) × (j < length n) × (same_place (nth n j) m ≡ true))
  later-no e =
      let k = position_of same_place (drop (suc i) n) m in
      let h = ltb-true k (length (drop (suc i) n)) (sym (has-at same_place (drop (suc i) n) m) ∙ e) in (
        suc i + k,
        (
          omega arith,
          omega (arith, length-drop (suc i) n),
          ap (λ (z : MeshNode). same_place z m) (sym (get_or-drop (suc i) n k nowhere)) ∙ position-hit same_place (drop (suc i) n) m nowhere h,
        ),
      )

module _ (ns : List MeshNode) (m : MeshNode) where
  is_last-none : LastIs ns (place_of m) None → (i : ℕ) → i < length ns → is_last ns m i ≡ false
  is_last-none none i h =
      ⊎_elim (λ (t : is_last ns m i ≡ true). absurd (none i h (one_place (nth ns i) m (both (same_place (nth ns i) m) (not (has same_place (drop (suc i) ns) m)) t).0))) (λ e. e)
      (cases_Bool (is_last ns m i))

  is_last-some : (k : ℕ) → IsLast ns (place_of m) k → (i : ℕ) → i < length ns → is_last ns m i ≡ eqb i k
  is_last-some k L i h = bool-ext (is_last ns m i) (eqb i k) yes no
    where
      yes : is_last ns m i ≡ true → eqb i k ≡ true
      yes e =
          let t = both (same_place (nth ns i) m) (not (has same_place (drop (suc i) ns) m)) e in
          let u = L.last i h (one_place (nth ns i) m t.0) in
          by_cases (ℕ_discrete i k) (λ (q : i ≡ k). eq-eqb i k q)
          (λ q. (let y = later-yes ns m i k (omega arith) L.inside (place-one (nth ns k) m L.there) in absurd (true≢false (sym t.1 ∙ ap not y))))

      no : eqb i k ≡ true → is_last ns m i ≡ true
      no e =
          let q = eqb-true i k e in
          let s = place-one (nth ns i) m (subst (λ (z : ℕ). place_of (nth ns z) ≡ place_of m) (sym q) L.there) in
          both_of (same_place (nth ns i) m) (not (has same_place (drop (suc i) ns) m)) s
          (⊎_elim (λ (t : has same_place (drop (suc i) ns) m ≡ true). (let l = later-no ns m i t in let g = l.1.0 in let w = L.last l.0 l.1.1 (one_place (nth ns l.0) m l.1.2) in absurd (omega arith)))
          (λ t. ap not t) (cases_Bool (has same_place (drop (suc i) ns) m)))

-- ---- a cell more

-- the extents so far: the gap, and what cells ask
abbrev pub Raised : Way → List MeshNode → List NetCell → List ℕ → Type 0
Raised w ns cs xs = (i : ℕ) → i < length ns → get_or xs i 0 ≡ max (gap w ns i) (hung w ns i cs)

module _ (w : Way) (ns : List MeshNode) (cs : List NetCell) (c : NetCell) (xs : List ℕ) (room : length ns ≤ length xs) (R : Raised w ns cs xs) where
  asked : (b : Bool) (i : ℕ) → is_last ns (hangs_at w ns c) i ≡ b → asks w ns i c ≡ (if b then size_of w (box_of ns c) else 0)
  asked b i e = ap {B = ℕ} (λ (t : Bool). if t then size_of w (box_of ns c) else 0) e

  most : (a b d e f g : ℕ) → a ≡ max b e → b ≡ max d f → g ≡ max f e → a ≡ max d g
  most a b d e f g p q r = omega arith

  raised_more : (o : Option ℕ) → LastIs ns (place_of (hangs_at w ns c)) o → Raised w ns (cs ++ (c ∷ [])) (raised xs o (size_of w (box_of ns c)))
  raised_more None L = λ i h.
      let a = asked false i (is_last-none ns (hangs_at w ns c) L i h) in
      most _ _ _ _ _ _ (let z : get_or xs i 0 ≡ max (get_or xs i 0) 0 = omega arith in z) (R i h) (hung-snoc w ns i cs c ∙ ap (max (hung w ns i cs)) a)
  raised_more (Some k) L = λ i h.
      let s = size_of w (box_of ns c) in
      let l = L.inside in
      by_cases (ℕ_discrete k i)
      (λ (q : k ≡ i).
      let a = asked true i (is_last-some ns (hangs_at w ns c) k L i h ∙ eq-eqb i k (sym q)) in
      most _ _ _ _ _ _
      (ap (λ (z : ℕ). get_or (set xs k (max (get_or xs k 0) s)) z 0) (sym q) ∙ (get_or-set_same xs k (max (get_or xs k 0) s) 0 (omega arith) ∙ ap (λ (y : ℕ). max (get_or xs y 0) s) q))
      (R i h) (hung-snoc w ns i cs c ∙ ap (max (hung w ns i cs)) a))
      (λ q.
      let a = asked false i (is_last-some ns (hangs_at w ns c) k L i h ∙ ne_eqb i k (λ e. q (sym e))) in
      most _ _ _ _ _ _
      (get_or-set_other xs k i (max (get_or xs k 0) s) 0 (λ e. q (sym e)) ∙ (let z : get_or xs i 0 ≡ max (get_or xs i 0) 0 = omega arith in z))
      (R i h) (hung-snoc w ns i cs c ∙ ap (max (hung w ns i cs)) a))

  pub raised_on : (o : Option ℕ) → LastIs ns (place_of (hangs_at w ns c)) o → (s : ℕ) → s ≡ size_of w (box_of ns c) → (ys : List ℕ) → ys ≡ raised xs o s → (ds : List NetCell) → ds ≡ cs ++ (c ∷ []) → Raised w ns ds ys
  raised_on o L s is ys y ds d = subst (λ (l : List NetCell). Raised w ns l ys) (sym d) (subst (Raised w ns (cs ++ (c ∷ []))) (sym (y ∙ ap (raised xs o) is)) (raised_more o L))

-- before the first cell
pub raised_none : (w : Way) (ns : List MeshNode) (xs : List ℕ) → ((i : ℕ) → i < length ns → get_or xs i 0 ≡ gap w ns i) → Raised w ns [] xs
unfolding hung
raised_none w ns xs g i h = g i h ∙ (let z : gap w ns i ≡ max (gap w ns i) 0 = omega arith in z)

-- after the last one
pub raised_all : (w : Way) (ns : List MeshNode) (cs : List NetCell) (xs : List ℕ) → Raised w ns cs xs → Reaches w ns cs xs
unfolding extent
raised_all w ns cs xs R i h = R i h
