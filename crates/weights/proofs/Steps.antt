-- The walk back along a row of entries in order that writes the step from each node.
use Rattle.std.proofs.Common.{◌≡◌, ℕ, ◌+◌, ◌<◌, ◌≤◌, true, false, ◌&&◌, ◌==◌, List, [], ◌∷◌, length, set, refl, sym, ap, ◌∙◌, subst, ⊎_elim, arith}
use Rattle.std.proofs.lemmas.Bool.{cases_lt}
use Rattle.std.proofs.lemmas.Bool.Decides.{nat_tests}
use Rattle.std.proofs.lemmas.List.{get_or-set_same, get_or-set_other}
use Rattle.net.specs.Net.{MeshNode, nth}
use Rattle.weights.specs.Lines.{at, place_of, Lined, IsLast, IsStep, Stepped, rise_of, shares_place}
use Rattle.weights.proofs.Order.{num, Upto}
use Rattle.weights.proofs.Neighbours.{here, spot, stands, apart}

abbrev pub StepIs : List MeshNode → ℕ → List ℕ → Type 0
StepIs ns i s = 0 < num s 0 → IsStep ns i (num s 0) (num s 1)

-- the steps of the entries from the k-th on are written; that of the k-th is at hand, and the last node of its place
pub record Stepping (ns : List MeshNode) (row steps : List (List ℕ)) (step : List ℕ) (last k : ℕ) : Type 0 where
  pub done : (l : ℕ) → k ≤ l → l < length row → StepIs ns (num (at row l) 3) (at steps (num (at row l) 3))
  pub at-hand : k < length row → StepIs ns (num (at row k) 3) step
  pub ends : k < length row → IsLast ns (place_of (nth ns (num (at row k) 3))) last

-- nothing behind an entry of another place is of the place of the one before
not_there : (e f x : List ℕ) → (num f 0 == num e 0 && (num f 1 == num e 1 && num f 2 == num e 2)) ≡ false → Upto e f → Upto f x → num x 0 ≡ num e 0 → num x 1 ≡ num e 1 → num x 2 ≡ num e 2 → ⊥
not_there e f x s u w p q r = let a = u.layer in let b = u.line in let c = u.place in let d = w.layer in let g = w.line in let h = w.place in grind (arith, nat_tests)

module _ (ns : List MeshNode) (row : List (List ℕ)) (L : Lined ns row) where
  abbrev who : ℕ → ℕ
  who k = num (at row k) 3

  -- what the k-th entry says of its node
  says : (j k : ℕ) → k < length row → num (at row k) j ≡ num ((nth ns (who k)).layer ∷ (nth ns (who k)).x ∷ (nth ns (who k)).y ∷ who k ∷ []) j
  says j k h = ap (λ (e : List ℕ). num e j) (here ns row L k h).1

  -- ---- a step and the last of its place, by those of the next entry

  module _ (k : ℕ) (h : k < length row) where
    -- at the same place
    one_spot : shares_place row k ≡ true → (k + 1 < length row) × (place_of (nth ns (who (k + 1))) ≡ place_of (nth ns (who k)))
    one_spot s =
        let in_row : k + 1 < length row = grind (arith, nat_tests) in
        let a : num (at row (k + 1)) 0 ≡ num (at row k) 0 = grind (arith, nat_tests) in
        let b : num (at row (k + 1)) 1 ≡ num (at row k) 1 = grind (arith, nat_tests) in
        let c : num (at row (k + 1)) 2 ≡ num (at row k) 2 = grind (arith, nat_tests) in
        (in_row, λ t. (sym (says 0 (k + 1) in_row) ∙ (a ∙ says 0 k h)) t ∷ (sym (says 1 (k + 1) in_row) ∙ (b ∙ says 1 k h)) t ∷ (sym (says 2 (k + 1) in_row) ∙ (c ∙ says 2 k h)) t ∷ [])

    step_kept : (s : List ℕ) → place_of (nth ns (who (k + 1))) ≡ place_of (nth ns (who k)) → StepIs ns (who (k + 1)) s → StepIs ns (who k) s
    step_kept s e S g =
        let T = S g in
        let a = ap (λ (p : List ℕ). num p 0) e in let b = ap (λ (p : List ℕ). num p 1) e in let c = ap (λ (p : List ℕ). num p 2) e in
        record {
          nearest = λ q i l m n. (let r = T.nearest q i (omega arith) (omega arith) (omega arith) in omega arith);
          last = subst (λ (p : List ℕ). IsLast ns (num p 0 ∷ num p 1 ∷ (num p 2 + num s 0) ∷ []) (num s 1)) e T.last;
        }

    -- at another
    last-here : shares_place row k ≡ false → IsLast ns (place_of (nth ns (who k))) (who k)
    last-here s = record {
      inside = (here ns row L k h).0;
      there = refl;
      last = λ i g e.
          let t = spot ns row L i g in let l = t.place in let b = t.inside in
          let n = t.is in
          let f : place_of (nth ns (who l)) ≡ place_of (nth ns (who k)) = subst (λ (z : ℕ). place_of (nth ns z) ≡ place_of (nth ns (who k))) (sym n) e in
          let p : num (at row l) 0 ≡ num (at row k) 0 = says 0 l b ∙ (ap (λ (z : List ℕ). num z 0) f ∙ sym (says 0 k h)) in
          let q : num (at row l) 1 ≡ num (at row k) 1 = says 1 l b ∙ (ap (λ (z : List ℕ). num z 1) f ∙ sym (says 1 k h)) in
          let r : num (at row l) 2 ≡ num (at row k) 2 = says 2 l b ∙ (ap (λ (z : List ℕ). num z 2) f ∙ sym (says 2 k h)) in
          ⊎_elim
          (λ (m : k < l). (let i : k + 1 < length row = omega arith in
          let x : (num (at row (k + 1)) 0 == num (at row k) 0 && (num (at row (k + 1)) 1 == num (at row k) 1 && num (at row (k + 1)) 2 == num (at row k) 2)) ≡ false = grind (arith, nat_tests) in
          absurd (not_there (at row k) (at row (k + 1)) (at row l) x (stands ns row L k (k + 1) (omega arith) i) (stands ns row L (k + 1) l (omega arith) b) p q r)))
          (λ (m : l ≤ k). (let u = stands ns row L l k m h in let v = u.number p q r in omega arith))
          (cases_lt k l);
    }

    risen : 0 < rise_of row k → (k + 1 < length row) × (num (at row (k + 1)) 0 ≡ num (at row k) 0) × (num (at row (k + 1)) 1 ≡ num (at row k) 1) × (num (at row (k + 1)) 2 ≡ num (at row k) 2 + rise_of row k)
    risen g = (grind (arith, nat_tests), grind (arith, nat_tests), grind (arith, nat_tests), grind (arith, nat_tests))

    step_new : (last : ℕ) → (k + 1 < length row → IsLast ns (place_of (nth ns (who (k + 1)))) last) → StepIs ns (who k) (rise_of row k ∷ last ∷ [])
    step_new last is g =
        let w = risen g in
        let m = w.0 in
        let a = says 0 k h in let b = says 1 k h in let c = says 2 k h in
        let d = says 0 (k + 1) m in let e = says 1 (k + 1) m in let f = says 2 (k + 1) m in
        let x : (nth ns (who (k + 1))).layer ≡ (nth ns (who k)).layer = omega arith in
        let y : (nth ns (who (k + 1))).x ≡ (nth ns (who k)).x = omega arith in
        let z : (nth ns (who (k + 1))).y ≡ (nth ns (who k)).y + rise_of row k = omega arith in
        record {
          nearest = λ q i lay lin more.
              let t = spot ns row L q i in let l = t.place in let n = t.inside in
              let A = subst (λ (j : ℕ). (nth ns j).layer ≡ (nth ns (who k)).layer) (sym t.is) lay in
              let B = subst (λ (j : ℕ). (nth ns j).x ≡ (nth ns (who k)).x) (sym t.is) lin in
              let C = ap (λ (j : ℕ). (nth ns j).y) t.is in
              let o = says 0 l n in let p = says 1 l n in let r = says 2 l n in
              ⊎_elim
              (λ (s : k < l). (let u = stands ns row L (k + 1) l (omega arith) n in let v = u.place (omega arith) (omega arith) in omega arith))
              (λ (s : l ≤ k). (let u = stands ns row L l k s h in let v = u.place (omega arith) (omega arith) in omega arith))
              (cases_lt k l);
          last = subst (λ (p : List ℕ). IsLast ns p last) (λ t. x t ∷ y t ∷ z t ∷ []) (is m);
        }

  -- ---- the walk

  module _ (steps : List (List ℕ)) (step : List ℕ) (last k j : ℕ) (k-is : k ≡ j + 1) (in_row : j < length row) (in_steps : who j < length steps) (W : Stepping ns row steps step last k) where
    wrote : (s : List ℕ) → StepIs ns (who j) s → (l : ℕ) → j ≤ l → l < length row → StepIs ns (who l) (at (set steps (who j) s) (who l))
    wrote s S l h g =
        ⊎_elim
        (λ (q : j < l). subst (StepIs ns (who l)) (sym (get_or-set_other steps (who j) (who l) s [] (λ e. apart ns row L j l q g (sym e)))) (W.done l (omega arith) g))
        (λ (q : l ≤ j). (let e : j ≡ l = omega arith in subst (λ (z : ℕ). StepIs ns (who z) (at (set steps (who j) s) (who z))) e (subst (StepIs ns (who j)) (sym (get_or-set_same steps (who j) s [] in_steps)) S)))
        (cases_lt j l)

    pub stepped_on : shares_place row j ≡ true → Stepping ns row (set steps (who j) step) step last j
    stepped_on s =
        let o = one_spot j in_row s in
        let S = step_kept j in_row step o.1 (subst (λ (z : ℕ). z < length row → StepIs ns (who z) step) k-is W.at-hand o.0) in
        record { done = wrote step S; at-hand = λ h. S; ends = λ h. subst (λ (p : List ℕ). IsLast ns p last) o.1 (subst (λ (z : ℕ). z < length row → IsLast ns (place_of (nth ns (who z))) last) k-is W.ends o.0) }

    pub stepped_away : shares_place row j ≡ false → Stepping ns row (set steps (who j) (rise_of row j ∷ last ∷ [])) (rise_of row j ∷ last ∷ []) (who j) j
    stepped_away s =
        let S = step_new j in_row last (subst (λ (z : ℕ). z < length row → IsLast ns (place_of (nth ns (who z))) last) k-is W.ends) in
        record { done = wrote (rise_of row j ∷ last ∷ []) S; at-hand = λ h. S; ends = λ h. last-here j in_row s }

  pub stepped_all : (steps : List (List ℕ)) (step : List ℕ) (last k : ℕ) → k ≤ 0 → Stepping ns row steps step last k → Stepped ns steps
  stepped_all steps step last k h W i g = let t = spot ns row L i g in subst (λ (z : ℕ). StepIs ns z (at steps z)) t.is (W.done t.place (omega arith) t.inside)
