-- The walk along a row of entries in order that writes each node's gaps.
use Rattle.std.proofs.Common.{◌≡◌, ℕ, zero, suc, ◌+◌, ◌<◌, ◌≤◌, List, length, set, get_or, refl, sym, ◌∙◌, subst, ⊎_elim, add-one, arith}
use Rattle.std.proofs.lemmas.Bool.{cases_lt}
use Rattle.std.proofs.lemmas.List.{get_or-set_same, get_or-set_other}
use Rattle.net.specs.Net.{MeshNode, next_gap, prev_gap}
use Rattle.weights.specs.Lines.{at, Lined, Gapped, rise_of}
use Rattle.weights.proofs.Order.{num}
use Rattle.weights.proofs.Neighbours.{spot, apart, next_is, prev_zero, prev_is}

abbrev pub fall_of : List (List ℕ) → ℕ → ℕ
fall_of row zero = 0
fall_of row (suc k) = rise_of row k

-- the gaps of the first k entries' nodes are written, and the last of them is at hand
pub record Walked (ns : List MeshNode) (row : List (List ℕ)) (forth back : List ℕ) (before k : ℕ) : Type 0 where
  pub next : (l : ℕ) → l < k → l < length row → get_or forth (num (at row l) 3) 0 ≡ next_gap ns (num (at row l) 3)
  pub prev : (l : ℕ) → l < k → l < length row → get_or back (num (at row l) 3) 0 ≡ prev_gap ns (num (at row l) 3)
  pub behind : before ≡ fall_of row k

module _ (ns : List MeshNode) (row : List (List ℕ)) (L : Lined ns row) (forth back : List ℕ) (before k : ℕ) (h : k < length row)
    (forth-in : num (at row k) 3 < length forth) (back-in : num (at row k) 3 < length back) (W : Walked ns row forth back before k) where
  abbrev i : ℕ
  i = num (at row k) 3

  prev-here : before ≡ prev_gap ns i
  prev-here = W.behind ∙ sym (go k h)
    where
      go : (k : ℕ) → k < length row → prev_gap ns (num (at row k) 3) ≡ fall_of row k
      go zero h = prev_zero ns row L h
      go (suc k) h = rw (← add-one) (prev_is ns row L k (omega arith))

  -- one more of a row
  more : (xs : List ℕ) (g : ℕ → ℕ) (v : ℕ) → i < length xs → v ≡ g i → ((l : ℕ) → l < k → l < length row → get_or xs (num (at row l) 3) 0 ≡ g (num (at row l) 3))
      → (l : ℕ) → l < k + 1 → l < length row → get_or (set xs i v) (num (at row l) 3) 0 ≡ g (num (at row l) 3)
  more xs g v inside is done l a b =
      ⊎_elim
      (λ (q : l < k). get_or-set_other xs i (num (at row l) 3) v 0 (λ e. apart ns row L l k q h e) ∙ done l q b)
      (λ (q : k ≤ l). (let e : k ≡ l = omega arith in subst (λ (z : ℕ). get_or (set xs i v) (num (at row z) 3) 0 ≡ g (num (at row z) 3)) e (get_or-set_same xs i v 0 inside ∙ is)))
      (cases_lt l k)

  pub walked_more : Walked ns row (set forth i (rise_of row k)) (set back i before) (rise_of row k) (k + 1)
  walked_more = record {
    next = more forth (next_gap ns) (rise_of row k) forth-in (sym (next_is ns row L k h)) W.next;
    prev = more back (prev_gap ns) before back-in prev-here W.prev;
    behind = subst (λ (z : ℕ). rise_of row k ≡ fall_of row z) (sym (add-one k)) refl;
  }

-- at the end each node's gaps are written
pub walked_all : (ns : List MeshNode) (row : List (List ℕ)) → Lined ns row → (forth back : List ℕ) (before k : ℕ) → length row ≤ k → Walked ns row forth back before k → Gapped ns forth back
walked_all ns row L forth back before k h W = record {
  next = λ i g. (let s = spot ns row L i g in let b = s.inside in subst (λ z. get_or forth z 0 ≡ next_gap ns z) s.is (W.next s.place (omega arith) b));
  prev = λ i g. (let s = spot ns row L i g in let b = s.inside in subst (λ z. get_or back z 0 ≡ prev_gap ns z) s.is (W.prev s.place (omega arith) b));
}
