-- A well-formed row is the row of its cells: each number of a cell in its slot is exact, and behind the cells are zeros. Assumes nothing.
use Rattle.std.proofs.Common.{ℕ, zero, suc, ◌+◌, ◌*◌, ◌-◌, ◌<◌, ◌≤◌, ◌≡◌, refl, sym, ap, ◌∙◌, Bool, true, false, List, [], ◌∷◌, ◌++◌, append-nil, arith, add-zero, add-one, eqb, ℤ, pos, length, get_or, take, drop, replicate, length-drop, take-append-drop, ext_get_or, drop-cons, length-take-le, get_or-drop, take-add, eqb-true, None, Some}
use Rattle.std.specs.Prelude.{if◌then◌else◌}
use lib.ListN.{length-replicate, get_or-replicate}
use Rattle.std.proofs.lemmas.Grind.{flat_map-append}
use Rattle.cell.specs.Cells.{no_cell}
use Rattle.table.specs.declared.Head.{Head}
use Rattle.table.specs.Slots.{cell_at}
use Rattle.table.specs.Mesh.{Cell, opt, marked, slot_numbers, mesh_cell, table}
use Rattle.table.specs.Formed.{WellFormed}
use Rattle.table.proofs.Cells.{table_more}
use Rattle.table.proofs.Exact.{Exact, exact}
use Rattle.even.specs.Rows.{flat, row_of}

-- ---- one number, there and back

pub marked-opt : (v : ℕ) → marked (opt v) ≡ pos v
marked-opt v = by (eqb v no_cell) refl
  where
    by : (b : Bool) → eqb v no_cell ≡ b → marked (if b then None else Some v) ≡ pos v
    by true e = ap pos (sym (eqb-true v no_cell e))
    by false e = refl

-- ---- the numbers of one cell

-- the m numbers from index b + k on
abbrev run : List ℤ → ℕ → ℕ → ℕ → List ℤ
run l b k zero = []
run l b k (suc m) = get_or l (b + k) (pos 0) ∷ run l b (k + 1) m

run_is : (l : List ℤ) (b k m : ℕ) → b + k + m ≤ length l → take m (drop (b + k) l) ≡ run l b k m
run_is l b k zero h = refl
run_is l b k (suc m) h =
    let e : suc (b + k) ≡ b + (k + 1) = omega arith in
    ap (take (suc m)) (drop-cons l (b + k) (pos 0) (omega arith))
    ∙ ap (λ (j : ℕ). get_or l (b + k) (pos 0) ∷ take m (drop j l)) e
    ∙ ap (λ (r : List ℤ). get_or l (b + k) (pos 0) ∷ r) (run_is l b (k + 1) m (omega arith))

module _ (t : List ℤ) (i : ℕ) (w : Exact t i) where
  numbers-run : slot_numbers (mesh_cell (cell_at t i)) ≡ run t (i * 8) 0 8
  numbers-run =
      λ x.
      (w.x0 ∙ ap (λ (j : ℕ). get_or t j (pos 0)) (sym (add-zero (i * 8)))) x ∷ w.y0 x ∷ w.x1 x ∷ w.y1 x ∷ w.level x
      ∷ (marked-opt (cell_at t i).parent ∙ w.parent) x ∷ (marked-opt (cell_at t i).first ∙ w.first) x ∷ w.poly x ∷ []

  numbers-are : i * 8 + 8 ≤ length t → slot_numbers (mesh_cell (cell_at t i)) ≡ take 8 (drop (i * 8) t)
  numbers-are h =
      numbers-run ∙ sym (run_is t (i * 8) 0 8 (omega arith)) ∙ ap (λ (j : ℕ). take 8 (drop j t)) (add-zero (i * 8))

-- ---- the whole row

flat_append : (a b : List Cell) → flat (a ++ b) ≡ flat a ++ flat b
unfolding flat
flat_append = flat_map-append slot_numbers

flat-one : (c : Cell) → flat (c ∷ []) ≡ slot_numbers c
unfolding flat
flat-one c = append-nil (slot_numbers c)

module _ (t : List ℤ) (head : Head) (w : WellFormed t head) where
  abbrev n : ℕ
  n = head.count

  room : n * 8 ≤ length t
  room = let c = w.count in omega arith

  flat-front : (k : ℕ) → k ≤ n → flat (table t k) ≡ take (k * 8) t
  unfolding flat
  flat-front zero h = unfold table in refl
  flat-front (suc k) h =
      let r = room in
      let e : k * 8 + 8 ≡ suc k * 8 = omega arith in
      ap (λ (j : ℕ). flat (table t j)) (sym (add-one k))
      ∙ ap flat (table_more t k)
      ∙ flat_append (table t k) (mesh_cell (cell_at t k) ∷ [])
      ∙ ap (λ (r : List ℤ). r ++ flat (mesh_cell (cell_at t k) ∷ [])) (flat-front k (omega arith))
      ∙ ap (λ (r : List ℤ). take (k * 8) t ++ r)
      (flat-one (mesh_cell (cell_at t k)) ∙ numbers-are t k (exact t k (w.held k (omega arith))) (omega arith))
      ∙ sym (take-add (k * 8) 8 t)
      ∙ ap (λ (j : ℕ). take j t) e

  rest-zeros : drop (n * 8) t ≡ replicate (length t - n * 8) (pos 0)
  rest-zeros =
      ext_get_or (pos 0) (drop (n * 8) t) (replicate (length t - n * 8) (pos 0))
      (length-drop (n * 8) t ∙ sym (length-replicate (length t - n * 8) (pos 0)))
      (λ j l.
      let h : j < length t - n * 8 = rw length-drop at l in
      get_or-drop (n * 8) t j (pos 0) ∙ w.rest (n * 8 + j) (omega arith) (omega arith)
      ∙ sym (get_or-replicate (length t - n * 8) j (pos 0) (pos 0) h))

  pub row_is : t ≡ row_of (table t n) (length t)
  unfolding row_of
  row_is =
      let f = flat-front n (omega arith) in
      let l = ap length f ∙ length-take-le (n * 8) t room in
      sym (take-append-drop (n * 8) t)
      ∙ ap (λ (r : List ℤ). take (n * 8) t ++ r) rest-zeros
      ∙ ap (λ (k : ℕ). take (n * 8) t ++ replicate (length t - k) (pos 0)) (sym l)
      ∙ ap (λ (r : List ℤ). r ++ replicate (length t - length (flat (table t n))) (pos 0)) (sym f)
