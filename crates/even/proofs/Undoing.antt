-- Taking splits back: what stands at each index, that a well-formed row is as it was, and that a split leaves no trace. Assumes nothing.
use Rattle.std.proofs.Common.{zero-add, ℕ, suc, ◌+◌, ◌*◌, ◌/◌, ◌%◌, ◌<◌, ◌≤◌, ◌≡◌, refl, sym, ap, ◌∙◌, Bool, true, false, cond, List, [], ◌∷◌, ◌++◌, append-nil, ◌≢◌, inl, arith, add-one, ℤ, pos, length, get_or, set, take, drop, ext_get_or, take_all, take-suc, drop-cons, length-take-le, le-leb, eq-eqb, ne_eqb, eqb-true}
use mathlib.Core.Logic.{by_cases}
use native.Mathlib.Decide.{dec_lt, ℕ_discrete}
use lib.Signed.{le_z}
use lib.Seq.{drop-length, set_at, get_or_at, append_snoc}
use borrow.Author.Tests.{lt-leb}
use Rattle.refusals.specs.Limits.{max_slots}
use Rattle.cell.specs.declared.Cell as Held
use Rattle.cell.specs.Boxes.{quad_at}
use Rattle.cell.specs.Cells.{no_cell, child_of}
use Rattle.table.specs.declared.Head.{Head}
use Rattle.table.specs.Slots.{number, cell_at}
use Rattle.table.specs.Mesh.{Cell}
use Rattle.table.specs.Formed.{WellFormed}
use Rattle.table.specs.Leaves.{leaf_at}
use Rattle.table.specs.Refine.{put_kid, split_row}
use Rattle.table.proofs.Stores.{put-elsewhere, first-elsewhere}
use Rattle.table.proofs.Cells.{length-table, at_table}
use Rattle.table.proofs.Wellformed.{opt-some}
use Rattle.table.proofs.Splits.{length-split_row, split_row-self, split_row-old-held}
use Rattle.table.proofs.Exact.{exact}
use Rattle.std.specs.List.{enumerate_from}
use Rattle.std.proofs.lemmas.List.{length-map, get_or-map}
use Rattle.std.proofs.lemmas.List.FromFn.{length-enumerate_from, get_or-enumerate_from}
use Rattle.even.specs.Undo.{undone_at, undone}

-- ---- number by number

pub length-undone : (n : ℕ) (t : List ℤ) → length (undone n t) ≡ length t
unfolding undone
length-undone n t = length-map (enumerate_from 0 t) _ ∙ length-enumerate_from 0 t

pub undone-at : (n : ℕ) (t : List ℤ) (j : ℕ) → j < length t → get_or (undone n t) j (pos 0) ≡ undone_at n j (get_or t j (pos 0))
unfolding undone
undone-at n t j h =
    let each = λ (z : ℕ × ℤ). undone_at n z.0 z.1 in
    get_or-map each (enumerate_from 0 t) j (0, pos 0) (pos 0) (omega (arith, length-enumerate_from 0 t))
    ∙ ap each (get_or-enumerate_from 0 t j (0, pos 0) h ∙ ap (λ (k : ℕ). (k, get_or t j (pos 0))) (zero-add j))

-- rows whose numbers are undone to the same are undone to the same row
pub undone-same : (m : ℕ) (t u : List ℤ) → length u ≡ length t
    → ((j : ℕ) → j < length t → undone_at m j (get_or u j (pos 0)) ≡ undone_at m j (get_or t j (pos 0))) → undone m u ≡ undone m t
undone-same m t u e f =
    ext_get_or (pos 0) (undone m u) (undone m t) (length-undone m u ∙ e ∙ sym (length-undone m t))
    (λ j h.
    let b : j < length u = rw length-undone at h in
    undone-at m u j b ∙ f j (omega arith) ∙ sym (undone-at m t j (omega arith)))

-- the answers of `undone_at`
module _ (n j : ℕ) where
  pub undone-past : (z : ℤ) → n * 8 ≤ j → undone_at n j z ≡ pos 0
  unfolding undone_at
  undone-past z h = rw (le-leb (n * 8) j h)

  pub undone-other : (z : ℤ) → j < n * 8 → j % 8 ≢ 6 → undone_at n j z ≡ z
  unfolding undone_at
  undone-other z h o = simp (lt-leb (n * 8) j h, ne_eqb (j % 8) 6 o)

  module _ (inside : j < n * 8) (six : j % 8 ≡ 6) where
    undone-first : (z : ℤ) → undone_at n j z ≡ cond (le_z (pos n) z) (pos no_cell) z
    unfolding undone_at
    undone-first z = simp (lt-leb (n * 8) j inside, eq-eqb (j % 8) 6 six)

    pub undone-none : undone_at n j (pos no_cell) ≡ pos no_cell
    undone-none = undone-first (pos no_cell) ∙ by (le_z (pos n) (pos no_cell))
      where
        by : (b : Bool) → cond b (pos no_cell) (pos no_cell) ≡ pos no_cell
        by true = refl
        by false = refl

    pub undone-kept : (v : ℕ) → v < n → undone_at n j (pos v) ≡ pos v
    undone-kept v h = undone-first (pos v) ∙ (rw (lt-leb n v h))

    pub undone-new : (v : ℕ) → n ≤ v → undone_at n j (pos v) ≡ pos no_cell
    undone-new v h = undone-first (pos v) ∙ (rw (le-leb n v h))

-- ---- a well-formed row

module _ (t : List ℤ) (head : Head) (w : WellFormed t head) where
  abbrev n : ℕ
  n = head.count

  -- a first child is none, or below the count
  first-undone : (i : ℕ) → i < n → (j : ℕ) → j ≡ i * 8 + 6 → undone_at n j (get_or t j (pos 0)) ≡ get_or t j (pos 0)
  first-undone i h j e =
      let s : j % 8 ≡ 6 = omega arith in
      let b : j < n * 8 = omega arith in
      let d : get_or t j (pos 0) ≡ pos (cell_at t i).first = rw e (sym (exact t i (w.held i h)).first) in
      rw d
      (by_cases (ℕ_discrete (cell_at t i).first no_cell)
      (λ f. rw f (undone-none n j b s))
      (λ f.
      let k = (w.cells.split i (cell_at t i).first (ap (λ (c : Cell). c.kids) (at_table t n i h) ∙ opt-some (cell_at t i).first f)).below in
      undone-kept n j b s (cell_at t i).first (let l = length-table t n in omega arith)))

  pub undone-formed : undone n t ≡ t
  undone-formed =
      ext_get_or (pos 0) (undone n t) t (length-undone n t)
      (λ j l.
      let h : j < length t = rw length-undone at l in
      undone-at n t j h
      ∙ by_cases (dec_lt j (n * 8))
      (λ b.
      by_cases (ℕ_discrete (j % 8) 6)
      (λ s. first-undone (j / 8) (omega arith) j (omega arith))
      (λ o. undone-other n j (get_or t j (pos 0)) b o))
      (λ b. undone-past n j (get_or t j (pos 0)) (omega arith) ∙ sym (w.rest j (omega arith) h)))

-- ---- a split

-- the numbers before the children, but the first child of the split cell, are as they were
kid-front : (t : List ℤ) (n i : ℕ) (c : Held.Cell) (k j : ℕ) → j < n * 8 → get_or (put_kid t n i c k) j (pos 0) ≡ get_or t j (pos 0)
unfolding put_kid
kid-front t n i c k j h = put-elsewhere t (n + k) (child_of i (quad_at k) c) j (inl (omega arith))

pub split_row-front : (t : List ℤ) (n i j : ℕ) → j < n * 8 → j ≢ i * 8 + 6 → get_or (split_row t n i) j (pos 0) ≡ get_or t j (pos 0)
unfolding split_row
split_row-front t n i j h o =
    let c = cell_at t i in
    let t1 = put_kid t n i c 0 in
    let t2 = put_kid t1 n i c 1 in
    let t3 = put_kid t2 n i c 2 in
    first-elsewhere (put_kid t3 n i c 3) i n j o
    ∙ kid-front t3 n i c 3 j h ∙ kid-front t2 n i c 2 j h ∙ kid-front t1 n i c 1 j h ∙ kid-front t n i c 0 j h

leaf_first : (u : List ℤ) (c : ℕ) → leaf_at u c ≡ true → (cell_at u c).first ≡ no_cell
unfolding leaf_at
leaf_first u c e = eqb-true (cell_at u c).first no_cell e

-- to a row from before the split it leaves no trace
pub undone-split : (u : List ℤ) (head : Head) (c m : ℕ) → WellFormed u head → c < head.count → leaf_at u c ≡ true → head.count + 4 ≤ length u / 8 → m ≤ head.count
    → undone m (split_row u head.count c) ≡ undone m u
undone-split u head c m w inside leaf enough before =
    undone-same m u (split_row u head.count c) (length-split_row u head.count c)
    (λ j h.
    by_cases (dec_lt j (m * 8))
    (λ b. by_cases (ℕ_discrete j (c * 8 + 6)) (λ e. here j b e) (λ o. ap (undone_at m j) (split_row-front u head.count c j (omega arith) o)))
    (λ b. undone-past m j (get_or (split_row u head.count c) j (pos 0)) (omega arith) ∙ sym (undone-past m j (get_or u j (pos 0)) (omega arith))))
  where
    room : (head.count + 4) * 8 ≤ length u
    room = omega arith

    small : head.count ≤ max_slots
    small = let s = w.slots in omega arith

    old : number u c 6 ≡ pos no_cell
    old = sym (exact u c (w.held c inside)).first ∙ ap pos (leaf_first u c leaf)

    new : number (split_row u head.count c) c 6 ≡ pos head.count
    new =
        sym (exact (split_row u head.count c) c (split_row-old-held u head.count c inside room small c inside (w.held c inside))).first
        ∙ ap (λ (x : Held.Cell). pos x.first) (split_row-self u head.count c inside room small)

    here : (j : ℕ) → j < m * 8 → j ≡ c * 8 + 6 → undone_at m j (get_or (split_row u head.count c) j (pos 0)) ≡ undone_at m j (get_or u j (pos 0))
    here j b e =
        let s : j % 8 ≡ 6 = omega arith in
        ap (λ (k : ℕ). undone_at m j (get_or (split_row u head.count c) k (pos 0))) e ∙ ap (undone_at m j) new ∙ undone-new m j b s head.count before
        ∙ sym (ap (λ (k : ℕ). undone_at m j (get_or u k (pos 0))) e ∙ ap (undone_at m j) old ∙ undone-none m j b s)

-- ---- a loop that overwrites the row number by number

-- the first j numbers undone, and the rest as they are
abbrev pub undoing : ℕ → List ℤ → ℕ → List ℤ
undoing n t j = take j (undone n t) ++ drop j t

module _ (n : ℕ) (t : List ℤ) where
  front : (j : ℕ) → j < length t → length (take j (undone n t)) ≡ j
  front j h = length-take-le j (undone n t) (rw length-undone (omega arith))

  undoing-here : (j : ℕ) → j < length t → get_or (undoing n t j) j (pos 0) ≡ get_or t j (pos 0)
  undoing-here j h =
      rw (drop-cons t j (pos 0) h) (get_or_at (take j (undone n t)) (get_or t j (pos 0)) (drop (suc j) t) (pos 0) j (front j h))

  undoing-next : (j : ℕ) → j < length t → set (undoing n t j) j (undone_at n j (get_or t j (pos 0))) ≡ undoing n t (j + 1)
  undoing-next j h =
      let z = undone_at n j (get_or t j (pos 0)) in
      ap (λ (l : List ℤ). set (take j (undone n t) ++ l) j z) (drop-cons t j (pos 0) h)
      ∙ set_at (take j (undone n t)) (get_or t j (pos 0)) (drop (suc j) t) z j (front j h)
      ∙ sym (append_snoc (take j (undone n t)) z (drop (suc j) t))
      ∙ ap (λ (x : ℤ). (take j (undone n t) ++ (x ∷ [])) ++ drop (suc j) t) (sym (undone-at n t j h))
      ∙ ap (λ (l : List ℤ). l ++ drop (suc j) t) (sym (take-suc (undone n t) j (pos 0) (rw length-undone h)))
      ∙ ap (undoing n t) (sym (add-one j))

  undoing-all : undoing n t (length t) ≡ undone n t
  undoing-all =
      ap (λ (l : List ℤ). take (length t) (undone n t) ++ l) (drop-length t) ∙ append-nil (take (length t) (undone n t))
      ∙ take_all (length t) (undone n t) (rw length-undone (omega arith))

-- a turn of the loop, and its end
pub undo-turn : (n : ℕ) (t u : List ℤ) (j : ℕ) (z : ℤ) → u ≡ undoing n t j → j < length t → z ≡ undone_at n j (get_or u j (pos 0))
    → set u j z ≡ undoing n t (j + 1)
undo-turn n t u j z e h d =
    let s : get_or u j (pos 0) ≡ get_or t j (pos 0) = ap (λ (l : List ℤ). get_or l j (pos 0)) e ∙ undoing-here n t j h in
    rw (d, s, e) (undoing-next n t j h)

pub undo-ends : (n : ℕ) (t u : List ℤ) (j : ℕ) → u ≡ undoing n t j → j ≡ length t → u ≡ undone n t
undo-ends n t u j e d = e ∙ ap (undoing n t) d ∙ undoing-all n t
