-- Laws of loads and stores of cells: what was put is found again, the other slots are as they were, the length stays. Assumes nothing.
use Rattle.std.proofs.Common.{ℕ, zero, suc, ◌+◌, ◌*◌, ◌-◌, min, ◌<◌, ◌≤◌, ◌≡◌, refl, sym, ap, ◌∙◌, Bool, true, false, ◌&&◌, List, [], ◌∷◌, ◌⊎◌, inl, inr, ⊎_elim, ◌≢◌, arith, add-zero, ℤ, pos, negsuc, length, get_or, set, length-set, get_or-set_same, get_or-set_other, le-leb, lt-ltb, le-ltb}
use mathlib.Core.Bool.{false≢true}
use mathlib.Core.Logic.{by_cases}
use native.Mathlib.Decide.{dec_lt}
use lib.IntN.{sub_ℕ}
use lib.Signed.{non_neg}
use Rattle.refusals.specs.Limits.{coordinate}
use Rattle.cell.specs.declared.Cell.{Cell}
use Rattle.cell.specs.Ticks.{off, on, in_range}
use Rattle.cell.proofs.Offsets.{off-on, off-le, below?}
use Rattle.table.specs.Slots.{counted, kept, number, start, cell_at, stored, put_cell, put_first, in_slot}
use Rattle.table.proofs.Numbers.{counted-kept}

-- ---- a run of stores: the values vs at b + k, b + (k + 1), ..

module _ {A : Type 0} where
  abbrev puts : List A → ℕ → ℕ → List A → List A
  puts l b k [] = l
  puts l b k (v ∷ vs) = puts (set l (b + k) v) b (k + 1) vs

  -- an index outside the run is as it was
  puts-under : (d : A) (vs l : List A) (b k j : ℕ) → j < b + k → get_or (puts l b k vs) j d ≡ get_or l j d
  puts-under d [] l b k j h = refl
  puts-under d (v ∷ vs) l b k j h =
      puts-under d vs (set l (b + k) v) b (k + 1) j (omega arith) ∙ get_or-set_other l (b + k) j v d (λ q. omega arith)

  puts-over : (d : A) (vs l : List A) (b k j : ℕ) → b + k + length vs ≤ j → get_or (puts l b k vs) j d ≡ get_or l j d
  puts-over d [] l b k j h = refl
  puts-over d (v ∷ vs) l b k j h =
      puts-over d vs (set l (b + k) v) b (k + 1) j (omega arith) ∙ get_or-set_other l (b + k) j v d (λ q. omega arith)

  -- the n-th value of the run
  puts-at : (d : A) (vs l : List A) (b k n j : ℕ) → j ≡ b + k + n → n < length vs → b + k + length vs ≤ length l
      → get_or (puts l b k vs) j d ≡ get_or vs n d
  puts-at d [] l b k n j e h f = absurd (let z : n < 0 = h in omega arith)
  puts-at d (v ∷ vs) l b k zero j e h f =
      let e' : j ≡ b + k = omega arith in
      puts-under d vs (set l (b + k) v) b (k + 1) j (omega arith)
      ∙ rw e' (get_or-set_same l (b + k) v d (omega arith))
  puts-at d (v ∷ vs) l b k (suc n) j e h f =
      puts-at d vs (set l (b + k) v) b (k + 1) n j (omega arith) (omega arith) (simp length-set (omega arith))

-- ---- what a slot holds, by its eight numbers

module _ (t u : List ℤ) (i j : ℕ) (same : (k : ℕ) → k < 8 → number u j k ≡ number t i k) where
  slot-start : start u j ≡ start t i
  slot-start = ap (λ (m : ℕ). get_or u m (pos 0)) (sym (add-zero (j * 8))) ∙ same 0 (omega arith) ∙ ap (λ (m : ℕ). get_or t m (pos 0)) (add-zero (i * 8))

  pub same-cell : cell_at u j ≡ cell_at t i
  unfolding cell_at
  same-cell =
      λ x. record {
        x0 = off (slot-start x);
        y0 = off (same 1 (omega arith) x);
        x1 = off (same 2 (omega arith) x);
        y1 = off (same 3 (omega arith) x);
        level = counted (same 4 (omega arith) x);
        parent = counted (same 5 (omega arith) x);
        first = counted (same 6 (omega arith) x);
        poly = counted (same 7 (omega arith) x);
      }

  pub same-held : in_slot u j ≡ in_slot t i
  unfolding in_slot
  same-held =
      λ x.
      in_range (slot-start x) && in_range (same 1 (omega arith) x) && in_range (same 2 (omega arith) x) && in_range (same 3 (omega arith) x)
      && non_neg (same 4 (omega arith) x) && non_neg (same 5 (omega arith) x) && non_neg (same 6 (omega arith) x) && non_neg (same 7 (omega arith) x)

-- every number that a store writes is one that a cell has
low-range : (m : ℕ) → m < coordinate → in_range (negsuc m) ≡ true
unfolding in_range
low-range m h = rw (le-leb m (coordinate - 1) (omega arith))

high-range : (m : ℕ) → m ≤ coordinate → in_range (pos m) ≡ true
unfolding in_range
high-range m h = rw (le-leb m coordinate h)

pub on-range : (n : ℕ) → in_range (on n) ≡ true
unfolding on
on-range n =
    let m = min n (coordinate + coordinate) in
    ⊎_elim
    (λ (w : m < coordinate).
    let e : sub_ℕ m coordinate ≡ negsuc (coordinate - suc m) = simp (lt-ltb m coordinate w) in
    rw e (low-range (coordinate - suc m) (omega arith)))
    (λ (w : coordinate ≤ m).
    let e : sub_ℕ m coordinate ≡ pos (m - coordinate) = simp (le-ltb m coordinate w) in
    rw e (high-range (m - coordinate) (omega arith)))
    (below? m coordinate)

kept-natural : (n : ℕ) → non_neg (kept n) ≡ true
unfolding kept
kept-natural n = refl

one_less : (x y z : Bool) → (x && y && z) ≡ true → (x && true && z) ≡ true
one_less true true z e = e
one_less true false z e = absurd (false≢true e)
one_less false y z e = e

-- ---- a cell into its slot

-- the largest number of the row
abbrev pub largest : ℕ
largest = 9223372036854775807

-- a cell that a slot can hold: what is read back is what was put
pub record Fits (c : Cell) : Type 0 where
  pub x0 : c.x0 ≤ coordinate + coordinate
  pub y0 : c.y0 ≤ coordinate + coordinate
  pub x1 : c.x1 ≤ coordinate + coordinate
  pub y1 : c.y1 ≤ coordinate + coordinate
  pub level : c.level ≤ largest
  pub parent : c.parent ≤ largest
  pub first : c.first ≤ largest
  pub poly : c.poly ≤ largest

-- the corners of every cell that is read lie in the frame
pub read-corners : (t : List ℤ) (i : ℕ)
    → ((cell_at t i).x0 ≤ coordinate + coordinate) × ((cell_at t i).y0 ≤ coordinate + coordinate) × ((cell_at t i).x1 ≤ coordinate + coordinate) × ((cell_at t i).y1 ≤ coordinate + coordinate)
unfolding cell_at
read-corners t i = (off-le (start t i), off-le (number t i 1), off-le (number t i 2), off-le (number t i 3))

rest : Cell → List ℤ
rest c = on c.y0 ∷ on c.x1 ∷ on c.y1 ∷ kept c.level ∷ kept c.parent ∷ kept c.first ∷ kept c.poly ∷ []

pub length-put : (t : List ℤ) (i : ℕ) (c : Cell) → length (put_cell t i c) ≡ length t
unfolding put_cell stored
length-put t i c = simp length-set

module _ (t : List ℤ) (i : ℕ) (c : Cell) where
  -- a number outside the slot is as it was
  pub put-elsewhere : (j : ℕ) → (j < i * 8) ⊎ (i * 8 + 8 ≤ j) → get_or (put_cell t i c) j (pos 0) ≡ get_or t j (pos 0)
  unfolding put_cell stored rest
  put-elsewhere j (inl h) =
      puts-under (pos 0) (rest c) (set t (i * 8) (on c.x0)) (i * 8) 1 j (omega arith)
      ∙ get_or-set_other t (i * 8) j (on c.x0) (pos 0) (λ q. omega arith)
  put-elsewhere j (inr h) =
      puts-over (pos 0) (rest c) (set t (i * 8) (on c.x0)) (i * 8) 1 j (omega arith)
      ∙ get_or-set_other t (i * 8) j (on c.x0) (pos 0) (λ q. omega arith)

  other-slot : (j : ℕ) → j ≢ i → (k : ℕ) → k < 8 → number (put_cell t i c) j k ≡ number t j k
  other-slot j o k h = put-elsewhere (j * 8 + k) (by_cases (dec_lt j i) (λ l. inl (omega arith)) (λ l. inr (omega arith)))

  pub put_other : (j : ℕ) → j ≢ i → cell_at (put_cell t i c) j ≡ cell_at t j
  put_other j o = same-cell t (put_cell t i c) j j (other-slot j o)

  pub put-other-held : (j : ℕ) → j ≢ i → in_slot (put_cell t i c) j ≡ in_slot t j
  put-other-held j o = same-held t (put_cell t i c) j j (other-slot j o)

  module _ (h : i * 8 + 8 ≤ length t) where
    at-start : start (put_cell t i c) i ≡ on c.x0
    unfolding put_cell stored rest
    at-start =
        puts-under (pos 0) (rest c) (set t (i * 8) (on c.x0)) (i * 8) 1 (i * 8) (omega arith)
        ∙ get_or-set_same t (i * 8) (on c.x0) (pos 0) (omega arith)

    at_rest : (m j : ℕ) → j ≡ i * 8 + 1 + m → m < 7 → get_or (put_cell t i c) j (pos 0) ≡ get_or (rest c) m (pos 0)
    unfolding put_cell stored rest
    at_rest m j e f = puts-at (pos 0) (rest c) (set t (i * 8) (on c.x0)) (i * 8) 1 m j e f (simp length-set (omega arith))

    pub put_same : Fits c → cell_at (put_cell t i c) i ≡ c
    unfolding cell_at rest
    put_same w =
        λ x. record {
          x0 = (ap off at-start ∙ off-on c.x0 w.x0) x;
          y0 = (ap off (at_rest 0 (i * 8 + 1) (omega arith) (omega arith)) ∙ off-on c.y0 w.y0) x;
          x1 = (ap off (at_rest 1 (i * 8 + 2) (omega arith) (omega arith)) ∙ off-on c.x1 w.x1) x;
          y1 = (ap off (at_rest 2 (i * 8 + 3) (omega arith) (omega arith)) ∙ off-on c.y1 w.y1) x;
          level = (ap counted (at_rest 3 (i * 8 + 4) (omega arith) (omega arith)) ∙ counted-kept c.level w.level) x;
          parent = (ap counted (at_rest 4 (i * 8 + 5) (omega arith) (omega arith)) ∙ counted-kept c.parent w.parent) x;
          first = (ap counted (at_rest 5 (i * 8 + 6) (omega arith) (omega arith)) ∙ counted-kept c.first w.first) x;
          poly = (ap counted (at_rest 6 (i * 8 + 7) (omega arith) (omega arith)) ∙ counted-kept c.poly w.poly) x;
        }

    pub put-held : in_slot (put_cell t i c) i ≡ true
    unfolding in_slot rest
    put-held =
        simp (
          at-start,
          at_rest 0 (i * 8 + 1) (omega arith) (omega arith),
          at_rest 1 (i * 8 + 2) (omega arith) (omega arith),
          at_rest 2 (i * 8 + 3) (omega arith) (omega arith),
          at_rest 3 (i * 8 + 4) (omega arith) (omega arith),
          at_rest 4 (i * 8 + 5) (omega arith) (omega arith),
          at_rest 5 (i * 8 + 6) (omega arith) (omega arith),
          at_rest 6 (i * 8 + 7) (omega arith) (omega arith),
          on-range,
          kept-natural,
        )

-- ---- another first child for the cell in a slot

abbrev pub with_first : Cell → ℕ → Cell
with_first c f = record { x0 = c.x0; y0 = c.y0; x1 = c.x1; y1 = c.y1; level = c.level; parent = c.parent; first = f; poly = c.poly }

pub length-first : (t : List ℤ) (i f : ℕ) → length (put_first t i f) ≡ length t
unfolding put_first stored
length-first t i f = length-set t (i * 8 + 6) (kept f)

module _ (t : List ℤ) (i f : ℕ) where
  pub first-elsewhere : (j : ℕ) → j ≢ i * 8 + 6 → get_or (put_first t i f) j (pos 0) ≡ get_or t j (pos 0)
  unfolding put_first stored
  first-elsewhere j o = get_or-set_other t (i * 8 + 6) j (kept f) (pos 0) o

  other-first : (j : ℕ) → j ≢ i → (k : ℕ) → k < 8 → number (put_first t i f) j k ≡ number t j k
  other-first j o k h = first-elsewhere (j * 8 + k) (by_cases (dec_lt j i) (λ l. omega arith) (λ l. omega arith))

  pub first-other : (j : ℕ) → j ≢ i → cell_at (put_first t i f) j ≡ cell_at t j
  first-other j o = same-cell t (put_first t i f) j j (other-first j o)

  pub first-other-held : (j : ℕ) → j ≢ i → in_slot (put_first t i f) j ≡ in_slot t j
  first-other-held j o = same-held t (put_first t i f) j j (other-first j o)

  module _ (h : i * 8 + 8 ≤ length t) where
    at-six : number (put_first t i f) i 6 ≡ kept f
    unfolding put_first stored
    at-six = get_or-set_same t (i * 8 + 6) (kept f) (pos 0) (omega arith)

    pub first-same : f ≤ largest → cell_at (put_first t i f) i ≡ with_first (cell_at t i) f
    unfolding cell_at
    first-same w =
        λ x. record {
          x0 = off (first-elsewhere (i * 8) (omega arith) x);
          y0 = off (first-elsewhere (i * 8 + 1) (omega arith) x);
          x1 = off (first-elsewhere (i * 8 + 2) (omega arith) x);
          y1 = off (first-elsewhere (i * 8 + 3) (omega arith) x);
          level = counted (first-elsewhere (i * 8 + 4) (omega arith) x);
          parent = counted (first-elsewhere (i * 8 + 5) (omega arith) x);
          first = (ap counted at-six ∙ counted-kept f w) x;
          poly = counted (first-elsewhere (i * 8 + 7) (omega arith) x);
        }

    pub first-held : in_slot t i ≡ true → in_slot (put_first t i f) i ≡ true
    unfolding in_slot
    first-held e =
        simp (
          first-elsewhere (i * 8) (omega arith),
          first-elsewhere (i * 8 + 1) (omega arith),
          first-elsewhere (i * 8 + 2) (omega arith),
          first-elsewhere (i * 8 + 3) (omega arith),
          first-elsewhere (i * 8 + 4) (omega arith),
          first-elsewhere (i * 8 + 5) (omega arith),
          first-elsewhere (i * 8 + 7) (omega arith),
          at-six,
          kept-natural,
        ) (one_less
        (in_range (start t i) && in_range (number t i 1) && in_range (number t i 2) && in_range (number t i 3) && non_neg (number t i 4) && non_neg (number t i 5))
        (non_neg (number t i 6)) (non_neg (number t i 7)) e)
