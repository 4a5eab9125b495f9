-- The rows of a sweep: what one split keeps, they keep; and rows that make no split leave nothing due. Assumes nothing.
use Rattle.std.proofs.Common.{◌≡◌, refl, sym, ap, subst, ◌∙◌, Bool, true, false, ◌⊎◌, inl, inr, ⊎_elim, List, ℕ, zero, suc, ◌<◌, ◌≤◌, arith, length}
use mathlib.Core.Logic.{by_cases}
use Rattle.std.specs.List.{fold, range_with_len}
use Rattle.std.proofs.lemmas.List.Sums.{fold_push}
use native.Mathlib.Decide.{ℕ_discrete}
use Rattle.table.specs.Mesh.{Cell, split}
use Rattle.coarsest.specs.declared.Engine.{Engine}
use Rattle.coarsest.specs.declared.Engine.TheVariants.{Balancing, Conforming}
use Rattle.coarsest.specs.Passes.{is_due, due, split_if, step, with_each}
use Rattle.coarsest.specs.Sweep.{row, rows}
use Rattle.table.proofs.Ids.{range-last}
use Rattle.table.proofs.Meshes.{length-split}

-- ---- one pair more, and one row more

fold-range : {B : Type 0} (f : B → ℕ → B) (t : B) (n : ℕ) → fold f t (range_with_len 0 (suc n)) ≡ f (fold f t (range_with_len 0 n)) n
fold-range f t n = ap (fold f t) (range-last n) ∙ fold_push f t (range_with_len 0 n) n

pub row-next : (e : Engine) (k : ℕ) (t : List Cell) (a b : ℕ) → row e k t a (suc b) ≡ step e k (row e k t a b) a b
unfolding row with_each
row-next e k t a b = fold-range (λ u c. step e k u a c) t b

pub rows-next : (e : Engine) (k n : ℕ) (t : List Cell) (a : ℕ) → rows e k n t (suc a) ≡ row e k (rows e k n t a) a n
unfolding rows
rows-next e k n t a = fold-range (λ u i. row e k u i n) t a

-- ---- what one split keeps

abbrev pub Keeps : ℕ → (List Cell → Type 0) → Type 0
Keeps k P = (t : List Cell) (f c : ℕ) → f < length t → c < length t → P t → due k t f c ≡ true → P (split t c)

split-if : (P : List Cell → Type 0) (t : List Cell) (c : ℕ) (d : Bool) → P t → (d ≡ true → P (split t c)) → P (split_if d t c)
split-if P t c true p f = f refl
split-if P t c false p f = p

pub step_keeps : (e : Engine) (k : ℕ) (P : List Cell → Type 0) → Keeps k P → (t : List Cell) (a b : ℕ) → a < length t → b < length t → P t → P (step e k t a b)
unfolding step
step_keeps Balancing k P keep t a b ha hb p = split-if P t b (due k t a b) p (λ d. keep t a b ha hb p d)
step_keeps Conforming k P keep t a b ha hb p = split-if P t a (due k t b a) p (λ d. keep t b a hb ha p d)

-- n is the pass's starting count
module _ (e : Engine) (k n : ℕ) (P : List Cell → Type 0) (keep : Keeps k P) where
  Long : List Cell → Type 0
  Long t = P t × (n ≤ length t)

  long-keeps : Keeps k Long
  unfolding Long
  long-keeps t f c hf hc p d = (keep t f c hf hc p.0 d, (let l = length-split t c in let h = p.1 in omega arith))

  row-long : (t : List Cell) (a b : ℕ) → a < n → b ≤ n → Long t → Long (row e k t a b)
  unfolding row with_each Long
  row-long t a zero ha hb p = p
  row-long t a (suc b) ha hb p =
      let q = row-long t a b ha (omega arith) p in
      let l = q.1 in
      subst Long (sym (row-next e k t a b)) (step_keeps e k Long long-keeps (row e k t a b) a b (omega arith) (omega arith) q)

  rows_long : (t : List Cell) (a : ℕ) → a ≤ n → Long t → Long (rows e k n t a)
  unfolding rows
  rows_long t zero ha p = p
  rows_long t (suc a) ha p = subst Long (sym (rows-next e k n t a)) (row-long (rows e k n t a) a n ha (omega arith) (rows_long t a (omega arith) p))

  pub row_keeps : (t : List Cell) (a b : ℕ) → a < n → b ≤ n → n ≤ length t → P t → P (row e k t a b)
  unfolding Long
  row_keeps t a b ha hb h p = (row-long t a b ha hb (p, h)).0

  pub rows-keeps : (t : List Cell) (a : ℕ) → a ≤ n → n ≤ length t → P t → P (rows e k n t a)
  unfolding Long
  rows-keeps t a ha h p = (rows_long t a ha (p, h)).0

-- a table that splits made of t: t itself, or a longer one
abbrev pub Grown : List Cell → List Cell → Type 0
Grown t u = (u ≡ t) ⊎ (length t < length u)

pub grown-keeps : (k : ℕ) (t : List Cell) → Keeps k (Grown t)
grown-keeps k t u f c hf hc g d =
    let l = length-split u c in
    inr (⊎_elim (λ e. (let m = ap length e in omega arith)) (λ h. omega arith) g)

pub grown-least : (t u : List Cell) → Grown t u → length t ≤ length u
grown-least t u (inl e) = let m = ap length e in omega arith
grown-least t u (inr h) = omega arith

pub grown-same : (t u : List Cell) → Grown t u → length u ≡ length t → u ≡ t
grown-same t u (inl e) h = e
grown-same t u (inr l) h = absurd (omega arith)

split-if-calm : (u : List Cell) (c : ℕ) (d : Bool) → length (split_if d u c) ≤ length u → d ≡ false
split-if-calm u c true h = let l = length-split u c in absurd (omega arith)
split-if-calm u c false h = refl

step-calm : (e : Engine) (k : ℕ) (u : List Cell) (a b : ℕ) → length (step e k u a b) ≤ length u → is_due e k u a b ≡ false
unfolding step
step-calm Balancing k u a b h = split-if-calm u b (due k u a b) h
step-calm Conforming k u a b h = split-if-calm u a (due k u b a) h

module _ (e : Engine) (k n : ℕ) where
  pub row-grown : (t : List Cell) (a b : ℕ) → a < n → b ≤ n → n ≤ length t → Grown t (row e k t a b)
  row-grown t a b ha hb h = row_keeps e k n (Grown t) (grown-keeps k t) t a b ha hb h (inl refl)

  pub rows_grown : (t : List Cell) (a : ℕ) → a ≤ n → n ≤ length t → Grown t (rows e k n t a)
  rows_grown t a ha h = rows-keeps e k n (Grown t) (grown-keeps k t) t a ha h (inl refl)

  -- one pair more of a row
  pub row-suc : (t : List Cell) (a b : ℕ) → a < n → b < n → n ≤ length t → length (row e k t a b) ≤ length (row e k t a (suc b))
  row-suc t a b ha hb h =
      let g = grown-least t (row e k t a b) (row-grown t a b ha (omega arith) h) in
      let u = row e k t a b in
      rw (row-next e k t a b) (grown-least u (step e k u a b) (step_keeps e k (Grown u) (grown-keeps k u) u a b (omega arith) (omega arith) (inl refl)))

  row-calm-last : (t : List Cell) (a b : ℕ) → a < n → b < n → n ≤ length t → length (row e k t a (suc b)) ≡ length t
      → (length (row e k t a b) ≡ length t) × (is_due e k t a b ≡ false)
  row-calm-last t a b ha hb h l =
      let u = row e k t a b in
      let r = ap length (row-next e k t a b) in
      let g = row-grown t a b ha (omega arith) h in
      let m = grown-least t u g in
      let s = row-suc t a b ha hb h in
      let same : length u ≡ length t = omega arith in
      (same, subst (λ (x : List Cell). is_due e k x a b ≡ false) (grown-same t u g same) (step-calm e k u a b (omega arith)))

  row_calm : (t : List Cell) (a b : ℕ) → a < n → b ≤ n → n ≤ length t → length (row e k t a b) ≡ length t → (j : ℕ) → j < b → is_due e k t a j ≡ false
  row_calm t a zero ha hb h l j hj = absurd (omega arith)
  row_calm t a (suc b) ha hb h l j hj =
      let c = row-calm-last t a b ha hb h l in
      by_cases (ℕ_discrete j b) (λ q. rw q c.1) (λ q. row_calm t a b ha (omega arith) h c.0 j (omega arith))

  rows-calm-last : (t : List Cell) (a : ℕ) → a < n → n ≤ length t → length (rows e k n t (suc a)) ≡ length t
      → (length (rows e k n t a) ≡ length t) × ((j : ℕ) → j < n → is_due e k t a j ≡ false)
  rows-calm-last t a ha h l =
      let u = rows e k n t a in
      let r = ap length (rows-next e k n t a) in
      let g = rows_grown t a (omega arith) h in
      let m = grown-least t u g in
      let s = grown-least u (row e k u a n) (row-grown u a n ha (omega arith) (omega arith)) in
      let same : length u ≡ length t = omega arith in (
        same,
        subst (λ (x : List Cell). (j : ℕ) → j < n → is_due e k x a j ≡ false) (grown-same t u g same) (row_calm u a n ha (omega arith) (omega arith) (omega arith)),
      )

  pub rows-calm : (t : List Cell) (a : ℕ) → a ≤ n → n ≤ length t → length (rows e k n t a) ≡ length t → (i j : ℕ) → i < a → j < n → is_due e k t i j ≡ false
  rows-calm t zero ha h l i j hi hj = absurd (omega arith)
  rows-calm t (suc a) ha h l i j hi hj =
      let c = rows-calm-last t a ha h l in
      by_cases (ℕ_discrete i a) (λ q. rw q (c.1 j hj)) (λ q. rows-calm t a (omega arith) h c.0 i j (omega arith) hj)
