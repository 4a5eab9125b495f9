-- The turns of the loops over rows of pairs, said of the cells. Assumes nothing.
use Rattle.std.proofs.Common.{ℕ, zero, suc, ◌+◌, ◌-◌, ◌<◌, ◌≤◌, ◌≡◌, refl, sym, ap, ◌∙◌, Bool, true, false, List, arith, add-zero, add-suc, add-one, length}
use mathlib.Core.Logic.{by_cases}
use native.Mathlib.Decide.{dec_lt}
use Rattle.table.specs.Mesh.{Cell, split}
use Rattle.coarsest.specs.declared.Engine.{Engine}
use Rattle.coarsest.specs.declared.Engine.TheVariants.{Balancing, Conforming}
use Rattle.coarsest.specs.Passes.{due, split_if, pass}
use Rattle.coarsest.specs.Sweep.{row, rows, sweep}
use Rattle.coarsest.proofs.Sweep.{rows-next}
use Rattle.coarsest.proofs.Loops.{row-skip, row-due, row-most, rows-most}
use Rattle.coarsest.proofs.Passes.{sweep-pass}
use Rattle.coarsest.proofs.Rows.{conform-row}
use Rattle.search.specs.Search.{Least, Found}
use Rattle.even.proofs.Pairs.{no_true, found-any}

row-to : (k : ℕ) (T : List Cell) (a b d : ℕ) → ((j : ℕ) → b ≤ j → j < b + d → due k (row Balancing k T a b) a j ≡ false)
    → row Balancing k T a (b + d) ≡ row Balancing k T a b
row-to k T a b zero h = ap (row Balancing k T a) (add-zero b)
row-to k T a b (suc d) h =
    let r = row-to k T a b d (λ j l m. h j l (omega arith)) in
    ap (row Balancing k T a) (add-suc b d)
    ∙ row-skip Balancing k T a (b + d) (ap (λ (x : List Cell). due k x a (b + d)) r ∙ h (b + d) (omega arith) (omega arith))
    ∙ r

-- balance: the cells u are what a's pairs before b make, and c is the least due from b on
module _ (k : ℕ) (T u : List Cell) (n a b stop c : ℕ) (here : u ≡ row Balancing k T a b) (hb : b ≤ stop) (hs : stop ≤ n)
    (x : Least (due k u a) (λ (i : ℕ). i < n) b stop c) where
  first : b ≤ c
  first = by_cases (dec_lt c stop) (λ l. (x.found l).0) (λ l. (let m = x.most in omega arith))

  -- the pairs before c split nothing
  row-next : u ≡ row Balancing k T a c
  row-next =
      let f = first in
      let m = x.most in
      let e : b + (c - b) ≡ c = omega arith in
      here
      ∙ sym (row-to k T a b (c - b) (λ j l h. no_true (due k (row Balancing k T a b) a j)
      (λ d. (let g = x.least j (omega arith) l (ap (λ (y : List Cell). due k y a j) here ∙ d) in omega arith))))
      ∙ ap (row Balancing k T a) e

  pub row-ended : stop ≤ c → u ≡ row Balancing k T a stop
  row-ended h =
      let m = x.most in
      let e : c ≡ stop = omega arith in
      row-next ∙ ap (row Balancing k T a) e

  module _ (h : c < stop) where
    pub row-split : split u c ≡ row Balancing k T a (c + 1)
    row-split =
        let asks : due k (row Balancing k T a c) a c ≡ true = ap (λ (y : List Cell). due k y a c) (sym row-next) ∙ (x.found h).1 in
        ap (λ (y : List Cell). split y c) row-next ∙ sym (ap (row Balancing k T a) (add-one c) ∙ row-due Balancing k T a c asks)

    -- the row ends in no fewer cells
    pub row-room : a < stop → stop ≤ length T → length (split u c) ≤ length (row Balancing k T a stop)
    row-room ha l =
        let q : c + 1 + (stop - (c + 1)) ≡ stop = omega arith in
        let m = row-most Balancing k stop T a (c + 1) (stop - (c + 1)) ha (omega arith) l in
        omega (arith, ap length row-split, ap (λ (y : ℕ). length (row Balancing k T a y)) q)

-- conform: a's row by whether anybody asks for a
pub row-asked : (k : ℕ) (T : List Cell) (n a stop : ℕ) (r v : Bool) → a < length T → stop ≤ n
    → Found (λ (b : ℕ). due k T b a) (λ (b : ℕ). b < n) stop r → r ≡ v → row Conforming k T a stop ≡ split_if v T a
row-asked k T n a stop r v ha hs x e =
    conform-row k T a ha stop
    ∙ ap (λ (b : Bool). split_if b T a) (sym (found-any (λ (b : ℕ). due k T b a) n stop r hs x) ∙ e)

-- a pass by its rows
module _ (e : Engine) (k : ℕ) (T : List Cell) where
  pub rows-pass : (n : ℕ) → length T ≡ n → rows e k n T n ≡ pass e k T
  unfolding sweep
  rows-pass n l = ap (λ (x : ℕ). rows e k x T x) (sym l) ∙ sweep-pass e k T

  pub rows_none : (n : ℕ) → rows e k n T 0 ≡ T
  unfolding rows
  rows_none n = refl

  -- a's row of pairs after the rows before it
  pub rows_next : (u : List Cell) (n a : ℕ) → u ≡ rows e k n T a → row e k u a n ≡ rows e k n T (a + 1)
  rows_next u n a c = ap (λ (x : List Cell). row e k x a n) c ∙ sym (rows-next e k n T a) ∙ sym (ap (rows e k n T) (add-one a))

  -- the pass ends in no fewer cells
  pub rows-room : (u : List Cell) (n a : ℕ) → length T ≡ n → a < n → u ≡ rows e k n T a → length (row e k u a n) ≤ length (pass e k T)
  rows-room u n a l h c =
      let q : a + 1 + (n - (a + 1)) ≡ n = omega arith in
      let m = rows-most e k n T (a + 1) (n - (a + 1)) (omega arith) (omega arith) in
      omega (arith, ap length (rows_next u n a c), ap (λ (x : ℕ). length (rows e k n T x)) q, ap length (rows-pass n l))
