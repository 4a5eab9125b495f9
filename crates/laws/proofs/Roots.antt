-- The roots of a board by their places in the list: those of one polygon stand together, and those of a strip row by row. Assumes nothing.
use Rattle.std.proofs.Common.{ℕ, zero, suc, ◌+◌, ◌*◌, ◌-◌, ◌/◌, ◌%◌, ◌<◌, ◌≤◌, ◌≡◌, refl, sym, ap, ◌∙◌, List, ◌++◌, arith, add-one, suc-mul, mod-eq_of_lt, length, get_or, length-append, get_or-append-add}
use native.Mathlib.Nat.{mul-add-div_right, mul-add-mod_self_right, div-eq_of_lt}
use lib.ListN.{get_or-append}
use Rattle.std.specs.List.{range_with_len}
use Rattle.strips.specs.declared.walk.Strip.{Strip}
use Rattle.build.specs.declared.grid.Cut.{Cut}
use Rattle.build.specs.Grid.{Root, boxed, row_of, cell_of, row_to, grid_to, roots_in, cut_of}
use Rattle.build.specs.Board.{Board, size_at, strips_at, roots_at, roots_to}
use Rattle.build.proofs.Boards.{roots-more, no-roots}
use Rattle.build.proofs.Placing.{row_at, length-grid, grid-more}
use Rattle.net.proofs.All.{All, all_map, all-each, all-at}

-- ---- an element of two lists

pub second-of : {A : Type 0} (l m : List A) (d : A) (i : ℕ) → length l ≤ i → get_or (l ++ m) i d ≡ get_or m (i - length l) d
second-of l m d i h =
    let e : i ≡ length l + (i - length l) = omega arith in
    ap (λ (x : ℕ). get_or (l ++ m) x d) e ∙ get_or-append-add l m (i - length l) d

pub div-mod-at : (n j i m : ℕ) → i < n → m ≡ j * n + i → (m / n ≡ j) × (m % n ≡ i)
div-mod-at n j i m h e =
    rw e (mul-add-div_right (omega arith) j i ∙ ap (λ (x : ℕ). j + x) (div-eq_of_lt h) ∙ omega arith, mul-add-mod_self_right j n i ∙ mod-eq_of_lt h)

-- ---- a strip's cells: cell m is in the row m / nx and the column m % nx

module _ (poly : ℕ) (d : Root) where
  pub grid-at : (s : Strip) (g : Cut) (j m : ℕ) → m < j * g.nx → get_or (grid_to poly s g j) m d ≡ boxed poly (cell_of (row_of s g (m / g.nx)) g.nx (m % g.nx))
  grid-at s g zero m h = absurd (omega arith)
  grid-at s g (suc j) m h =
      let more = ap (grid_to poly s g) (sym (add-one j)) ∙ grid-more poly s g j in
      let l = length-grid poly s g j in
      let a = grid_to poly s g j in
      let b = row_to poly (row_of s g j) g.nx g.nx in
      let n = suc-mul j g.nx in
      let there : j * g.nx ≤ m → (m / g.nx ≡ j) × (m % g.nx ≡ m - length a) = λ k. div-mod-at g.nx j (m - length a) m (omega arith) (omega arith) in
      grind (arith, more, there, get_or-append a b d m, second-of a b d m, grid-at s g j m, row_at poly (row_of s g j) g.nx g.nx (m - length a) d)

  -- ---- a polygon's roots

  abbrev Own : Root → Type 0
  Own r = r.poly ≡ poly

  row-own : (r : Strip) (n i : ℕ) → All Own (row_to poly r n i)
  unfolding row_to
  row-own r n i = all_map Own (λ (k : ℕ). boxed poly (cell_of r n k)) (range_with_len 0 i) (λ k. refl)

  grid-own : (s : Strip) (g : Cut) (j : ℕ) → All Own (grid_to poly s g j)
  unfolding grid_to
  grid-own s g j = all-each Own (λ (k : ℕ). row_to poly (row_of s g k) g.nx g.nx) (range_with_len 0 j) (λ k. row-own (row_of s g k) g.nx g.nx)

  roots-own : (cap c : ℕ) (ss : List Strip) → All Own (roots_in poly cap c ss)
  unfolding roots_in
  roots-own cap c ss = all-each Own (λ (s : Strip). grid_to poly s (cut_of cap c s) (cut_of cap c s).ny) ss (λ s. grid-own s (cut_of cap c s) (cut_of cap c s).ny)

-- root i of the first n polygons, if it is one of polygon p: its place among those of p
pub record Placed (b : Board) (d : Root) (n p i : ℕ) : Type 0 where
  pub behind : length (roots_to b p) ≤ i
  pub within : i - length (roots_to b p) < length (roots_at b p)
  pub same : get_or (roots_to b n) i d ≡ get_or (roots_at b p) (i - length (roots_to b p)) d

pub root-placed : (b : Board) (d : Root) (n p i : ℕ) → i < length (roots_to b n) → (get_or (roots_to b n) i d).poly ≡ p → Placed b d n p i
root-placed b d zero p i h e = let none = rw (no-roots b) at h in absurd (omega arith)
root-placed b d (suc n) p i h e =
    let a = roots_to b n in
    let c = roots_at b n in
    let more = ap (roots_to b) (sym (add-one n)) ∙ roots-more b n in
    let l = length-append a c in
    let own = all-at (λ (r : Root). r.poly ≡ n) d c (i - length a) (roots-own n d b.settings.cap (size_at b n) (strips_at b n)) in
    grind (arith, more, get_or-append a c d i, second-of a c d i, root-placed b d n p i, own)
