-- Roots placed in the table: their numbers one behind the other, and what is placed later behind what was placed before.
-- Assumes nothing.
use Rattle.std.proofs.Common.{ℕ, zero, suc, ◌+◌, ◌*◌, ◌<◌, ◌≤◌, ◌≡◌, refl, sym, ap, ◌∙◌, List, [], ◌∷◌, ◌++◌, append_assoc, arith, min, add-one, suc-mul, zero-mul, ⊎_elim, ℤ, pos, length, take, drop, get_or, length-append, take-append-drop, take_at, drop_at, length-take-le, drop-drop}
use Rattle.std.proofs.lemmas.Grind.{flat_map-append}
use Rattle.std.proofs.lemmas.List.FromFn.{length-map-range_with_len, get_or-map-range_with_len, map-range_with_len_more}
use Rattle.cell.proofs.Offsets.{below?}
use lib.Seq.{sets-eq}
use Rattle.refusals.specs.Limits.{max_polygons}
use Rattle.cell.specs.Cells.{no_cell, root_of}
use Rattle.cell.specs.Ticks.{on}
use Rattle.table.specs.Slots.{stored, kept, put_cell}
use Rattle.table.specs.Mesh.{slot_numbers}
use Rattle.table.proofs.Ids.{flat_map-range-more}
use Rattle.strips.specs.declared.walk.Strip.{Strip}
use Rattle.build.specs.declared.grid.Cut.{Cut}
use Rattle.build.specs.Grid.{Root, boxed, row_of, cell_of, row_to, grid_to, roots_in, mesh_root, flat, cut_of}
use Rattle.build.specs.Steps.{placed}

pub length-flat : (rs : List Root) → length (flat rs) ≡ length rs * 8
unfolding flat
length-flat [] = refl
length-flat (r ∷ rs) = omega (arith, length-flat rs)

pub flat_append : (a b : List Root) → flat (a ++ b) ≡ flat a ++ flat b
unfolding flat
flat_append a b = flat_map-append (λ (r : Root). slot_numbers (mesh_root r)) a b

pub placed-none : (t : List ℤ) (k : ℕ) → placed t k [] ≡ t
unfolding placed flat
placed-none t k = let e : k + 0 ≡ k = omega arith in rw e (take-append-drop (k * 8) t)

-- the row below k, in front
length-below : (t : List ℤ) (k n : ℕ) → (k + n) * 8 ≤ length t → length (take (k * 8) t) ≡ k * 8
length-below t k n h = length-take-le (k * 8) t (omega arith)

pub placed-more : (t : List ℤ) (k m : ℕ) (a b : List Root) → m ≡ k + length a → (m + length b) * 8 ≤ length t → placed (placed t k a) m b ≡ placed t k (a ++ b)
unfolding placed
placed-more t k m a b e h =
    let p = take (k * 8) t in
    let n : length (p ++ flat a) ≡ m * 8 = length-append p (flat a) ∙ omega (arith, length-flat a, length-below t k (length a) (omega arith)) in
    let q : p ++ (flat a ++ drop ((k + length a) * 8) t) ≡ (p ++ flat a) ++ drop ((k + length a) * 8) t = sym (append_assoc p (flat a) (drop ((k + length a) * 8) t)) in
    let f : take (m * 8) ((p ++ flat a) ++ drop ((k + length a) * 8) t) ≡ p ++ flat a = take_at (p ++ flat a) _ (m * 8) n in
    let s : (m + length b) * 8 ≡ m * 8 + length b * 8 = omega arith in
    let d : drop ((m + length b) * 8) ((p ++ flat a) ++ drop ((k + length a) * 8) t) ≡ drop ((k + length (a ++ b)) * 8) t =
    ap (λ (x : ℕ). drop x ((p ++ flat a) ++ drop ((k + length a) * 8) t)) s
    ∙ sym (drop-drop (length b * 8) (m * 8) ((p ++ flat a) ++ drop ((k + length a) * 8) t))
    ∙ ap (drop (length b * 8)) (drop_at (p ++ flat a) (drop ((k + length a) * 8) t) (m * 8) n)
    ∙ drop-drop (length b * 8) ((k + length a) * 8) t
    ∙ ap (λ (x : ℕ). drop x t) (ends (k) (length a) (length b) (length (a ++ b)) (length-append a b)) in
    rw (q, f, d, flat_append a b, append_assoc, append_assoc) refl
  where
    ends : (k x y z : ℕ) → z ≡ x + y → (k + x) * 8 + y * 8 ≡ (k + z) * 8
    ends k x y z e = omega arith

-- a root written as a cell
pub root_placed : (t : List ℤ) (k : ℕ) (s : Strip) (poly : ℕ) → poly < max_polygons → (k + 1) * 8 ≤ length t
    → put_cell t k (root_of s.x0 s.y0 s.x1 s.y1 poly) ≡ placed t k (boxed poly s ∷ [])
unfolding put_cell stored kept placed flat
root_placed t k s poly few h =
    let e1 : k * 8 + 1 ≡ suc (k * 8) = omega arith in
    let e2 : k * 8 + 2 ≡ suc (suc (k * 8)) = omega arith in
    let e3 : k * 8 + 3 ≡ suc (suc (suc (k * 8))) = omega arith in
    let e4 : k * 8 + 4 ≡ suc (suc (suc (suc (k * 8)))) = omega arith in
    let e5 : k * 8 + 5 ≡ suc (suc (suc (suc (suc (k * 8))))) = omega arith in
    let e6 : k * 8 + 6 ≡ suc (suc (suc (suc (suc (suc (k * 8)))))) = omega arith in
    let e7 : k * 8 + 7 ≡ suc (suc (suc (suc (suc (suc (suc (k * 8))))))) = omega arith in
    let p : min poly 9223372036854775807 ≡ poly = omega arith in
    let d : (k + 1) * 8 ≡ k * 8 + 8 = omega arith in
    rw (e1, e2, e3, e4, e5, e6, e7, p, d)
    (sets-eq (on s.x0 ∷ on s.y0 ∷ on s.x1 ∷ on s.y1 ∷ pos 0 ∷ pos no_cell ∷ pos no_cell ∷ pos poly ∷ []) t (k * 8) (omega arith)
    ∙ append_assoc (take (k * 8) t) _ (drop (k * 8 + 8) t))

pub row_more : (poly : ℕ) (r : Strip) (n i : ℕ) → row_to poly r n (i + 1) ≡ row_to poly r n i ++ (boxed poly (cell_of r n i) ∷ [])
unfolding row_to
row_more poly r n i = map-range_with_len_more (λ (k : ℕ). boxed poly (cell_of r n k)) 0 i i (omega arith)

pub length-row : (poly : ℕ) (r : Strip) (n i : ℕ) → length (row_to poly r n i) ≡ i
unfolding row_to
length-row poly r n i = length-map-range_with_len (λ (k : ℕ). boxed poly (cell_of r n k)) 0 i

pub row_at : (poly : ℕ) (r : Strip) (n i m : ℕ) (d : Root) → m < i → get_or (row_to poly r n i) m d ≡ boxed poly (cell_of r n m)
unfolding row_to
row_at poly r n i m d h = get_or-map-range_with_len (λ (k : ℕ). boxed poly (cell_of r n k)) 0 i m m d h (omega arith)

pub row-none : (t : List ℤ) (k poly : ℕ) (r : Strip) (n : ℕ) → t ≡ placed t k (row_to poly r n 0)
unfolding row_to
row-none t k poly r n = sym (placed-none t k)

pub grid-more : (poly : ℕ) (s : Strip) (g : Cut) (j : ℕ) → grid_to poly s g (j + 1) ≡ grid_to poly s g j ++ row_to poly (row_of s g j) g.nx g.nx
unfolding grid_to
grid-more poly s g j = flat_map-range-more (λ (k : ℕ). row_to poly (row_of s g k) g.nx g.nx) j

pub no-grid : (poly : ℕ) (s : Strip) (g : Cut) → grid_to poly s g 0 ≡ []
unfolding grid_to
no-grid poly s g = refl

pub length-grid-more : (poly : ℕ) (s : Strip) (g : Cut) (j : ℕ) → length (grid_to poly s g (j + 1)) ≡ length (grid_to poly s g j) + g.nx
length-grid-more poly s g j =
    ap length (grid-more poly s g j) ∙ length-append (grid_to poly s g j) (row_to poly (row_of s g j) g.nx g.nx)
    ∙ ap (λ (n : ℕ). length (grid_to poly s g j) + n) (length-row poly (row_of s g j) g.nx g.nx)

pub grid_mono : (poly : ℕ) (s : Strip) (g : Cut) (i j : ℕ) → i ≤ j → length (grid_to poly s g i) ≤ length (grid_to poly s g j)
grid_mono poly s g i zero h = let e : i ≡ 0 = omega arith in rw e (omega arith)
grid_mono poly s g i (suc j) h =
    let r = grid_mono poly s g i j in
    let m = rw (add-one j) at (length-grid-more poly s g j) in
    ⊎_elim
    (λ (k : i < suc j). let q = r (omega arith) in omega arith)
    (λ (k : suc j ≤ i). let e : i ≡ suc j = omega arith in rw e (omega arith))
    (below? i (suc j))

pub grid-none : (t : List ℤ) (k poly : ℕ) (s : Strip) (g : Cut) → t ≡ placed t k (grid_to poly s g 0)
unfolding grid_to
grid-none t k poly s g = sym (placed-none t k)

pub length-grid : (poly : ℕ) (s : Strip) (g : Cut) (j : ℕ) → length (grid_to poly s g j) ≡ j * g.nx
unfolding grid_to
length-grid poly s g zero = sym (zero-mul g.nx)
length-grid poly s g (suc j) =
    rw (add-one j) at (length-grid-more poly s g j) ∙ ap (λ (n : ℕ). n + g.nx) (length-grid poly s g j) ∙ sym (suc-mul j g.nx)

pub roots-none : (poly cap c : ℕ) → roots_in poly cap c [] ≡ []
unfolding roots_in
roots-none poly cap c = refl

pub roots-cons : (poly cap c : ℕ) (s : Strip) (ss : List Strip) → roots_in poly cap c (s ∷ ss) ≡ grid_to poly s (cut_of cap c s) (cut_of cap c s).ny ++ roots_in poly cap c ss
unfolding roots_in
roots-cons poly cap c s ss = refl

pub length-roots-cons : (poly cap c : ℕ) (s : Strip) (ss : List Strip) → length (roots_in poly cap c (s ∷ ss)) ≡ length (grid_to poly s (cut_of cap c s) (cut_of cap c s).ny) + length (roots_in poly cap c ss)
length-roots-cons poly cap c s ss =
    ap length (roots-cons poly cap c s ss) ∙ length-append (grid_to poly s (cut_of cap c s) (cut_of cap c s).ny) (roots_in poly cap c ss)

-- a strip's cells, and then the rest
pub strip-placed : (t u : List ℤ) (at m poly cap c : ℕ) (s : Strip) (ss : List Strip)
    → u ≡ placed t at (grid_to poly s (cut_of cap c s) (cut_of cap c s).ny)
    → m ≡ at + length (grid_to poly s (cut_of cap c s) (cut_of cap c s).ny)
    → (at + length (roots_in poly cap c (s ∷ ss))) * 8 ≤ length t
    → placed u m (roots_in poly cap c ss) ≡ placed t at (roots_in poly cap c (s ∷ ss))
strip-placed t u at m poly cap c s ss e f h =
    rw e (placed-more t at m (grid_to poly s (cut_of cap c s) (cut_of cap c s).ny) (roots_in poly cap c ss) f (omega (arith, length-roots-cons poly cap c s ss)))
    ∙ ap (placed t at) (sym (roots-cons poly cap c s ss))

pub room-down : (x y n m : ℕ) → x ≤ y → y * 8 ≤ n → m ≡ n → x * 8 ≤ m
room-down x y n m h r e = omega arith
