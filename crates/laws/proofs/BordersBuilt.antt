-- The roots that build leaves of a polygon of one strip are a whole grid, and stay one; so its borders fill its leaves'
-- sides: the laws that src/borders.rt promises. Assumes nothing.
use lib.Ieee.{Float}
use mathlib.Core.Logic.{by_cases}
use native.Mathlib.Decide.{dec_lt}
use lib.ListN.{get_or-append}
use Rattle.std.proofs.Math.Nat.{mul-le-mul_right}
use Rattle.std.proofs.Common.{◌≡◌, sym, ap, subst, ◌∙◌, true, None, List, [], ◌∷◌, ◌++◌, ℕ, zero, suc, ◌+◌, ◌*◌, ◌-◌, ◌<◌, ◌≤◌, arith, add-one, suc-mul, mod-lt, div-lt_iff_lt-mul, ℤ, pos, length, get_or, get_or-append-add, replicate}
use Rattle.table.specs.Mesh.{Cell, at, table}
use Rattle.table.proofs.Cells.{at_table}
use Rattle.table.proofs.Meshes.{root_in}
use Rattle.coarsest.specs.Passes.{balance}
use Rattle.coarsest.proofs.Ends.{balance-evens}
use Rattle.strips.specs.declared.walk.Strip.{Strip}
use Rattle.build.specs.declared.grid.Cut.{Cut}
use Rattle.build.specs.Grid.{Root, cut_of, all_even}
use Rattle.build.specs.Board.{Board, polygons, unit, size_at, strips_at, roots_at, roots_to, roots_of}
use Rattle.build.specs.Says.{filled, build_leaves}
use Rattle.build.specs.Steps.{Cuts, Fit}
use Rattle.build.specs.Laws.{Accepts}
use Rattle.build.proofs.Placing.{length-grid}
use Rattle.build.proofs.Boards.{roots-more, length-roots-more, roots-mono}
use Rattle.build.proofs.Formed.{passed}
use Rattle.build.proofs.Wellformed.{built-formed, built-parentless}
use Rattle.laws.specs.Grids.{RootOf, OneGrid, Splits}
use Rattle.laws.specs.Borders.{FullGrid, BuiltIsFullGrid, BuiltBordersFill}
use Rattle.laws.proofs.Roots.{div-mod-at, Placed}
use Rattle.laws.proofs.BuiltGrids.{no_root, run-strip, polygon-of, box_from, found, grid_of, some, strip-roots, root_is, root-fits}
use Rattle.laws.proofs.Evens.{RootsKept, root-back, box-same, splits-keep, splits-formed, balance-keeps}
use Rattle.laws.proofs.BordersFill.{borders-fill}

-- ---- the roots of a strip are all there

-- the roots of the polygon p stand behind those of the polygons before it
root-at : (b : Board) (d : Root) (n p m : ℕ) → p < n → m < length (roots_at b p) → get_or (roots_to b n) (length (roots_to b p) + m) d ≡ get_or (roots_at b p) m d
root-at b d zero p m h l = absurd (omega arith)
root-at b d (suc n) p m h l =
    let i = length (roots_to b p) + m in
    let more : get_or (roots_to b (suc n)) i d ≡ get_or (roots_to b n ++ roots_at b n) i d = ap (λ (x : List Root). get_or x i d) (ap (roots_to b) (sym (add-one n)) ∙ roots-more b n) in
    by_cases (dec_lt p n)
    (λ k.
    let inside : i < length (roots_to b n) = omega (arith, length-roots-more b p, roots-mono b (p + 1) n (omega arith)) in
    more ∙ get_or-append (roots_to b n) (roots_at b n) d i inside ∙ root-at b d n p m k l)
    (λ k.
    let e : n ≡ p = omega arith in
    more ∙ ap (λ (x : ℕ). get_or (roots_to b x ++ roots_at b x) i d) e ∙ get_or-append-add (roots_to b p) (roots_at b p) m d)

module _ (b : Board) (size : ℕ) (fit : Fit b) (p : ℕ) (below : p < polygons b) (even : all_even (unit b) b.settings.cap (size_at b p) (strips_at b p) ≡ true)
    (s : Strip) (single : strips_at b p ≡ s ∷ [])
    (tops : (r : ℕ) → r < length (roots_of b) → (at (table (filled b size) (length (roots_of b))) r).parent ≡ None) where
  abbrev t : List Cell
  t = table (filled b size) (length (roots_of b))

  abbrev g : Cut
  g = cut_of b.settings.cap (size_at b p) s

  abbrev from : ℕ
  from = length (roots_to b p)

  cuts-some : Cuts g
  cuts-some = some b size fit p below even s single

  count : length (roots_at b p) ≡ g.ny * g.nx
  count = ap length (strip-roots b size fit p below even s single) ∙ length-grid p s g g.ny

  there : (m : ℕ) → m < g.ny * g.nx → from + m < length (roots_of b)
  there m h = omega (arith, count, length-roots-more b p, roots-mono b (p + 1) (polygons b) (omega arith))

  placed : (m : ℕ) → m < g.ny * g.nx → Placed b no_root (polygons b) p (from + m)
  placed m h =
      let back : from + m - from ≡ m = omega arith in
      record {
        behind = omega arith;
        within = omega (arith, count);
        same = root-at b no_root (polygons b) p m below (omega (arith, count)) ∙ ap (λ (x : ℕ). get_or (roots_at b p) x no_root) (sym back);
      }

  root-there : (m : ℕ) → m < g.ny * g.nx → RootOf t p (from + m)
  unfolding filled
  root-there m h =
      let r = from + m in
      let l = there m h in
      let rest = replicate (size - length (roots_of b) * 8) (pos 0) in
      record {
        top = tops r l;
        polygon =
            ap (λ (c : Cell). c.polygon) (at_table (filled b size) (length (roots_of b)) r l)
            ∙ polygon-of (roots_of b) rest r l
            ∙ ap (λ (c : Root). c.poly) (root_is b size fit p below even s single r (placed m h));
      }

  one : OneGrid t p
  one =
      run-strip t p from g.nx (grid_of s g)
      (λ r a.
      (let w = found b size p r a in
      (w.place.behind, w.boxed-as (root-fits b size fit p below even s single r w.place) ∙ ap box_from (root_is b size fit p below even s single r w.place))))

  in-row : (i j : ℕ) → i < g.nx → j < g.ny → j * g.nx + i < g.ny * g.nx
  in-row i j h k = omega (arith, suc-mul j g.nx, mul-le-mul_right g.nx (up k))
    where
      up : j < g.ny → suc j ≤ g.ny
      up l = omega arith

  filled-full : FullGrid t p
  unfolding one run-strip
  filled-full =
      record {
        one = one;
        columns = g.nx;
        rows = g.ny;
        inside = λ r a.
            let w = (found b size p r a).place.within in
            let h : r - from < g.ny * g.nx = omega (arith, count) in
            (mod-lt (r - from) cuts-some.x-some, (div-lt_iff_lt-mul cuts-some.x-some).1 h);
        full = λ i j h k.
            let m = j * g.nx + i in
            let e = div-mod-at g.nx j i (from + m - from) h (omega arith) in
            (from + m, root-there m (in-row i j h k), e.1, e.0);
      }

module _ (b : Board) (components : List ℕ) (sheets : List Float) (t : List ℤ) (n : ℕ) (e : Accepts b components sheets (length t) n) where
  strip-full : (p : ℕ) → p < polygons b → (s : Strip) → strips_at b p ≡ s ∷ [] → FullGrid (table (build_leaves b components sheets t) n) p
  strip-full p below s single =
      let w = passed b components sheets t n e in
      let tops =
      subst (λ (m : ℕ). (r : ℕ) → r < m → (at (table (filled b (length t)) m) r).parent ≡ None) (sym w.count)
      (subst (λ (u : List ℤ). (r : ℕ) → r < n → (at (table u n) r).parent ≡ None) w.left (built-parentless b components sheets t n e)) in
      subst (λ (u : List ℤ). FullGrid (table u n) p) (sym w.left)
      (subst (λ (m : ℕ). FullGrid (table (filled b (length t)) m) p) w.count
      (filled-full b (length t) w.board p below (w.even p below) s single tops))

pub built-full : BuiltIsFullGrid
built-full b k w = strip-full b.board b.components b.sheets b.lent b.count b.accepting k w.there w.strip w.only

-- ---- splits keep a whole grid

full-kept : (t u : List Cell) → RootsKept t u → (k : ℕ) → FullGrid t k → FullGrid u k
full-kept t u kept k f =
    record {
      one = record {
        grid = f.one.grid;
        column = f.one.column;
        row = f.one.row;
        placed = λ r a. box-same t u kept k r a ∙ f.one.placed r (root-back t u kept k r a);
        once = λ r q a b. f.one.once r q (root-back t u kept k r a) (root-back t u kept k q b);
      };
      columns = f.columns;
      rows = f.rows;
      inside = λ r a. f.inside r (root-back t u kept k r a);
      full = λ i j h l. (let r = f.full i j h l in (r.0, on r.0 r.1, r.2, r.3));
    }
  where
    on : (r : ℕ) → RootOf t k r → RootOf u k r
    on r a = let c = kept.0 r (root_in t r a.top) in record { top = c.parent ∙ a.top; polygon = c.polygon ∙ a.polygon }

splits-full : (M : ℕ) (t : List Cell) (k : ℕ) → FullGrid t k → {u : List Cell} → Splits M t u → FullGrid u k
splits-full M t k = splits-keep (λ u. FullGrid u k) (λ t u c. full-kept t u c k) M t

pub built-fill : BuiltBordersFill
built-fill b k w t s =
    let M = b.board.settings.max_level in
    let formed = splits-formed M _ (built-formed b.board b.components b.sheets b.lent b.count b.accepting).cells s in
    let f = splits-full M _ k (built-full b k w) s in
    let u = balance M t in
    let g = full-kept t u (balance-keeps M t formed) k f in
    ((f, borders-fill M t k formed f), (g, borders-fill M u k (balance-evens M t formed).formed g))
