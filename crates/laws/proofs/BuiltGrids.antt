-- Of a polygon of one strip, and of a ring in pitch, build leaves roots that are one grid. Assumes nothing.
use lib.Ieee.{Float}
use Rattle.std.proofs.Math.Nat.{div-add-mod}
use Rattle.std.proofs.Common.{ℕ, ◌+◌, ◌*◌, ◌-◌, ◌/◌, ◌%◌, ◌<◌, ◌≤◌, ◌≡◌, sym, ap, subst, ◌∙◌, true, List, [], ◌∷◌, ◌++◌, append-nil, arith, div-lt_iff_lt-mul, mod-lt, ℤ, pos, length, get_or, drop, replicate, get_or-take, get_or-drop, div-add-mod', ap₂, ⊎_elim}
use Rattle.refusals.specs.Limits.{coordinate}
use Rattle.cell.specs.Boxes.{Box}
use Rattle.cell.specs.Cells.{box_of}
use Rattle.cell.proofs.Offsets.{below?, off-on}
use Rattle.cell.proofs.Contact.{and_left}
use Rattle.table.specs.Slots.{number, cell_at, counted}
use Rattle.table.specs.Mesh.{Cell, at, table}
use Rattle.table.proofs.Cells.{length-table, at_table}
use Rattle.table.proofs.Meshes.{root_in}
use Rattle.std.specs.List.{All as Each, AllByRecursion}
use Rattle.strips.specs.Rings.{x_at, y_at}
use Rattle.strips.specs.Walk.{Sound}
use Rattle.strips.specs.declared.walk.Strip.{Strip}
use Rattle.strips.proofs.Bounds.{strips-sound, sound-first}
use Rattle.build.specs.declared.grid.Cut.{Cut}
use Rattle.build.specs.Grid.{Root, width, height, boxed, row_of, cell_of, grid_to, roots_in, cut_of, even_strip, all_even, flat}
use Rattle.build.specs.Board.{Board, ring_at, polygons, unit, size_at, strips_at, roots_at, roots_to, roots_of}
use Rattle.build.specs.Says.{filled, build_leaves}
use Rattle.build.specs.Steps.{Cuts, Fit}
use Rattle.build.specs.Laws.{Accepts, Overlap, IsTiledBy, strip_roots}
use Rattle.build.proofs.Cutting.{cuts}
use Rattle.build.proofs.Placing.{length-grid}
use Rattle.build.proofs.Boards.{sizes}
use Rattle.build.proofs.Tiling.{RootOk, cell-ok, step}
use Rattle.build.proofs.Tiled.{strips-tiled}
use Rattle.build.proofs.Formed.{flat-slot, passed}
use Rattle.build.proofs.Wellformed.{built-formed}
use Rattle.net.proofs.All.{All, all-at}
use Rattle.laws.specs.Grids.{RootOf, OneGrid, Grid, grid_box}
use Rattle.laws.specs.Built.{in_pitch, within_cap, built, BuiltIsOneStrip, BuiltIsOneGrid, BuiltFits}
use Rattle.laws.proofs.Strips.{pairs-at}
use Rattle.laws.proofs.Pitch.{Square, Framed, Clear, ring-squares, ring-framed, ring-apart}
use Rattle.laws.proofs.Fitting.{grid-fits}
use Rattle.laws.proofs.Roots.{grid-at, Placed, root-placed}

-- what stands past the last root
abbrev pub no_root : Root
no_root = record { x0 = 0; y0 = 0; x1 = 0; y1 = 0; poly = 0 }

-- ---- roots that stand row by row, as build leaves those of a strip, are one grid

-- two of them in the same column and row are the same
pub run-once : (from n r s : ℕ) → from ≤ r → from ≤ s → (r - from) % n ≡ (s - from) % n → (r - from) / n ≡ (s - from) / n → r ≡ s
run-once from n r s h k c d = grind (arith, div-add-mod' (r - from) n, div-add-mod' (s - from) n)

-- a polygon's roots stand from the id `from` on: "row by row from the bottom, left to right", n to a row
unfoldable pub run-strip : (t : List Cell) (k from n : ℕ) (g : Grid) → ((r : ℕ) → RootOf t k r → (from ≤ r) × ((at t r).box ≡ grid_box g ((r - from) % n) ((r - from) / n))) → OneGrid t k
run-strip t k from n g f =
    record {
      grid = g;
      column = λ r. (r - from) % n;
      row = λ r. (r - from) / n;
      placed = λ r a. (f r a).1;
      once = λ r s a b. run-once from n r s (f r a).0 (f s b).0;
    }

-- ---- a root's eight numbers, and its box

abbrev pub box_from : Root → Box
box_from r = record { x0 = r.x0; y0 = r.y0; x1 = r.x1; y1 = r.y1 }

pub record Fits (r : Root) : Type 0 where
  x0 : r.x0 ≤ coordinate + coordinate
  y0 : r.y0 ≤ coordinate + coordinate
  x1 : r.x1 ≤ coordinate + coordinate
  y1 : r.y1 ≤ coordinate + coordinate

module _ (rs : List Root) (rest : List ℤ) (i : ℕ) (h : i < length rs) where
  abbrev row : List ℤ
  row = flat rs ++ rest

  numbers : (k : ℕ) → k < 8 → number row i k ≡ get_or (flat (get_or rs i no_root ∷ [])) k (pos 0)
  numbers k l =
      sym (get_or-take 8 (drop (i * 8) row) k (pos 0) l ∙ get_or-drop (i * 8) row k (pos 0))
      ∙ ap (λ (s : List ℤ). get_or s k (pos 0)) (flat-slot rs rest i no_root h)

  abbrev root : Root
  root = get_or rs i no_root

  pub polygon-of : (cell_at row i).poly ≡ root.poly
  unfolding cell_at flat counted
  polygon-of = ap counted (numbers 7 (omega arith))

  box_of_lem : Fits root → box_of (cell_at row i) ≡ box_from root
  unfolding cell_at flat
  box_of_lem f =
      grind (arith, numbers 0, numbers 1, numbers 2, numbers 3, off-on root.x0 f.x0, off-on root.y0 f.y0, off-on root.x1 f.x1, off-on root.y1 f.y1)

-- ---- a root of the table, by its place among the polygon's

abbrev own : Board → ℕ → Root
own b r = get_or (roots_of b) r no_root

pub record Found (b : Board) (size p r : ℕ) : Type 0 where
  pub place : Placed b no_root (polygons b) p r
  pub boxed-as : Fits (own b r) → (at (table (filled b size) (length (roots_of b))) r).box ≡ box_from (own b r)

pub found : (b : Board) (size p r : ℕ) → RootOf (table (filled b size) (length (roots_of b))) p r → Found b size p r
unfolding filled
found b size p r a =
    let rest = replicate (size - length (roots_of b) * 8) (pos 0) in
    let h : r < length (roots_of b) = rw length-table at (root_in (table (filled b size) (length (roots_of b))) r a.top) in
    let c = at_table (filled b size) (length (roots_of b)) r h in
    let o : (own b r).poly ≡ p = sym (polygon-of (roots_of b) rest r h) ∙ sym (ap (λ (x : Cell). x.polygon) c) ∙ a.polygon in
    record {
      place = root-placed b no_root (polygons b) p r h o;
      boxed-as = λ f. ap (λ (x : Cell). x.box) c ∙ box_of_lem (roots_of b) rest r h f;
    }

-- ---- the roots of a strip

-- a strip's cells, as a grid
abbrev pub grid_of : Strip → Cut → Grid
grid_of s g = record { west = s.x0; south = s.y0; wide = width s / g.nx; high = height s / g.ny }

module _ (b : Board) (size : ℕ) (fit : Fit b) (p : ℕ) (below : p < polygons b) (even : all_even (unit b) b.settings.cap (size_at b p) (strips_at b p) ≡ true)
    (s : Strip) (single : strips_at b p ≡ s ∷ []) where
  abbrev g : Cut
  g = cut_of b.settings.cap (size_at b p) s

  pub some : Cuts g
  some = cuts b.settings.cap (size_at b p) s (sizes b fit p)

  sound : Sound s
  sound = sound-first s [] (subst (AllByRecursion Sound) single (strips-sound (ring_at b.counts b.points p)))

  strip-even : even_strip (unit b) g s ≡ true
  unfolding all_even
  strip-even = and_left (even_strip (unit b) g s) (all_even (unit b) b.settings.cap (size_at b p) []) (subst (λ (ss : List Strip). all_even (unit b) b.settings.cap (size_at b p) ss ≡ true) single even)

  pub strip-roots : roots_at b p ≡ grid_to p s g g.ny
  unfolding roots_in
  strip-roots = ap (roots_in p b.settings.cap (size_at b p)) single ∙ append-nil (grid_to p s g g.ny)

  abbrev from : ℕ
  from = length (roots_to b p)

  -- the root r of the polygon, by its place
  pub root_is : (r : ℕ) → Placed b no_root (polygons b) p r → get_or (roots_of b) r no_root ≡ boxed p (cell_of (row_of s g ((r - from) / g.nx)) g.nx ((r - from) % g.nx))
  root_is r w =
      let l = ap length strip-roots ∙ length-grid p s g g.ny in
      let i = w.within in
      w.same ∙ ap (λ (rs : List Root). get_or rs (r - from) no_root) strip-roots ∙ grid-at p no_root s g g.ny (r - from) (omega arith)

  pub root-fits : (r : ℕ) → Placed b no_root (polygons b) p r → Fits (get_or (roots_of b) r no_root)
  root-fits r w =
      let m = r - from in
      let l = ap length strip-roots ∙ length-grid p s g g.ny in
      let i = w.within in
      let h : m < g.ny * g.nx = omega arith in
      let o = cell-ok (unit b) (polygons b) p s g below sound some strip-even (m % g.nx) (m / g.nx) (mod-lt m some.x-some) ((div-lt_iff_lt-mul some.x-some).1 h) in
      let fits : (q : Root) → RootOk (unit b) (polygons b) q → Fits q = λ q o. grind (arith, o.wide.1, o.high.1, o.right, o.top) in
      subst Fits (sym (root_is r w)) (fits (boxed p (cell_of (row_of s g (m / g.nx)) g.nx (m % g.nx))) o)

  filled-strip : OneGrid (table (filled b size) (length (roots_of b))) p
  filled-strip =
      run-strip (table (filled b size) (length (roots_of b))) p from g.nx (grid_of s g)
      (λ r a. (let f = found b size p r a in (f.place.behind, f.boxed-as (root-fits r f.place) ∙ ap box_from (root_is r f.place))))

-- ---- the roots of a ring in pitch

module _ (c x y : ℕ) where
  abbrev squares : Grid
  squares = record { west = x; south = y; wide = c; high = c }

  on-grid : (r : Root) → Square c x y r → box_from r ≡ grid_box squares (r.x0 / c) (r.y0 / c)
  on-grid r s =
      let a : r.x0 ≡ x + c * (r.x0 / c) = omega (arith, div-add-mod r.x0 c, s.west) in
      let b : r.y0 ≡ y + c * (r.y0 / c) = omega (arith, div-add-mod r.y0 c, s.south) in
      let d : r.x1 ≡ x + c * (r.x0 / c + 1) = omega (arith, a, step c (r.x0 / c), s.wide) in
      let e : r.y1 ≡ y + c * (r.y0 / c + 1) = omega (arith, b, step c (r.y0 / c), s.high) in
      grind (arith, a, b, d, e)

  one-place : (r s : Root) → 1 ≤ c → Square c x y r → Square c x y s → r.x0 / c ≡ s.x0 / c → r.y0 / c ≡ s.y0 / c → Overlap r s
  one-place r s some a b e f =
      let h : r.x0 ≡ s.x0 = sym (div-add-mod' r.x0 c) ∙ ap₂ (λ (m n : ℕ). m * c + n) e (a.west ∙ sym b.west) ∙ div-add-mod' s.x0 c in
      let v : r.y0 ≡ s.y0 = sym (div-add-mod' r.y0 c) ∙ ap₂ (λ (m n : ℕ). m * c + n) f (a.south ∙ sym b.south) ∙ div-add-mod' s.y0 c in
      record {
        left = omega (arith, b.wide);
        right = omega (arith, a.wide);
        bottom = omega (arith, b.high);
        top = omega (arith, a.high);
      }

module _ (b : Board) (size : ℕ) (fit : Fit b) (p : ℕ) (pitch : in_pitch (size_at b p) (ring_at b.counts b.points p) ≡ true)
    (within : within_cap b.settings.cap (size_at b p) (strips_at b p) ≡ true)
    (tiled : Each (λ s. IsTiledBy s (strip_roots p b.settings.cap (size_at b p) s)) (strips_at b p)) where
  abbrev ring : List (List ℤ)
  ring = ring_at b.counts b.points p

  abbrev c : ℕ
  c = size_at b p

  abbrev x : ℕ
  x = x_at ring 0 % c

  abbrev y : ℕ
  y = y_at ring 0 % c

  positive : 1 ≤ c
  positive = (sizes b fit p).cell

  -- what holds of each of the polygon's roots
  each : (P : Root → Type 0) → All P (roots_at b p) → (r : ℕ) → Placed b no_root (polygons b) p r → P (own b r)
  each P a r w = subst P (sym w.same) (all-at P no_root (roots_at b p) (r - length (roots_to b p)) a w.within)

  square : (r : ℕ) → Placed b no_root (polygons b) p r → Square c x y (own b r)
  square = each (Square c x y) (ring-squares b.settings.cap c ring pitch within p positive)

  root-frames : (r : ℕ) → Placed b no_root (polygons b) p r → Fits (own b r)
  root-frames r w =
      let f = each Framed (ring-framed p b.settings.cap c ring tiled) r w in
      let q = square r w in
      record {
        x0 = omega (arith, f.right, q.wide);
        y0 = omega (arith, f.top, q.high);
        x1 = f.right;
        y1 = f.top;
      }

  clear : (r s : ℕ) → r < s → Placed b no_root (polygons b) p r → Placed b no_root (polygons b) p s → Overlap (own b r) (own b s) → ⊥
  clear r s h v w o =
      let n = length (roots_to b p) in
      let i : r - n < s - n = omega (arith, v.behind) in
      let t = pairs-at Clear no_root (roots_at b p) (r - n) (s - n) i w.within (ring-apart p b.settings.cap c ring tiled) in
      t (subst (λ (q : Root). Overlap (get_or (roots_at b p) (r - n) no_root) q) w.same (subst (λ (q : Root). Overlap q (own b s)) v.same o))

  no-two : (r s : ℕ) → Placed b no_root (polygons b) p r → Placed b no_root (polygons b) p s
      → (own b r).x0 / c ≡ (own b s).x0 / c → (own b r).y0 / c ≡ (own b s).y0 / c → r ≡ s
  no-two r s v w e f =
      ⊎_elim
      (λ (h : r < s). absurd (clear r s h v w (one-place c x y (own b r) (own b s) positive (square r v) (square s w) e f)))
      (λ (h : s ≤ r). ⊎_elim
      (λ (k : s < r). absurd (clear s r k w v (one-place c x y (own b s) (own b r) positive (square s w) (square r v) (sym e) (sym f))))
      (λ (k : r ≤ s). omega arith)
      (below? s r))
      (below? r s)

  filled-ring : OneGrid (table (filled b size) (length (roots_of b))) p
  filled-ring =
      let t = table (filled b size) (length (roots_of b)) in
      let look : (r : ℕ) → RootOf t p r → (at t r).box ≡ box_from (own b r) = λ r a. (let f = found b size p r a in f.boxed-as (root-frames r f.place)) in
      record {
        grid = squares c x y;
        column = λ r. (at t r).box.x0 / c;
        row = λ r. (at t r).box.y0 / c;
        placed = λ r a.
            let f = found b size p r a in
            let e = look r a in
            e ∙ on-grid c x y (own b r) (square r f.place) ∙ ap (λ (q : Box). grid_box (squares c x y) (q.x0 / c) (q.y0 / c)) (sym e);
        once = λ r s a d e f.
            no-two r s (found b size p r a).place (found b size p s d).place
            (ap (λ (q : Box). q.x0 / c) (sym (look r a)) ∙ e ∙ ap (λ (q : Box). q.x0 / c) (look s d))
            (ap (λ (q : Box). q.y0 / c) (sym (look r a)) ∙ f ∙ ap (λ (q : Box). q.y0 / c) (look s d));
      }

-- ---- an accepted call

module _ (b : Board) (components : List ℕ) (sheets : List Float) (t : List ℤ) (n : ℕ) (e : Accepts b components sheets (length t) n) where
  -- what build leaves of a polygon of one strip is one grid
  pub built-strip : (p : ℕ) → p < polygons b → (s : Strip) → strips_at b p ≡ s ∷ [] → OneGrid (table (build_leaves b components sheets t) n) p
  built-strip p below s single =
      let w = passed b components sheets t n e in
      subst (λ (u : List ℤ). OneGrid (table u n) p) (sym w.left)
      (subst (λ (m : ℕ). OneGrid (table (filled b (length t)) m) p) w.count
      (filled-strip b (length t) w.board p below (w.even p below) s single))

  -- and so is what it leaves of a ring in pitch
  pub built-ring : (p : ℕ) → p < polygons b → in_pitch (size_at b p) (ring_at b.counts b.points p) ≡ true
      → within_cap b.settings.cap (size_at b p) (strips_at b p) ≡ true → OneGrid (table (build_leaves b components sheets t) n) p
  built-ring p below pitch within =
      let w = passed b components sheets t n e in
      subst (λ (u : List ℤ). OneGrid (table u n) p) (sym w.left)
      (subst (λ (m : ℕ). OneGrid (table (filled b (length t)) m) p) w.count
      (filled-ring b (length t) w.board p pitch within (strips-tiled b components sheets (length t) n e p below)))

-- ---- the laws that src/built.rt promises

pub built-one-strip : BuiltIsOneStrip
built-one-strip b k w = built-strip b.board b.components b.sheets b.lent b.count b.accepting k w.there w.strip w.only

pub built-one-grid : BuiltIsOneGrid
built-one-grid b k w = built-ring b.board b.components b.sheets b.lent b.count b.accepting k w.there w.congruent w.within

pub built-fits : BuiltFits
built-fits b k w = grid-fits b.board.settings.max_level (built b) k (built-formed b.board b.components b.sheets b.lent b.count b.accepting).cells (built-one-grid b k w)

pub ruleset grids = (built-one-strip, built-one-grid, built-fits)
