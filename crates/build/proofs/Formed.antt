-- What build leaves is a well-formed table in which every cell is a root and a leaf: each slot below the count has level 0, no parent and
-- no child, coordinates in range, sides that are positive multiples of 2^(max_level+1) and a polygon of the board; the rest is zero.
-- Assumes nothing.
use lib.Ieee.{Float}
use Rattle.std.proofs.Common.{ℕ, zero, suc, ◌+◌, ◌-◌, ◌*◌, ◌/◌, ◌<◌, ◌≤◌, ◌≡◌, refl, ap, ◌∙◌, true, List, [], ◌∷◌, ◌++◌, ⊎_elim, arith, add-one, ltb, ℤ, pos, length, get_or, take, drop, replicate, All, get_or-append-add, ltb-false}
use Rattle.std.proofs.lemmas.List.Elements.{All-append}
use lib.ListN.{get_or-replicate, length-replicate, get_or-eq_default}
use Rattle.cell.proofs.Offsets.{below?}
use Rattle.cell.proofs.Contact.{and_left, and_right}
use Rattle.refusals.specs.Said.{Said, accepted}
use Rattle.std.specs.List.{AllByRecursion}
use Rattle.table.specs.Rows.{head_values}
use Rattle.strips.specs.Walk.{Sound}
use Rattle.strips.specs.declared.walk.Strip.{Strip}
use Rattle.strips.proofs.Bounds.{strips-sound, sound-first, sound-rest}
use Rattle.strips.proofs.Picking.{split}
use Rattle.build.specs.declared.grid.Cut.{Cut}
use Rattle.build.specs.Grid.{Root, row_of, row_to, grid_to, roots_in, cut_of, even_strip, all_even, flat}
use Rattle.build.specs.Board.{Board, polygons, unit, size_at, strips_at, roots_at, roots_to, roots_of}
use Rattle.build.specs.Says.{rows_shaped, settings_ok, judge_from, even_from, room_for, roots_head, build_says, filled, build_leaves}
use Rattle.build.specs.Laws.{Accepts}
use Rattle.build.specs.Steps.{Sizes, Cuts, Fit, Tabled}
use Rattle.build.proofs.Cutting.{cuts}
use Rattle.build.proofs.Placing.{row_at, length-row, no-grid, grid-more, length-flat}
use Rattle.build.proofs.Boards.{sizes, roots-more, no-roots}
use Rattle.build.proofs.Fitting.{refused-accepted, sound-passes, even-at, even-passes, tabled, room_fits, fit}
use Rattle.build.proofs.Tiling.{RootOk, cell-ok}

module _ (u n poly : ℕ) (below : poly < n) where
  module _ (s : Strip) (g : Cut) (sound : Sound s) (c : Cuts g) (even : even_strip u g s ≡ true) where
    row_ok : (j : ℕ) → j < g.ny → All (RootOk u n) (row_to poly (row_of s g j) g.nx g.nx)
    row_ok j h k d l =
        let inside : k < g.nx = omega (arith, length-row poly (row_of s g j) g.nx g.nx) in
        rw (row_at poly (row_of s g j) g.nx g.nx k d inside) (cell-ok u n poly s g below sound c even k j inside h)

    grid-ok : (j : ℕ) → j ≤ g.ny → All (RootOk u n) (grid_to poly s g j)
    grid-ok zero h = rw (no-grid poly s g) (λ k d l. absurd (omega arith))
    grid-ok (suc j) h =
        rw (← add-one j, grid-more poly s g j)
        (All-append (RootOk u n) (grid_to poly s g j) (row_to poly (row_of s g j) g.nx g.nx) (grid-ok j (omega arith)) (row_ok j (omega arith)))

  roots-ok : (cap c : ℕ) → Sizes cap c → (ss : List Strip) → AllByRecursion Sound ss → all_even u cap c ss ≡ true → All (RootOk u n) (roots_in poly cap c ss)
  unfolding roots_in all_even
  roots-ok cap c z [] a e = λ k d l. absurd (omega arith)
  roots-ok cap c z (s ∷ ss) a e =
      All-append (RootOk u n) (grid_to poly s (cut_of cap c s) (cut_of cap c s).ny) (roots_in poly cap c ss)
      (grid-ok s (cut_of cap c s) (sound-first s ss a) (cuts cap c s z) (and_left (even_strip u (cut_of cap c s) s) (all_even u cap c ss) e) (cut_of cap c s).ny (omega arith))
      (roots-ok cap c z ss (sound-rest s ss a) (and_right (even_strip u (cut_of cap c s) s) (all_even u cap c ss) e))

board-ok : (b : Board) → Fit b → ((p : ℕ) → p < polygons b → all_even (unit b) b.settings.cap (size_at b p) (strips_at b p) ≡ true)
    → (p : ℕ) → p ≤ polygons b → All (RootOk (unit b) (polygons b)) (roots_to b p)
board-ok b f e zero h = rw (no-roots b) (λ k d l. absurd (omega arith))
board-ok b f e (suc p) h =
    rw (← add-one p, roots-more b p)
    (All-append (RootOk (unit b) (polygons b)) (roots_to b p) (roots_at b p)
    (board-ok b f e p (omega arith))
    (roots-ok (unit b) (polygons b) p (omega arith) b.settings.cap (size_at b p) (sizes b f p) (strips_at b p) (strips-sound _) (e p (omega arith))))

-- a slot's eight numbers
abbrev pub slot : List ℤ → ℕ → List ℤ
slot t i = take 8 (drop (i * 8) t)

pub flat-slot : (rs : List Root) (rest : List ℤ) (i : ℕ) (d : Root) → i < length rs → slot (flat rs ++ rest) i ≡ flat (get_or rs i d ∷ [])
unfolding flat
flat-slot [] rest i d h = absurd (omega arith)
flat-slot (r ∷ rs) rest zero d h = refl
flat-slot (r ∷ rs) rest (suc i) d h =
    let e : suc i * 8 ≡ suc (suc (suc (suc (suc (suc (suc (suc (i * 8)))))))) = omega arith in
    rw e (flat-slot rs rest i d (omega arith))

zero_row : (n i : ℕ) → get_or (replicate n (pos 0)) i (pos 0) ≡ pos 0
zero_row n i =
    ⊎_elim
    (λ (h : i < n). get_or-replicate n i (pos 0) (pos 0) h)
    (λ (h : n ≤ i). get_or-eq_default (replicate n (pos 0)) (pos 0) {n = i} (let e = length-replicate n (pos 0) in omega arith))
    (below? i n)

-- a table whose first n slots are roots of a board, and the rest zero
pub record RootsOnly (b : Board) (t : List ℤ) (n : ℕ) : Type 0 where
  pub root : ℕ → Root
  pub held : (i : ℕ) → i < n → slot t i ≡ flat (root i ∷ [])
  pub ok : (i : ℕ) → i < n → RootOk (unit b) (polygons b) (root i)
  pub rest : (j : ℕ) → n * 8 ≤ j → get_or t j (pos 0) ≡ pos 0

filled-roots : (b : Board) (size : ℕ) → All (RootOk (unit b) (polygons b)) (roots_of b) → RootsOnly b (filled b size) (length (roots_of b))
unfolding filled
filled-roots b size e =
    record {
      root = λ i. get_or (roots_of b) i (record { x0 = 0; y0 = 0; x1 = 0; y1 = 0; poly = 0 });
      held = λ i h. flat-slot (roots_of b) _ i _ h;
      ok = λ i h. e i _ h;
      rest = λ j h.
          let f = length-flat (roots_of b) in
          let q : j ≡ length (flat (roots_of b)) + (j - length (roots_of b) * 8) = omega arith in
          ap (λ (x : ℕ). get_or (flat (roots_of b) ++ replicate (size - length (roots_of b) * 8) (pos 0)) x (pos 0)) q
          ∙ get_or-append-add (flat (roots_of b)) (replicate (size - length (roots_of b) * 8) (pos 0)) (j - length (roots_of b) * 8) (pos 0)
          ∙ zero_row (size - length (roots_of b) * 8) (j - length (roots_of b) * 8);
    }

same_count : (M m n : ℕ) → ◌≡◌ {A = Said} (accepted (m ∷ m ∷ M ∷ [])) (accepted (n ∷ n ∷ M ∷ [])) → m ≡ n
same_count M m n e = cc

-- what an accepted call was found to have, and what it leaves
pub record Passed (b : Board) (t u : List ℤ) (n : ℕ) : Type 0 where
  pub board : Fit b
  pub shape : Tabled t
  pub even : (p : ℕ) → p < polygons b → all_even (unit b) b.settings.cap (size_at b p) (strips_at b p) ≡ true
  pub count : length (roots_of b) ≡ n
  pub room : n ≤ length t / 8
  pub left : u ≡ filled b (length t)

module _ (b : Board) (components : List ℕ) (sheets : List Float) (t : List ℤ) (n : ℕ) (e : Accepts b components sheets (length t) n) where
  abbrev values : List ℕ
  values = head_values (roots_head b n)

  pub passed : Passed b t (build_leaves b components sheets t) n
  unfolding build_says build_leaves
  passed =
      split (rows_shaped b.layers components sheets b.counts b.points (length t))
      (λ s. split (settings_ok b) (λ z. go s z (rw (s, z) at e)) (λ z. absurd (refused-accepted 3 0 values (rw (s, z) at e))))
      (λ s. absurd (refused-accepted 7 0 values (rw s at e)))
    where
      go : rows_shaped b.layers components sheets b.counts b.points (length t) ≡ true → settings_ok b ≡ true
          → judge_from sheets b.counts b.points 0 (polygons b) (even_from b 0 (polygons b) (room_for b (length t / 8) (length (roots_of b)))) ≡ accepted values
          → Passed b t (build_leaves b components sheets t) n
      go s z j =
          let o = room_for b (length t / 8) (length (roots_of b)) in
          let v = sound-passes sheets b.counts b.points (even_from b 0 (polygons b) o) values 0 (polygons b) j in
          let r = even-passes b o values 0 (polygons b) v in
          split (ltb (length t / 8) (length (roots_of b)))
          (λ q. absurd (refused-accepted 6 0 values (rw q at r)))
          (λ q.
          let c : length (roots_of b) ≡ n = same_count b.settings.max_level (length (roots_of b)) n (rw q at r) in
          let k : length (roots_of b) ≤ length t / 8 = ltb-false _ _ q in
          record {
            board = fit b components sheets (length t) s z (even_from b 0 (polygons b) o) values j;
            shape = tabled t (room_fits b components sheets (length t) s);
            even = λ p h. even-at b o values (polygons b) p v h;
            count = c;
            room = omega arith;
            left = rw (s, z, j) refl;
          })

  -- the law: of an accepted call the table has the answer's number of roots, and nothing else
  pub built-roots : RootsOnly b (build_leaves b components sheets t) n
  built-roots =
      let p = passed in
      rw p.left (rw p.count at (filled-roots b (length t) (board-ok b p.board p.even (polygons b) (omega arith))))

-- the same of a call with a table of this length
pub passed-size : (b : Board) (components : List ℕ) (sheets : List Float) (size n : ℕ) → Accepts b components sheets size n
    → Passed b (replicate size (pos 0)) (build_leaves b components sheets (replicate size (pos 0))) n
passed-size b components sheets size n e = passed b components sheets (replicate size (pos 0)) n (rw (length-replicate size (pos 0)) e)
