-- The roots of a strip tile it. Assumes nothing.
use Rattle.std.proofs.Common.{ℕ, zero, suc, ◌+◌, ◌-◌, ◌*◌, ◌/◌, ◌<◌, ◌≤◌, ◌≡◌, refl, true, List, [], ◌∷◌, ◌++◌, ⊎_elim, arith, add-one, mul-le-mul_left, length, length-append, get_or, All, AllPairs, Float}
use Rattle.std.proofs.lemmas.List.{get_or_append_left, get_or-append_right}
use Rattle.std.proofs.lemmas.List.Elements.{All-append}
use Rattle.cell.proofs.Offsets.{below?}
use Rattle.cell.proofs.Contact.{and_left, and_right}
use Rattle.std.specs.List.{AllByRecursion}
use Rattle.strips.specs.Walk.{Sound}
use Rattle.strips.specs.declared.walk.Strip.{Strip}
use Rattle.strips.proofs.Bounds.{strips-sound, sound-first, sound-rest}
use Rattle.build.specs.declared.grid.Cut.{Cut}
use Rattle.build.specs.Grid.{Root, width, height, row_of, row_to, grid_to, cut_of, even_strip, all_even}
use Rattle.build.specs.Board.{Board, polygons, unit, size_at, strips_at}
use Rattle.build.specs.Steps.{Sizes, Cuts}
use Rattle.build.specs.Laws.{Accepts, IsWithin, Overlap, IsTiledBy, strip_roots}
use Rattle.build.proofs.Cutting.{cuts, pieces}
use Rattle.build.proofs.Placing.{row_at, length-row, no-grid, grid-more}
use Rattle.build.proofs.Boards.{sizes}
use Rattle.build.proofs.Formed.{passed-size}
use Rattle.build.proofs.Tiling.{step, strip-area}

-- ---- pairs of a list that was joined of two

abbrev Apart : Root → Root → Type 0
Apart a b = ¬ Overlap a b

pairs-append : (a b : List Root) → AllPairs Apart a → AllPairs Apart b
    → ((i j : ℕ) (d : Root) → i < length a → j < length b → Apart (get_or a i d) (get_or b j d)) → AllPairs Apart (a ++ b)
pairs-append a b p q c i j d h k =
    let n : length (a ++ b) ≡ length a + length b = length-append a b in
    ⊎_elim
    (λ (g : j < length a).
    let f : i < length a = omega arith in
    rw (get_or_append_left a b d i f, get_or_append_left a b d j g) (p i j d h g))
    (λ (g : length a ≤ j).
    let r = get_or-append_right a b (length a) j d refl g in
    let m : j - length a < length b = omega arith in
    ⊎_elim
    (λ (f : i < length a). rw (get_or_append_left a b d i f, r) (c i (j - length a) d f m))
    (λ (f : length a ≤ i). rw (get_or-append_right a b (length a) i d refl f, r) (q (i - length a) (j - length a) d (omega arith) m))
    (below? i (length a)))
    (below? j (length a))

-- ---- the cells of a row, and the rows of a strip

-- the strip as far as a place to the right, and a place upwards
abbrev upto : Strip → ℕ → ℕ → Strip
upto s x y = record { x0 = s.x0; y0 = s.y0; x1 = x; y1 = y }

wider : (s t : Strip) (r : Root) → t.x0 ≤ s.x0 → s.x1 ≤ t.x1 → t.y0 ≤ s.y0 → s.y1 ≤ t.y1 → IsWithin s r → IsWithin t r
wider s t r a b c d w =
    record {
      left = omega (arith, w.left);
      right = omega (arith, w.right);
      bottom = omega (arith, w.bottom);
      top = omega (arith, w.top);
    }

module _ (poly : ℕ) (r : Strip) (n : ℕ) where
  row-within : (i : ℕ) → All (IsWithin (upto r (r.x0 + width r / n * i) r.y1)) (row_to poly r n i)
  row-within i k d h =
      let inside : k + 1 ≤ i = omega (arith, length-row poly r n i) in
      let next = mul-le-mul_left (width r / n) inside in
      rw (row_at poly r n i k d (omega arith)) (record { left = omega arith; right = omega arith; bottom = omega arith; top = omega arith })

  row-apart : (i : ℕ) → AllPairs Apart (row_to poly r n i)
  row-apart i a b d h k =
      let before : a + 1 ≤ b = omega arith in
      let next = mul-le-mul_left (width r / n) before in
      let long = length-row poly r n i in
      rw (row_at poly r n i a d (omega arith), row_at poly r n i b d (omega arith)) (λ o. omega (arith, o.right))

module _ (poly : ℕ) (s : Strip) (g : Cut) where
  -- row j lies within the strip and above the rows before it
  row-in-strip : (j : ℕ) → s.x0 ≤ s.x1 → (k : ℕ) (d : Root) → k < length (row_to poly (row_of s g j) g.nx g.nx)
      → IsWithin (record { x0 = s.x0; y0 = s.y0 + height s / g.ny * j; x1 = s.x1; y1 = s.y0 + height s / g.ny * (j + 1) }) (get_or (row_to poly (row_of s g j) g.nx g.nx) k d)
  row-in-strip j l k d h =
      let fits = pieces (width s) g.nx g.nx (omega arith) in
      wider _ _ _ (omega arith) (omega arith) (omega arith) (omega arith) (row-within poly (row_of s g j) g.nx g.nx k d h)

  grid-within : s.x0 ≤ s.x1 → (j : ℕ) → All (IsWithin (upto s s.x1 (s.y0 + height s / g.ny * j))) (grid_to poly s g j)
  grid-within l zero = rw (no-grid poly s g) (λ k d h. absurd (omega arith))
  grid-within l (suc j) =
      let e = step (height s / g.ny) j in
      let before = grid-within l j in
      let within =
      All-append (IsWithin (upto s s.x1 (s.y0 + height s / g.ny * (j + 1)))) (grid_to poly s g j) (row_to poly (row_of s g j) g.nx g.nx)
      (λ m x q. wider _ _ _ (omega arith) (omega arith) (omega arith) (omega arith) (before m x q))
      (λ m x q. wider _ _ _ (omega arith) (omega arith) (omega arith) (omega arith) (row-in-strip j l m x q)) in
      rw (← add-one j, grid-more poly s g j) within

  grid-apart : s.x0 ≤ s.x1 → (j : ℕ) → AllPairs Apart (grid_to poly s g j)
  grid-apart l zero = rw (no-grid poly s g) (λ a b d h k. absurd (omega arith))
  grid-apart l (suc j) =
      let before = grid-within l j in
      rw (← add-one j, grid-more poly s g j)
      (pairs-append (grid_to poly s g j) (row_to poly (row_of s g j) g.nx g.nx) (grid-apart l j)
      (row-apart poly (row_of s g j) g.nx g.nx)
      (λ p q x m n. λ o. omega (arith, (before p x m).top, (row-in-strip j l q x n).bottom, o.top)))

-- ---- all strips of an accepted board

strip-tiled : (u poly : ℕ) (s : Strip) (g : Cut) → Sound s → Cuts g → even_strip u g s ≡ true → IsTiledBy s (grid_to poly s g g.ny)
strip-tiled u poly s g sound c even =
    let l : s.x0 ≤ s.x1 = omega (arith, sound.wide) in
    let fits = pieces (height s) g.ny g.ny (omega arith) in
    let low : s.y0 < s.y1 = sound.tall in
    let inside = grid-within poly s g l g.ny in
    record {
      area = strip-area u poly s g sound c even;
      inside = λ k d h. wider _ _ _ (omega arith) (omega arith) (omega arith) (omega arith) (inside k d h);
      apart = grid-apart poly s g l g.ny;
    }

all-tiled : (u poly cap c : ℕ) → Sizes cap c → (ss : List Strip) → AllByRecursion Sound ss → all_even u cap c ss ≡ true → All (λ s. IsTiledBy s (strip_roots poly cap c s)) ss
unfolding all_even
all-tiled u poly cap c z [] a e k d h = absurd (omega arith)
all-tiled u poly cap c z (s ∷ ss) a e zero d h =
    strip-tiled u poly s (cut_of cap c s) (sound-first s ss a) (cuts cap c s z) (and_left (even_strip u (cut_of cap c s) s) (all_even u cap c ss) e)
all-tiled u poly cap c z (s ∷ ss) a e (suc k) d h =
    all-tiled u poly cap c z ss (sound-rest s ss a) (and_right (even_strip u (cut_of cap c s) s) (all_even u cap c ss) e) k d (omega arith)

pub strips-tiled : (b : Board) (components : List ℕ) (sheets : List Float) (size n : ℕ) → Accepts b components sheets size n
    → (p : ℕ) → p < polygons b → All (λ s. IsTiledBy s (strip_roots p b.settings.cap (size_at b p) s)) (strips_at b p)
strips-tiled b components sheets size n e p h =
    let q = passed-size b components sheets size n e in
    all-tiled (unit b) p b.settings.cap (size_at b p) (sizes b q.board p) (strips_at b p) (strips-sound _) (q.even p h)
