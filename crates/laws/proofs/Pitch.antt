-- The roots of a ring in pitch are cells of one grid, and no two of them overlap. Assumes nothing.
use Rattle.std.proofs.Common.{ℕ, ◌+◌, ◌*◌, ◌-◌, ◌/◌, ◌%◌, ◌<◌, ◌≤◌, ◌≡◌, sym, ap, ◌∙◌, true, List, [], ◌∷◌, ⊎_elim, subst, arith, ℤ, length, eqb-true, leb-true, div-add-mod', mul-div_cancel, mul_comm, le_of_mul-le-mul_right, lt_of_mul-lt-mul_right}
use Rattle.std.proofs.Math.Nat.{mul-mod_left, add-mul-mod_self_left, mul-sub}
use Rattle.std.specs.List.{All as Each, AllByRecursion, range_with_len}
use Rattle.cell.proofs.Contact.{and_left, and_right}
use Rattle.refusals.specs.Limits.{coordinate}
use Rattle.table.proofs.All.{range-at}
use Rattle.strips.specs.Rings.{x_at, y_at}
use Rattle.strips.specs.Strips.{strips_of}
use Rattle.strips.specs.Walk.{Sound}
use Rattle.strips.specs.declared.walk.Strip.{Strip}
use Rattle.strips.proofs.Bounds.{strips-sound, sound-first, sound-rest}
use Rattle.build.specs.Grid.{Root, width, height, boxed, row_of, cell_of, row_to, grid_to, held_at, roots_in, cut_of}
use Rattle.build.specs.Laws.{IsWithin, Overlap, IsTiledBy, strip_roots}
use Rattle.build.proofs.Tiling.{step}
use Rattle.net.proofs.All.{All, all-by, all-each, all-each-by, all_map, all_both}
use Rattle.laws.specs.Built.{in_pitch, within_cap}
use Rattle.laws.proofs.Strips.{Of, Past, Pairs, all-from, pairs-from, pairs-append, strips-of, strips-past}

-- ---- a length of n cells of c is cut n times

module _ (cap c : ℕ) (some : 1 ≤ c) where
  -- a multiple of c that the cap allows is held at its number of cells
  held : (n : ℕ) → 1 ≤ n → n * c ≤ cap * c → held_at cap c (n * c) ≡ n
  unfolding held_at
  held n h k =
      let q : n * c / c ≡ n = mul-div_cancel n some in
      let r : n * c % c ≡ 0 = mul-mod_left n c in
      let f : n ≤ cap = le_of_mul-le-mul_right k some in
      rw (q, r) (omega arith)

  whole : (a b : ℕ) → a < b → a % c ≡ b % c → (a / c < b / c) × (b - a ≡ (b / c - a / c) * c)
  whole a b h e =
      let u = div-add-mod' a c in
      let v = div-add-mod' b c in
      let l : a / c < b / c = lt_of_mul-lt-mul_right c (omega arith) in
      let m : (b / c - a / c) * c ≡ b / c * c - a / c * c = mul_comm (b / c - a / c) c ∙ mul-sub c (b / c) (a / c) ∙ grind (arith, mul_comm c (b / c), mul_comm c (a / c)) in
      (l, omega arith)

  pub piece : (a b : ℕ) → a < b → a % c ≡ b % c → b - a ≤ cap * c → (b - a) / held_at cap c (b - a) ≡ c
  piece a b h e k =
      let w = whole a b h e in
      let n = b / c - a / c in
      let one : 1 ≤ n = let l = w.0 in omega arith in
      let f : n * c ≤ cap * c = subst (λ (x : ℕ). x ≤ cap * c) w.1 k in
      ap (λ (x : ℕ). x / held_at cap c x) w.1 ∙ ap (λ (m : ℕ). n * c / m) (held n one f)
      ∙ ap (λ (x : ℕ). x / n) (mul_comm n c) ∙ mul-div_cancel c one

-- ---- the cells of strips in pitch

-- a cell of a grid that begins at (x, y), or whole cells from it; the cells are c by c
pub record Square (c x y : ℕ) (r : Root) : Type 0 where
  pub west : r.x0 % c ≡ x
  pub south : r.y0 % c ≡ y
  pub wide : r.x1 ≡ r.x0 + c
  pub high : r.y1 ≡ r.y0 + c

-- a strip in pitch that the cap allows
record Pitched (cap c x y : ℕ) (s : Strip) : Type 0 where
  pub coordinates : Of (λ v. v % c ≡ x) (λ v. v % c ≡ y) s
  pub sound : Sound s
  pub wide : width s ≤ cap * c
  pub high : height s ≤ cap * c

module _ (poly cap c x y : ℕ) (some : 1 ≤ c) where
  strip-squares : (s : Strip) → Pitched cap c x y s → All (Square c x y) (strip_roots poly cap c s)
  unfolding grid_to row_to
  strip-squares s e =
      let g = cut_of cap c s in
      let o = e.coordinates in
      let w : width s / g.nx ≡ c = piece cap c some s.x0 s.x1 e.sound.wide (o.west ∙ sym o.east) e.wide in
      let h : height s / g.ny ≡ c = piece cap c some s.y0 s.y1 e.sound.tall (o.south ∙ sym o.north) e.high in
      all-each (Square c x y) (λ (j : ℕ). row_to poly (row_of s g j) g.nx g.nx) (range_with_len 0 g.ny)
      (λ j. all_map (Square c x y) (λ (i : ℕ). boxed poly (cell_of (row_of s g j) g.nx i)) (range_with_len 0 g.nx)
      (λ i. record {
        west = rw w (add-mul-mod_self_left s.x0 c i ∙ o.west);
        south = rw h (add-mul-mod_self_left s.y0 c j ∙ o.south);
        wide = rw w (omega (arith, step c i));
        high = rw h (omega (arith, step c j));
      }))

  roots-squares : (ss : List Strip) → All (Pitched cap c x y) ss → All (Square c x y) (roots_in poly cap c ss)
  unfolding roots_in
  roots-squares ss a = all-each-by (Pitched cap c x y) (Square c x y) (λ (s : Strip). strip_roots poly cap c s) ss strip-squares a

-- ---- a ring in pitch: each strip is

module _ (cap c : ℕ) where
  points : (ps : List (List ℤ)) → in_pitch c ps ≡ true → (i : ℕ) → i < length ps → (x_at ps i % c ≡ x_at ps 0 % c) × (y_at ps i % c ≡ y_at ps 0 % c)
  unfolding in_pitch
  points ps e i h =
      let t = range-at _ 0 (length ps) e i (omega arith) (omega arith) in
      (eqb-true _ _ (and_left _ _ t), eqb-true _ _ (and_right _ _ t))

  withins : (ss : List Strip) → within_cap cap c ss ≡ true → All (λ s. (width s ≤ cap * c) × (height s ≤ cap * c)) ss
  unfolding within_cap All
  withins [] e = tt
  withins (s ∷ ss) e =
      let here = and_left _ _ e in
      ((leb-true _ _ (and_left _ _ here), leb-true _ _ (and_right _ _ here)), withins ss (and_right _ _ e))

all-sound : (ss : List Strip) → AllByRecursion Sound ss → All Sound ss
unfolding All
all-sound [] a = tt
all-sound (s ∷ ss) a = (sound-first s ss a, all-sound ss (sound-rest s ss a))

module _ (cap c : ℕ) (ps : List (List ℤ)) (pitch : in_pitch c ps ≡ true) (within : within_cap cap c (strips_of ps) ≡ true) where
  abbrev P : ℕ → Type 0
  P v = v % c ≡ x_at ps 0 % c

  abbrev Q : ℕ → Type 0
  Q v = v % c ≡ y_at ps 0 % c

  pitched : All (Pitched cap c (x_at ps 0 % c) (y_at ps 0 % c)) (strips_of ps)
  pitched =
      let o = strips-of P Q ps (λ i h. (points cap c ps pitch i h).0) (λ i h. (points cap c ps pitch i h).1) in
      let S = λ (s : Strip). Sound s × ((width s ≤ cap * c) × (height s ≤ cap * c)) in
      all-by (λ s. Of P Q s × S s) (Pitched cap c (x_at ps 0 % c) (y_at ps 0 % c)) (strips_of ps)
      (λ s a. record { coordinates = a.0; sound = a.1.0; wide = a.1.1.0; high = a.1.1.1 })
      (all_both (Of P Q) S (strips_of ps) o (all_both Sound (λ s. (width s ≤ cap * c) × (height s ≤ cap * c)) (strips_of ps) (all-sound (strips_of ps) (strips-sound ps)) (withins cap c (strips_of ps) within)))

  pub ring-squares : (poly : ℕ) → 1 ≤ c → All (Square c (x_at ps 0 % c) (y_at ps 0 % c)) (roots_in poly cap c (strips_of ps))
  ring-squares poly some = roots-squares poly cap c (x_at ps 0 % c) (y_at ps 0 % c) some (strips_of ps) pitched

-- ---- roots that tile the strips of a ring

abbrev pub Clear : Root → Root → Type 0
Clear a b = ¬ Overlap a b

-- within the frame of coordinates
pub record Framed (r : Root) : Type 0 where
  pub right : r.x1 ≤ coordinate + coordinate
  pub top : r.y1 ≤ coordinate + coordinate

across : (s t : Strip) (a b : Root) → Past s t → IsWithin s a → IsWithin t b → Clear a b
across s t a b p w v o =
    ⊎_elim
    (λ (h : s.y1 ≤ t.y0). omega (arith, o.top, w.top, v.bottom))
    (λ (h : s.x1 ≤ t.x0). omega (arith, o.right, w.right, v.left))
    p

module _ (poly cap c : ℕ) where
  abbrev roots : Strip → List Root
  roots s = strip_roots poly cap c s

  abbrev T : Strip → Type 0
  T s = IsTiledBy s (roots s)

  within-of : (s : Strip) → T s → All (IsWithin s) (roots s)
  within-of s t = all-from (IsWithin s) (roots s) (λ i d h. t.inside i d h)

  roots-apart : (ss : List Strip) → All T ss → Pairs Past ss → Pairs Clear (roots_in poly cap c ss)
  unfolding roots_in Pairs All
  roots-apart [] a p = tt
  roots-apart (s ∷ ss) a p =
      pairs-append Clear (roots s) (roots_in poly cap c ss) (pairs-from Clear (roots s) a.0.apart) (roots-apart ss a.1 p.1)
      (all-by (IsWithin s) (λ r. All (Clear r) (roots_in poly cap c ss)) (roots s)
      (λ r w. all-each-by (λ t. Past s t × T t) (Clear r) roots ss
      (λ t h. all-by (IsWithin t) (Clear r) (roots t) (λ q v. across s t r q h.0 w v) (within-of t h.1))
      (all_both (Past s) T ss p.0 a.1))
      (within-of s a.0))

  framed-of : (s : Strip) → Sound s × T s → All Framed (roots s)
  framed-of s h = all-by (IsWithin s) Framed (roots s) (λ r w. record { right = omega (arith, w.right, h.0.right); top = omega (arith, w.top, h.0.top) }) (within-of s h.1)

  module _ (ps : List (List ℤ)) (tiled : Each T (strips_of ps)) where
    tiles : All T (strips_of ps)
    tiles = all-from T (strips_of ps) (λ i d h. tiled i d h)

    pub ring-apart : Pairs Clear (roots_in poly cap c (strips_of ps))
    ring-apart = roots-apart (strips_of ps) tiles (strips-past ps)

    pub ring-framed : All Framed (roots_in poly cap c (strips_of ps))
    unfolding roots_in
    ring-framed =
        all-each-by (λ s. Sound s × T s) Framed roots (strips_of ps) framed-of
        (all_both Sound T (strips_of ps) (all-sound (strips_of ps) (strips-sound ps)) tiles)
