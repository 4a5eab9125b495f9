-- A strip's cells tile it: together they have its area, and no two overlap. Each is a root: in range, with positive sides that are
-- multiples of the unit. Assumes nothing.
use Rattle.std.proofs.Common.{ℕ, zero, suc, ◌+◌, ◌-◌, ◌*◌, ◌/◌, ◌%◌, ◌<◌, ◌≤◌, ◌≡◌, sym, ap, ◌∙◌, true, List, [], ◌∷◌, ◌++◌, ◌⊎◌, inl, inr, ⊎_elim, arith, add-one, mul_comm, mul_assoc, mul-add, add-mul, mul-one, zero-mul, mul-zero, div-add-mod', mul-le-mul_left, mul-div_cancel, add-zero, zero-add, mul-suc, eqb-true}
use Rattle.std.proofs.lemmas.List.Sums.{sum_by-append}
use Rattle.cell.proofs.Contact.{and_left, and_right}
use Rattle.refusals.specs.Limits.{coordinate}
use Rattle.strips.specs.Walk.{Sound}
use Rattle.strips.specs.declared.walk.Strip.{Strip}
use Rattle.build.specs.declared.grid.Cut.{Cut}
use Rattle.build.specs.Grid.{Root, width, height, boxed, row_of, cell_of, row_to, grid_to, evenly, even_strip}
use Rattle.build.specs.Steps.{Cuts}
use Rattle.build.specs.Laws.{area_of}
use Rattle.build.proofs.Cutting.{pieces}
use Rattle.build.proofs.Placing.{row_more, grid-more}

-- a length w that n pieces of whole units make up: each piece is a positive number of units, and the pieces are all of w
module _ (w n u : ℕ) (some : 0 < w) (cut : 1 ≤ n) (e : w % (n * u) ≡ 0) where
  times : ℕ
  times = w / (n * u)

  whole : w ≡ times * u * n
  unfolding times
  whole =
      sym (div-add-mod' w (n * u)) ∙ ap (λ (x : ℕ). w / (n * u) * (n * u) + x) e ∙ add-zero (w / (n * u) * (n * u))
      ∙ ap (λ (x : ℕ). w / (n * u) * x) (mul_comm n u) ∙ sym (mul_assoc (w / (n * u)) u n)

  piece : w / n ≡ times * u
  piece = ap (λ (x : ℕ). x / n) whole ∙ mul-div_cancel (times * u) cut

  pub all-pieces : w / n * n ≡ w
  all-pieces = ap (λ (x : ℕ). x * n) piece ∙ sym whole

  -- a piece is a positive number of units
  pub units : (k : ℕ) × (w / n ≡ suc k * u)
  units = by times piece
    where
      by : (t : ℕ) → w / n ≡ t * u → (k : ℕ) × (w / n ≡ suc k * u)
      by zero q = absurd (let z : w ≡ 0 = sym all-pieces ∙ ap (λ (x : ℕ). x * n) (q ∙ zero-mul u) ∙ zero-mul n in omega arith)
      by (suc k) q = (k, q)

-- the next piece begins where one ends, and later ones not before it
pub step : (d i : ℕ) → d * (i + 1) ≡ d * i + d
step d i = mul-add d i 1 ∙ ap (λ (x : ℕ). d * i + x) (mul-one d)

pub pieces-apart : (x d i j : ℕ) → i < j → x + d * (i + 1) ≤ x + d * j
pieces-apart x d i j h = let l : d * (i + 1) ≤ d * j = mul-le-mul_left d (omega arith) in omega arith

pub record RootOk (u n : ℕ) (r : Root) : Type 0 where
  pub wide : (k : ℕ) × (r.x1 ≡ r.x0 + suc k * u)
  pub high : (k : ℕ) × (r.y1 ≡ r.y0 + suc k * u)
  pub right : r.x1 ≤ coordinate + coordinate
  pub top : r.y1 ≤ coordinate + coordinate
  pub polygon : r.poly < n

-- cell i of row j
module _ (u n poly : ℕ) (s : Strip) (g : Cut) (below : poly < n) (sound : Sound s) (cuts : Cuts g) (even : even_strip u g s ≡ true) where
  x-even : width s % (g.nx * u) ≡ 0
  x-even = eqb-true _ _ (and_left _ (evenly u g.ny (height s)) even)

  y-even : height s % (g.ny * u) ≡ 0
  y-even = eqb-true _ _ (and_right (evenly u g.nx (width s)) _ even)

  x-some : 0 < width s
  x-some = omega (arith, sound.wide)

  y-some : 0 < height s
  y-some = omega (arith, sound.tall)

  pub cell-ok : (i j : ℕ) → i < g.nx → j < g.ny → RootOk u n (boxed poly (cell_of (row_of s g j) g.nx i))
  cell-ok i j h k =
      let a = units (width s) g.nx u x-some cuts.x-some x-even in
      let b = units (height s) g.ny u y-some cuts.y-some y-even in
      record {
        wide = (a.0, omega (arith, step (width s / g.nx) i, a.1));
        high = (b.0, omega (arith, step (height s / g.ny) j, b.1));
        right = omega (arith, pieces (width s) g.nx (i + 1) (omega arith), sound.wide, sound.right);
        top = omega (arith, pieces (height s) g.ny (j + 1) (omega arith), sound.tall, sound.top);
        polygon = below;
      }

-- two cells of a strip lie in different columns or in different rows, and then one ends before the other begins
pub cells-apart : (s : Strip) (g : Cut) (i j p q : ℕ) → (i < p) ⊎ (j < q)
    → ((cell_of (row_of s g j) g.nx i).x1 ≤ (cell_of (row_of s g q) g.nx p).x0) ⊎ ((cell_of (row_of s g j) g.nx i).y1 ≤ (cell_of (row_of s g q) g.nx p).y0)
cells-apart s g i j p q d =
    ⊎_elim
    (λ h. inl (pieces-apart s.x0 (width s / g.nx) i p h))
    (λ h. inr (pieces-apart s.y0 (height s / g.ny) j q h))
    d

area-append : (a b : List Root) → area_of (a ++ b) ≡ area_of a + area_of b
unfolding area_of
area-append a b = sum_by-append (λ (r : Root). (r.x1 - r.x0) * (r.y1 - r.y0)) a b

row-area : (poly : ℕ) (r : Strip) (n i : ℕ) → area_of (row_to poly r n i) ≡ width r / n * i * height r
unfolding row_to area_of
row-area poly r n zero = sym (ap (λ (x : ℕ). x * height r) (mul-zero (width r / n)) ∙ zero-mul (height r))
row-area poly r n (suc i) =
    let d = width r / n in
    let w : r.x0 + d * (i + 1) - (r.x0 + d * i) ≡ d = omega (arith, step d i) in
    let q : d * suc i ≡ d * i + d = mul-suc d i in
    ap area_of (ap (row_to poly r n) (sym (add-one i)) ∙ row_more poly r n i)
    ∙ area-append (row_to poly r n i) (boxed poly (cell_of r n i) ∷ [])
    ∙ ap (λ (x : ℕ). area_of (row_to poly r n i) + (0 + x * height r)) w
    ∙ ap (λ (x : ℕ). x + (0 + d * height r)) (row-area poly r n i)
    ∙ ap (λ (x : ℕ). d * i * height r + x) (zero-add (d * height r))
    ∙ sym (add-mul (d * i) d (height r)) ∙ ap (λ (x : ℕ). x * height r) (sym q)

module _ (poly : ℕ) (s : Strip) (g : Cut) (all : width s / g.nx * g.nx ≡ width s) where
  grid-area : (j : ℕ) → area_of (grid_to poly s g j) ≡ width s * (height s / g.ny * j)
  unfolding grid_to area_of
  grid-area zero = sym (ap (λ (x : ℕ). width s * x) (mul-zero (height s / g.ny)) ∙ mul-zero (width s))
  grid-area (suc j) =
      let d = height s / g.ny in
      let t : s.y0 + d * (j + 1) - (s.y0 + d * j) ≡ d = omega (arith, step d j) in
      ap area_of (ap (grid_to poly s g) (sym (add-one j)) ∙ grid-more poly s g j)
      ∙ area-append (grid_to poly s g j) (row_to poly (row_of s g j) g.nx g.nx)
      ∙ ap (λ (x : ℕ). x + area_of (row_to poly (row_of s g j) g.nx g.nx)) (grid-area j)
      ∙ ap (λ (x : ℕ). width s * (d * j) + x) (row-area poly (row_of s g j) g.nx g.nx ∙ ap (λ (x : ℕ). x * height (row_of s g j)) all ∙ ap (λ (x : ℕ). width s * x) t)
      ∙ sym (mul-add (width s) (d * j) d) ∙ ap (λ (x : ℕ). width s * x) (sym (mul-suc d j))

-- the law: the cells of a strip that is cut evenly have its area
pub strip-area : (u poly : ℕ) (s : Strip) (g : Cut) → Sound s → Cuts g → even_strip u g s ≡ true → area_of (grid_to poly s g g.ny) ≡ width s * height s
strip-area u poly s g sound cuts even =
    grid-area poly s g (all-pieces (width s) g.nx u (omega (arith, sound.wide)) cuts.x-some (eqb-true _ _ (and_left _ (evenly u g.ny (height s)) even))) g.ny
    ∙ ap (λ (x : ℕ). width s * x) (all-pieces (height s) g.ny u (omega (arith, sound.tall)) cuts.y-some (eqb-true _ _ (and_right (evenly u g.nx (width s)) _ even)))
