-- Tiles that fill a rectangle: those that begin where a tile ends, or end where it begins, fill its side. Assumes
-- nothing.
use Rattle.std.proofs.Common.{◌≡◌, refl, sym, ap, ◌∙◌, Bool, true, false, ◌&&◌, cond, ℕ, ◌+◌, ◌-◌, ◌<◌, ◌≤◌, arith, eqb, eqb-true, eq-eqb}
use mathlib.Core.Logic.{by_cases}
use native.Mathlib.Decide.{dec_lt}
use Rattle.table.proofs.All.{and_left, and_right, and_both}
use Rattle.cell.specs.Boxes.{common}
use Rattle.laws.proofs.BordersTotals.{total, total-none, total-same, part, Held, filled}

-- tile i goes from x0 i to x1 i, and from y0 i to y1 i
module _ (n : ℕ) (tile : ℕ → Bool) (x0 x1 y0 y1 : ℕ → ℕ) where
  abbrev pub IsTile : ℕ → Type 0
  IsTile i = (i < n) × (tile i ≡ true)

  pub record HoldsUnit (x y i : ℕ) : Type 0 where
    pub left : x0 i ≤ x
    pub right : x < x1 i
    pub low : y0 i ≤ y
    pub high : y < y1 i

  pub record TileAt (x y : ℕ) : Type 0 where
    pub id : ℕ
    pub is : IsTile id
    pub holds : HoldsUnit x y id

  -- the tiles fill the rectangle from (west, south) to (east, north): no two of them hold the same unit
  pub record Tiles (west east south north : ℕ) : Type 0 where
    pub wide : (i : ℕ) → IsTile i → x0 i < x1 i
    pub high : (i : ℕ) → IsTile i → y0 i < y1 i
    pub from_west : (i : ℕ) → IsTile i → west ≤ x0 i
    pub to_east : (i : ℕ) → IsTile i → x1 i ≤ east
    pub from_south : (i : ℕ) → IsTile i → south ≤ y0 i
    pub to_north : (i : ℕ) → IsTile i → y1 i ≤ north
    pub once : (x y i j : ℕ) → IsTile i → IsTile j → HoldsUnit x y i → HoldsUnit x y j → i ≡ j
    pub there : (x y : ℕ) → west ≤ x → x < east → south ≤ y → y < north → TileAt x y

  -- the lengths that the tiles whose sides are on a line have in common with a side from a to b
  abbrev pub beside : (ℕ → Bool) → ℕ → ℕ → ℕ → ℕ
  beside on a b j = cond (tile j) (cond (on j) (common a b (y0 j) (y1 j)) 0) 0

  abbrev pub starts : ℕ → ℕ → Bool
  starts x j = eqb x (x0 j)

  abbrev pub ends : ℕ → ℕ → Bool
  ends x j = eqb (x1 j) x

  both : (t b : Bool) (v : ℕ) → cond t (cond b v 0) 0 ≡ cond (t && b) v 0
  both true b v = refl
  both false b v = refl

  -- one line, of which each unit is held by just one tile
  line : (on : ℕ → Bool) (a b : ℕ) → a ≤ b → ((y : ℕ) → a ≤ y → y < b → Held n (λ j. tile j && on j) y0 y1 a y) → total (beside on a b) n ≡ b - a
  line on a b l h =
      let e : a + (b - a) ≡ b = omega arith in
      let f = filled n (λ j. tile j && on j) y0 y1 a (b - a) (λ y p q. h y p (omega arith)) in
      total-same (beside on a b) (part n (λ j. tile j && on j) y0 y1 a b) n (λ j k. both (tile j) (on j) (common a b (y0 j) (y1 j)))
      ∙ ap (λ (c : ℕ). total (part n (λ j. tile j && on j) y0 y1 a c) n) (sym e) ∙ f

  none : (on : ℕ → Bool) (a b : ℕ) → ((j : ℕ) → IsTile j → on j ≡ true → ⊥) → total (beside on a b) n ≡ 0
  none on a b h = total-none (beside on a b) n (λ j l. by (tile j) (on j) (common a b (y0 j) (y1 j)) (λ e f. h j (l, e) f))
    where
      by : (t u : Bool) (v : ℕ) → (t ≡ true → u ≡ true → ⊥) → cond t (cond u v 0) 0 ≡ 0
      by true true v o = absurd (o refl refl)
      by true false v o = refl
      by false u v o = refl

  module _ (west east south north : ℕ) (tiles : Tiles west east south north) (i : ℕ) (own : IsTile i) where
    -- the tile that holds the unit behind the side's unit y begins at the side, or it would hold the unit before as well
    starting : (x1 i ≡ east → ⊥) → (y : ℕ) → y0 i ≤ y → y < y1 i → Held n (λ j. tile j && starts (x1 i) j) y0 y1 (y0 i) y
    starting out y l h =
        let p = tiles.wide i own in
        let q = tiles.from_west i own in
        let r = tiles.to_east i own in
        let s = tiles.from_south i own in
        let u = tiles.to_north i own in
        let inside : x1 i < east = by_cases (dec_lt (x1 i) east) (λ k. k) (λ k. absurd (out (omega arith))) in
        let o = tiles.there (x1 i) y (omega arith) inside (omega arith) (omega arith) in
        let g = o.holds.left in
        let f = o.holds.right in
        let here : x1 i ≡ x0 o.id =
        by_cases (dec_lt (x0 o.id) (x1 i))
        (λ k.
        let before : HoldsUnit (x1 i - 1) y o.id = record { left = omega arith; right = omega arith; low = o.holds.low; high = o.holds.high } in
        let d : o.id ≡ i = tiles.once (x1 i - 1) y o.id i o.is own before (record { left = omega arith; right = omega arith; low = l; high = h }) in
        let c = ap x1 d in
        absurd (omega arith))
        (λ k. omega arith) in
        record {
          one = o.id;
          below = o.is.0;
          counts = and_both (tile o.id) (starts (x1 i) o.id) o.is.1 (eq-eqb (x1 i) (x0 o.id) here);
          low = o.holds.low;
          high = o.holds.high;
          only = λ j k e lo hi.
              let t = and_left (tile j) (starts (x1 i) j) e in
              let v = eqb-true (x1 i) (x0 j) (and_right (tile j) (starts (x1 i) j) e) in
              let w = tiles.wide j (k, t) in
              tiles.once (x1 i) y j o.id (k, t) o.is (record { left = omega arith; right = omega arith; low = lo; high = hi }) o.holds;
        }

    -- and the one that holds the unit before it ends at the side
    ending : (x0 i ≡ west → ⊥) → (y : ℕ) → y0 i ≤ y → y < y1 i → Held n (λ j. tile j && ends (x0 i) j) y0 y1 (y0 i) y
    ending out y l h =
        let p = tiles.wide i own in
        let q = tiles.from_west i own in
        let r = tiles.to_east i own in
        let s = tiles.from_south i own in
        let u = tiles.to_north i own in
        let inside : west < x0 i = by_cases (dec_lt west (x0 i)) (λ k. k) (λ k. absurd (out (omega arith))) in
        let o = tiles.there (x0 i - 1) y (omega arith) (omega arith) (omega arith) (omega arith) in
        let g = o.holds.left in
        let f = o.holds.right in
        let here : x1 o.id ≡ x0 i =
        by_cases (dec_lt (x0 i) (x1 o.id))
        (λ k.
        let behind : HoldsUnit (x0 i) y o.id = record { left = omega arith; right = k; low = o.holds.low; high = o.holds.high } in
        let d : o.id ≡ i = tiles.once (x0 i) y o.id i o.is own behind (record { left = omega arith; right = p; low = l; high = h }) in
        let c = ap x0 d in
        absurd (omega arith))
        (λ k. omega arith) in
        record {
          one = o.id;
          below = o.is.0;
          counts = and_both (tile o.id) (ends (x0 i) o.id) o.is.1 (eq-eqb (x1 o.id) (x0 i) here);
          low = o.holds.low;
          high = o.holds.high;
          only = λ j k e lo hi.
              let t = and_left (tile j) (ends (x0 i) j) e in
              let v = eqb-true (x1 j) (x0 i) (and_right (tile j) (ends (x0 i) j) e) in
              let w = tiles.wide j (k, t) in
              tiles.once (x0 i - 1) y j o.id (k, t) o.is (record { left = omega arith; right = omega arith; low = lo; high = hi }) o.holds;
        }

    pub behind-filled : (x1 i ≡ east → ⊥) → total (beside (starts (x1 i)) (y0 i) (y1 i)) n ≡ y1 i - y0 i
    behind-filled out = let h = tiles.high i own in line (starts (x1 i)) (y0 i) (y1 i) (omega arith) (starting out)

    pub before-filled : (x0 i ≡ west → ⊥) → total (beside (ends (x0 i)) (y0 i) (y1 i)) n ≡ y1 i - y0 i
    before-filled out = let h = tiles.high i own in line (ends (x0 i)) (y0 i) (y1 i) (omega arith) (ending out)

    pub none-behind : x1 i ≡ east → total (beside (starts (x1 i)) (y0 i) (y1 i)) n ≡ 0
    none-behind e =
        none (starts (x1 i)) (y0 i) (y1 i)
        (λ j t u. let v = eqb-true (x1 i) (x0 j) u in let w = tiles.wide j t in let z = tiles.to_east j t in omega arith)

    pub none-before : x0 i ≡ west → total (beside (ends (x0 i)) (y0 i) (y1 i)) n ≡ 0
    none-before e =
        none (ends (x0 i)) (y0 i) (y1 i)
        (λ j t u. let v = eqb-true (x1 j) (x0 i) u in let w = tiles.wide j t in let z = tiles.from_west j t in omega arith)

-- the same with x and y exchanged
pub turned : (n : ℕ) (tile : ℕ → Bool) (x0 x1 y0 y1 : ℕ → ℕ) (west east south north : ℕ) → Tiles n tile x0 x1 y0 y1 west east south north
    → Tiles n tile y0 y1 x0 x1 south north west east
turned n tile x0 x1 y0 y1 west east south north t =
    record {
      wide = t.high;
      high = t.wide;
      from_west = t.from_south;
      to_east = t.to_north;
      from_south = t.from_west;
      to_north = t.to_east;
      once = λ x y i j a b p q. t.once y x i j a b (turn y x i p) (turn y x j q);
      there = λ x y l h m k. (let o = t.there y x m k l h in record { id = o.id; is = o.is; holds = turn-back y x o.id o.holds });
    }
  where
    turn : (x y i : ℕ) → HoldsUnit n tile y0 y1 x0 x1 y x i → HoldsUnit n tile x0 x1 y0 y1 x y i
    turn x y i h = record { left = h.low; right = h.high; low = h.left; high = h.right }

    turn-back : (x y i : ℕ) → HoldsUnit n tile x0 x1 y0 y1 x y i → HoldsUnit n tile y0 y1 x0 x1 y x i
    turn-back x y i h = record { left = h.low; right = h.high; low = h.left; high = h.right }
