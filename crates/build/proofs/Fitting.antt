-- A board that build accepts to cut is one that the steps can take. Assumes nothing.
use lib.Ieee.{Float}
use Rattle.std.proofs.Common.{ℕ, zero, suc, ◌+◌, ◌-◌, ◌*◌, ◌%◌, ◌^◌, ◌<◌, ◌≤◌, ◌≡◌, refl, sym, ap, ◌∙◌, true, false, ◌&&◌, List, [], ◌∷◌, ◌++◌, ⊎_elim, append-nil, arith, zero-add, eqb, ltb, leb, ℤ, pos, length, get_or, sum, take, drop, replicate, take_at, take_all, eqb-true, leb-true}
use lib.Ieee.{nan}
use Rattle.std.specs.List.{range_with_len}
use Rattle.std.proofs.lemmas.List.Sums.{AllPass-from_list_all}
use Rattle.std.proofs.lemmas.List.FromFn.{length-range_with_len, get_or-range_with_len}
use Rattle.cell.proofs.Offsets.{below?}
use Rattle.cell.proofs.Contact.{and_left, and_right}
use Rattle.refusals.specs.Limits.{widest_level, max_cap, max_cell, max_layers, max_points, max_polygons}
use Rattle.refusals.specs.Said.{Said, accepted, refused}
use Rattle.strips.specs.Rings.{ring_in_range, ring_slants}
use Rattle.strips.specs.Strips.{strips_of}
use Rattle.strips.proofs.Picking.{split, all_below}
use Rattle.strips.proofs.Laying.{few-points}
use Rattle.build.specs.Grid.{Root, all_even, listed_at, cell_or, flat, roots_in}
use Rattle.build.specs.Board.{Board, ring_at, polygons, unit, size_at, strips_at, roots_to, roots_of}
use Rattle.floats.specs.Fractions.{in_sheet}
use Rattle.table.specs.Formed.{holds_whole_slots}
use Rattle.build.specs.Says.{rows_shaped, layer_in, entry_in_range, entry_ok, list_ok, numbers_ok, settings_ok, judge_from, even_from, filled}
use Rattle.build.specs.Steps.{IsTally, IsSurvey, Fit, Tabled, placed, room_in, alone_says, alone_leaves}
use Rattle.build.proofs.Judging.{sum_more}
use Rattle.build.proofs.Placing.{length-flat}

-- every entry of a list that is in order has a cell in range
entry-cell : (l : List (List ℕ)) (n i : ℕ) → all_below (entry_ok l) n ≡ true → i < n → get_or (get_or l i []) 1 0 ≤ max_cell
entry-cell l n i e h =
    let ok = AllPass-from_list_all (entry_ok l) (range_with_len 0 n) e i 0 (omega (arith, length-range_with_len 0 n)) in
    let here : entry_ok l i ≡ true = rw (get_or-range_with_len 0 n i 0 h, zero-add i) at ok in
    leb-true _ _ (and_right (ltb (layer_in l i) (2 ^ 16)) _ (and_left (entry_in_range (get_or l i [])) _ here))

listed-fits : (l : List (List ℕ)) (layer : ℕ) → ((i : ℕ) → i < length l → get_or (get_or l i []) 1 0 ≤ max_cell) → cell_or (listed_at l layer) 0 ≤ max_cell
listed-fits [] layer h = omega arith
listed-fits (e ∷ l) layer h =
    let r = listed-fits l layer (λ i k. h (suc i) (omega arith)) in
    split (eqb (get_or e 0 0) layer) (λ t. rw t (split (eqb (get_or e 1 0) 0) (λ z. rw z (omega arith)) (λ z. rw z (h 0 (omega arith))))) (λ t. rw t r)

-- a refusal is not an acceptance
pub refused-accepted : (n place : ℕ) (vs : List ℕ) → refused n place ≡ accepted vs → ⊥
refused-accepted n place vs e = let z : ◌≡◌ {A = ℕ} 0 1 = cc in omega arith

-- polygons that were found sound are in range; `o` is what was said of the rest
module _ (rs : List Float) (cs : List ℕ) (ps : List (List ℤ)) (o : Said) (vs : List ℕ) where
  sound-from : (q n p : ℕ) → judge_from rs cs ps q n o ≡ accepted vs → q ≤ p → p < q + n → ring_in_range (ring_at cs ps p) ≡ true
  unfolding judge_from
  sound-from q zero p e l h = absurd (omega arith)
  sound-from q (suc n) p e l h =
      let r = sound-from (suc q) n p in
      split (in_sheet (get_or rs q nan))
      (λ s. split (ring_in_range (ring_at cs ps q))
      (λ t. split (ring_slants (ring_at cs ps q))
      (λ u. absurd (refused-accepted 4 q vs (rw (s, t, u) at e)))
      (λ u. ⊎_elim
      (λ (k : q < p). r (rw (s, t, u) at e) k (omega arith))
      (λ (k : p ≤ q). let z : p ≡ q = omega arith in rw z t)
      (below? q p)))
      (λ t. absurd (refused-accepted 3 q vs (rw (s, t) at e))))
      (λ s. absurd (refused-accepted 3 q vs (rw s at e)))

  pub sound-few : (n p : ℕ) → judge_from rs cs ps 0 n o ≡ accepted vs → p < n → length (ring_at cs ps p) ≤ max_points
  sound-few n p e h = few-points (ring_at cs ps p) (sound-from 0 n p e (omega arith) (omega arith))

  pub sound-passes : (q n : ℕ) → judge_from rs cs ps q n o ≡ accepted vs → o ≡ accepted vs
  unfolding judge_from
  sound-passes q zero e = e
  sound-passes q (suc n) e =
      let r = sound-passes (suc q) n in
      split (in_sheet (get_or rs q nan))
      (λ s. split (ring_in_range (ring_at cs ps q))
      (λ t. split (ring_slants (ring_at cs ps q))
      (λ u. absurd (refused-accepted 4 q vs (rw (s, t, u) at e)))
      (λ u. r (rw (s, t, u) at e)))
      (λ t. absurd (refused-accepted 3 q vs (rw (s, t) at e))))
      (λ s. absurd (refused-accepted 3 q vs (rw s at e)))

-- and polygons that passed have even sides
module _ (b : Board) (o : Said) (vs : List ℕ) where
  even-from : (q n p : ℕ) → even_from b q n o ≡ accepted vs → q ≤ p → p < q + n → all_even (unit b) b.settings.cap (size_at b p) (strips_at b p) ≡ true
  unfolding even_from
  even-from q zero p e l h = absurd (omega arith)
  even-from q (suc n) p e l h =
      let r = even-from (suc q) n p in
      split (all_even (unit b) b.settings.cap (size_at b q) (strips_at b q))
      (λ s. ⊎_elim
      (λ (k : q < p). r (rw s at e) k (omega arith))
      (λ (k : p ≤ q). let z : p ≡ q = omega arith in rw z s)
      (below? q p))
      (λ s. absurd (refused-accepted 5 q vs (rw s at e)))

  pub even-at : (n p : ℕ) → even_from b 0 n o ≡ accepted vs → p < n → all_even (unit b) b.settings.cap (size_at b p) (strips_at b p) ≡ true
  even-at n p e h = even-from 0 n p e (omega arith) (omega arith)

  pub even-passes : (q n : ℕ) → even_from b q n o ≡ accepted vs → o ≡ accepted vs
  unfolding even_from
  even-passes q zero e = e
  even-passes q (suc n) e =
      let r = even-passes (suc q) n in
      split (all_even (unit b) b.settings.cap (size_at b q) (strips_at b q)) (λ s. r (rw s at e)) (λ s. absurd (refused-accepted 5 q vs (rw s at e)))

pub tabled : (t : List ℤ) → holds_whole_slots (length t) ≡ true → Tabled t
tabled t e = record { whole = eqb-true _ _ (and_left _ _ e); few = leb-true _ _ (and_right (eqb (length t % 8) 0) _ e) }

-- the roots placed and the rest cleared
pub roots-cleared : (t u : List ℤ) (rs : List Root) (k : ℕ) → k ≡ length rs → u ≡ placed t 0 rs → length u ≡ length t → take (k * 8) u ++ replicate (length u - k * 8) (pos 0) ≡ flat rs ++ replicate (length t - length rs * 8) (pos 0)
unfolding placed
roots-cleared t u rs k e f n =
    let h : length (flat rs) ≡ k * 8 = length-flat rs ∙ ap (λ (x : ℕ). x * 8) (sym e) in
    let g : take (k * 8) u ≡ flat rs = ap (take (k * 8)) f ∙ take_at (flat rs) (drop ((0 + length rs) * 8) t) (k * 8) h in
    rw (g, n, e) refl

pub cleared : (t u : List ℤ) (b : Board) (k : ℕ) → k ≡ length (roots_of b) → u ≡ placed t 0 (roots_of b) → length u ≡ length t → take (k * 8) u ++ replicate (length u - k * 8) (pos 0) ≡ filled b (length t)
unfolding filled
cleared t u b k e f n = roots-cleared t u (roots_of b) k e f n

-- a board of one polygon
module _ (b : Board) (f : Fit b) (one : length b.counts ≡ 1) where
  pub ring-alone : ring_at b.counts b.points 0 ≡ b.points
  unfolding ring_at
  ring-alone =
      let all = ap (λ (cs : List ℕ). sum cs) (take_all 1 b.counts (omega arith)) in
      take_all (get_or b.counts 0 0) b.points (omega (arith, f.sums, all, sum_more b.counts 0))

  pub roots-alone : roots_of b ≡ roots_in 0 b.settings.cap (size_at b 0) (strips_of b.points)
  unfolding roots_to
  roots-alone = rw (one, ring-alone) (append-nil _)

  pub says-alone : (slots : ℕ) → even_from b 0 (polygons b) (room_in slots (length (roots_of b))) ≡ alone_says (unit b) b.settings.cap (size_at b 0) (strips_of b.points) slots
  unfolding even_from
  says-alone slots = rw (roots-alone, one, ring-alone) refl

  pub leaves-alone : (size : ℕ) → alone_leaves b.settings.cap (size_at b 0) (strips_of b.points) size ≡ filled b size
  unfolding filled
  leaves-alone size = rw roots-alone refl

  pub uneven-alone : all_even (unit b) b.settings.cap (size_at b 0) (strips_of b.points) ≡ false → (o : Said)
      → even_from b 0 (polygons b) o ≡ refused 5 0
  unfolding even_from
  uneven-alone e o = rw (one, ring-alone, e) refl

  pub surveyed-alone : (slots n : ℕ) → IsTally (unit b) b.settings.cap (size_at b 0) slots 0 (strips_of b.points) n → IsSurvey b slots n
  unfolding even_from
  surveyed-alone slots n s =
      record { even = λ o. rw (one, ring-alone, s.even) refl; counted = s.counted ∙ rw (zero-add, ← roots-alone) refl }

-- from the tests to what the steps ask
module _ (b : Board) (components : List ℕ) (sheets : List Float) (size : ℕ) (shape : rows_shaped b.layers components sheets b.counts b.points size ≡ true) where
  rows_fit : (eqb (length b.layers) (length b.counts) && (eqb (length components) (length b.counts) && eqb (length sheets) (length b.counts))) ≡ true
  unfolding rows_shaped
  rows_fit = and_right (holds_whole_slots size) _ (and_left _ (eqb (sum b.counts) (length b.points)) shape)

  pub room_fits : holds_whole_slots size ≡ true
  unfolding rows_shaped
  room_fits = and_left (holds_whole_slots size) _ (and_left _ (eqb (sum b.counts) (length b.points)) shape)

  pub sheets-fit : length sheets ≡ length b.counts
  sheets-fit = eqb-true _ _ (and_right (eqb (length components) (length b.counts)) _ (and_right (eqb (length b.layers) (length b.counts)) _ rows_fit))

  pub points-fit : sum b.counts ≡ length b.points
  unfolding rows_shaped
  points-fit = eqb-true _ _ (and_right (holds_whole_slots size && (eqb (length b.layers) (length b.counts) && (eqb (length components) (length b.counts) && eqb (length sheets) (length b.counts)))) _ shape)

  pub fit : settings_ok b ≡ true → (o : Said) (vs : List ℕ) → judge_from sheets b.counts b.points 0 (length b.counts) o ≡ accepted vs → Fit b
  unfolding list_ok
  fit e o vs j =
      let n = and_left (numbers_ok b.settings (polygons b)) _ e in
      let l = and_right (numbers_ok b.settings (polygons b)) _ e in
      let a = and_left ((leb b.settings.max_level widest_level && leb (polygons b) max_polygons) && (leb 1 b.settings.cap && leb b.settings.cap max_cap)) _ n in
      let t = and_right ((leb b.settings.max_level widest_level && leb (polygons b) max_polygons) && (leb 1 b.settings.cap && leb b.settings.cap max_cap)) _ n in
      let m = and_left (leb b.settings.max_level widest_level && leb (polygons b) max_polygons) _ a in
      let c = and_right (leb b.settings.max_level widest_level && leb (polygons b) max_polygons) _ a in
      record {
        level = leb-true _ _ (and_left _ _ m);
        cap-some = leb-true _ _ (and_left _ _ c);
        cap-fits = leb-true _ _ (and_right (leb 1 b.settings.cap) _ c);
        target-some = leb-true _ _ (and_left _ _ t);
        target_fits = leb-true _ _ (and_right (leb 1 b.settings.target) _ t);
        cells = λ layer. listed-fits b.list layer (λ i h. entry-cell b.list (length b.list) i (and_right (leb (length b.list) max_layers) _ l) h);
        rows = eqb-true _ _ (and_left _ _ rows_fit);
        sums = points-fit;
        few = λ p h. sound-few sheets b.counts b.points o vs (length b.counts) p j h;
        polys = leb-true _ _ (and_right (leb b.settings.max_level widest_level) _ m);
      }
