-- A polygon's part of the row of cells, and its corners one by one. Assumes nothing.
use Rattle.std.proofs.Common.{◌≡◌, ℕ, zero, suc, ◌+◌, ◌*◌, ◌/◌, ◌%◌, ◌<◌, ◌≤◌, List, [], ◌∷◌, length, get_or, flat_map, refl, sym, ap, ◌∙◌, arith, All}
use Rattle.std.proofs.lemmas.List.{get_or_past}
use Rattle.std.proofs.lemmas.List.Elements.{All-nil, All-cons, All-head, All-tail}
use Rattle.std.proofs.lemmas.List.FromFn.{length-map-range_with_len, get_or-map-range_with_len}
use Rattle.net_rows.specs.declared.rows.NetCell.{NetCell}
use Rattle.net_rows.specs.Nets.{nth_cell}
use Rattle.net_rows.specs.Facts.{AreKnown}
use Rattle.links.specs.Rows.{corner_numbers, cells_of, row_lists}

-- ---- corners
pub corners-long : (cells : List NetCell) → length (flat_map corner_numbers cells) ≡ 4 * length cells
corners-long [] = refl
corners-long (c ∷ cells) = let e = corners-long cells in omega arith

corner-at : (cells : List NetCell) (j r : ℕ) → j < length cells → r < 4 → get_or (flat_map corner_numbers cells) (4 * j + r) 0 ≡ get_or (corner_numbers (nth_cell cells j)) r 0
corner-at [] j r h k = absurd (omega arith)
corner-at (c ∷ cells) zero zero h k = refl
corner-at (c ∷ cells) zero (suc zero) h k = refl
corner-at (c ∷ cells) zero (suc (suc zero)) h k = refl
corner-at (c ∷ cells) zero (suc (suc (suc zero))) h k = refl
corner-at (c ∷ cells) zero (suc (suc (suc (suc r)))) h k = absurd (omega arith)
corner-at (c ∷ cells) (suc j) r h k =
    ap (λ (i : ℕ). get_or (flat_map corner_numbers (c ∷ cells)) i 0) (let e : 4 * suc j + r ≡ suc (suc (suc (suc (4 * j + r)))) = omega arith in e)
    ∙ corner-at cells j r (omega arith) k

pub corner_within : (cells : List NetCell) (k : ℕ) → k < length (flat_map corner_numbers cells) → k / 4 < length cells
corner_within cells k h = let n = corners-long cells in omega arith

pub corner-of : (cells : List NetCell) (k r : ℕ) → k < length (flat_map corner_numbers cells) → k % 4 ≡ r → get_or (corner_numbers (nth_cell cells (k / 4))) r 0 ≡ get_or (flat_map corner_numbers cells) k 0
corner-of cells k r h e =
    let n = corners-long cells in
    sym (corner-at cells (k / 4) r (omega arith) (omega arith))
    ∙ ap (λ (i : ℕ). get_or (flat_map corner_numbers cells) i 0) (let q : 4 * (k / 4) + r ≡ k = omega arith in q)

-- ---- the part of a polygon
module _ (cells : List NetCell) (starts : List ℕ) where
  list-at : (p : ℕ) → p < length starts → get_or (row_lists cells starts) p [] ≡ flat_map corner_numbers (cells_of cells starts p)
  unfolding row_lists
  list-at p h = get_or-map-range_with_len (λ q. flat_map corner_numbers (cells_of cells starts q)) 0 (length starts) p p [] h (omega arith)

  pub list-past : (p : ℕ) → length starts ≤ p → get_or (row_lists cells starts) p [] ≡ []
  unfolding row_lists
  list-past p h =
      let n = length-map-range_with_len (λ q. flat_map corner_numbers (cells_of cells starts q)) 0 (length starts) in
      get_or_past (row_lists cells starts) p [] (omega arith)

  pub list-is : (p : ℕ) (part : List NetCell) → p < length starts → part ≡ cells_of cells starts p → flat_map corner_numbers part ≡ get_or (row_lists cells starts) p []
  list-is p part h e = ap (flat_map corner_numbers) e ∙ sym (list-at p h)

-- ---- the corners are nodes
pub corners_known : (n : ℕ) (cells : List NetCell) → All (λ c. AreKnown n c.corners) cells → All (λ i. i < n) (flat_map corner_numbers cells)
corners_known n [] K = All-nil (λ i. i < n)
corners_known n (c ∷ cells) K =
    let q = All-head (λ (c : NetCell). AreKnown n c.corners) c cells K in
    let P = λ (i : ℕ). i < n in
    let rest = flat_map corner_numbers cells in
    let k = c.corners in
    All-cons P k.southwest (k.southeast ∷ k.northeast ∷ k.northwest ∷ rest) q.southwest
    (All-cons P k.southeast (k.northeast ∷ k.northwest ∷ rest) q.southeast
    (All-cons P k.northeast (k.northwest ∷ rest) q.northeast
    (All-cons P k.northwest rest q.northwest
    (corners_known n cells (All-tail (λ (c : NetCell). AreKnown n c.corners) c cells K)))))
