-- The polygons' lists of corners, as they stand in the row of cells: a polygon's cells stand together, and a node keeps its number. Assumes nothing.
use Rattle.std.proofs.Common.{◌≡◌, refl, sym, ap, ap₂, ◌∙◌, Bool, true, false, ◌&&◌, List, [], ◌∷◌, ◌++◌, map, filter, ℕ, zero, suc, ◌+◌, ◌≤◌, ◌<◌, arith, eqb, ℤ, length, get_or, take, drop, take_at, add-one, add-zero, zero-add, None, Some, if◌then◌else◌}
use Rattle.std.specs.Prelude.{flat_map, slice_index_or}
use Rattle.std.specs.List.{range_with_len, sum_by}
use Rattle.std.proofs.lemmas.List.{length-map, map-append, get_or_past}
use Rattle.std.proofs.lemmas.List.Sums.{sum_by-cons, sum_by_more}
use Rattle.std.proofs.lemmas.List.Elements.{filter_agree}
use Rattle.std.proofs.Math.Seq.{drop-append-add}
use Rattle.cell.specs.Boxes.{Box}
use Rattle.cell.specs.Cells.{no_cell}
use Rattle.table.specs.Slots.{cell_at}
use Rattle.table.specs.Mesh.{Cell, is_none, mesh_cell, table}
use Rattle.table.specs.Leaves.{leaf_at, leaf_of, polygon_ids, order_to}
use Rattle.table.proofs.Order.{order-more}
use Rattle.net.specs.Net.{MeshNode, NetCell, Poly, Piece, same_node, number, weld, corners_at, corners_of, nodes_from, patch_at, patches_from, leaves_of, pieces, bare}
use Rattle.net.proofs.Positions.{position-left}
use Rattle.net.proofs.All.{All, In, in-weld, weld-more, weld-has, all-by}
use Rattle.net.proofs.Leaves.{length-pieces}
use Rattle.net.proofs.Sound.{node-self}
use Rattle.links.specs.Rows.{corner_numbers}
use Rattle.links.specs.Made.{corner_lists}
use Rattle.links.proofs.Sizes.{passed-map}

-- ---- a node that is there keeps its number

keeps : (n xs : List MeshNode) (m : MeshNode) → In same_node n m → number (weld same_node n xs) m ≡ number n m
keeps n xs m h = let r = weld-more same_node n xs in ap (λ (z : List MeshNode). number z m) r.1 ∙ position-left same_node n r.0 m h

later : (n : List MeshNode) (qs : List Piece) (m : MeshNode) → In same_node n m → number (nodes_from n qs) m ≡ number n m
unfolding nodes_from
later n [] m h = refl
later n (q ∷ qs) m h = later (weld same_node n (corners_of q)) qs m (in-weld same_node n (corners_of q) m h) ∙ keeps n (corners_of q) m h

-- ---- the cells of one polygon

map-same : {A B : Type 0} (f g : A → B) (l : List A) → All (λ (a : A). f a ≡ g a) l → map f l ≡ map g l
unfolding All
map-same f g [] h = refl
map-same f g (a ∷ l) h = ap₂ (λ x xs. x ∷ xs) h.0 (map-same f g l h.1)

corners-in : (n : List MeshNode) (p : Poly) (rs : List Box) → flat_map corner_numbers (map (patch_at n p) rs) ≡ map (number n) (flat_map (corners_at p) rs)
corners-in n p [] = refl
corners-in n p (r ∷ rs) =
    ap (λ (l : List ℕ). corner_numbers (patch_at n p r) ++ l) (corners-in n p rs) ∙ sym (map-append (number n) (corners_at p r) (flat_map (corners_at p) rs))

module _ (n : List MeshNode) (q : Piece) (qs : List Piece) where
  abbrev here : List MeshNode
  here = weld same_node n (corners_of q)

  piece-list : map (number (nodes_from here qs)) (corners_of q) ≡ flat_map corner_numbers (map (patch_at here q.poly) q.leaves)
  unfolding corners_of
  piece-list =
      map-same (number (nodes_from here qs)) (number here) (corners_of q)
      (all-by (In same_node here) (λ (m : MeshNode). number (nodes_from here qs) m ≡ number here m) (corners_of q) (λ m h. later here qs m h) (weld-has same_node node-self n (corners_of q)))
      ∙ sym (corners-in here q.poly q.leaves)

-- ---- all polygons

-- how many leaves there are in the first k pieces
abbrev pub leaves_before : List Piece → ℕ → ℕ
leaves_before qs k = sum_by (λ q. length q.leaves) (take k qs)

abbrev pub no_piece : Piece
no_piece = record { poly = record { layer = 0; component = 0; sheet = Rattle.net.specs.Net.One }; leaves = [] }

-- list k is the corners of the cells of piece k, which stand behind those of the pieces before it
pub list-cells : (n : List MeshNode) (qs : List Piece) (k : ℕ) → k < length qs
    → slice_index_or (corner_lists (nodes_from n qs) qs) k [] ≡ flat_map corner_numbers (take (length (get_or qs k no_piece).leaves) (drop (leaves_before qs k) (patches_from n qs)))
unfolding corner_lists nodes_from patches_from
list-cells n [] k h = absurd (omega arith)
list-cells n (q ∷ qs) zero h =
    piece-list n q qs
    ∙ ap (flat_map corner_numbers) (sym (take_at (map (patch_at (here n q qs) q.poly) q.leaves) (patches_from (here n q qs) qs) (length q.leaves) (length-map q.leaves (patch_at (here n q qs) q.poly))))
list-cells n (q ∷ qs) (suc k) h =
    let m = here n q qs in
    let own = map (patch_at m q.poly) q.leaves in
    let count : leaves_before (q ∷ qs) (suc k) ≡ length own + leaves_before qs k = sum_by-cons (λ (q : Piece). length q.leaves) q (take k qs) ∙ ap (λ (i : ℕ). i + leaves_before qs k) (sym (length-map q.leaves (patch_at m q.poly))) in
    list-cells m qs k (omega arith)
    ∙ ap (λ (l : List NetCell). flat_map corner_numbers (take (length (get_or qs k no_piece).leaves) l))
    (sym (ap (λ (i : ℕ). drop i (own ++ patches_from m qs)) count ∙ drop-append-add own (patches_from m qs) (leaves_before qs k)))

-- ---- by the numbers of leaves that a table has

module _ (row : List ℤ) (count : ℕ) where
  none-if : (b : Bool) (v : ℕ) → is_none (if b then None else Some v) ≡ b
  none-if true v = refl
  none-if false v = refl

  leaves-length : (k : ℕ) → length (leaves_of (table row count) k) ≡ length (polygon_ids row count k)
  unfolding leaves_of table polygon_ids leaf_of leaf_at
  leaves-length k =
      let passes = λ (c : Cell). is_none c.kids && eqb c.polygon k in
      let cell = λ (i : ℕ). mesh_cell (cell_at row i) in
      length-map (filter passes (map cell (range_with_len 0 count))) (λ (c : Cell). c.box)
      ∙ (passed-map passes cell (range_with_len 0 count)
      ∙ ap length (filter_agree (λ (i : ℕ). passes (cell i)) (leaf_of row k) (λ i. ap (λ (b : Bool). b && eqb (cell_at row i).poly k) (none-if (eqb (cell_at row i).first no_cell) (cell_at row i).first)) (range_with_len 0 count)))

  module _ (ps : List Poly) where
    abbrev pub qs : List Piece
    qs = pieces (table row count) ps 0

    piece-leaves : (rs : List Poly) (j k : ℕ) → k < length rs → (get_or (pieces (table row count) rs j) k no_piece).leaves ≡ leaves_of (table row count) (j + k)
    unfolding pieces
    piece-leaves [] j k h = absurd (omega arith)
    piece-leaves (p ∷ rs) j zero h = ap (leaves_of (table row count)) (sym (add-zero j))
    piece-leaves (p ∷ rs) j (suc k) h =
        let e : suc j + k ≡ j + suc k = omega arith in
        piece-leaves rs (suc j) k (omega arith) ∙ ap (leaves_of (table row count)) e

    own-length : (k : ℕ) → k < length ps → length (get_or qs k no_piece).leaves ≡ length (polygon_ids row count k)
    own-length k h = ap length (piece-leaves ps 0 k h ∙ ap (leaves_of (table row count)) (zero-add k)) ∙ leaves-length k

    pub before : (k : ℕ) → k ≤ length ps → leaves_before qs k ≡ length (order_to row count k)
    before zero h = unfold order_to in refl
    before (suc k) h =
        let long = length-pieces (table row count) ps 0 in
        ap (leaves_before qs) (sym (add-one k))
        ∙ (sum_by_more (λ (q : Piece). length q.leaves) qs k no_piece (omega arith)
        ∙ (ap₂ (λ (m n : ℕ). m + n) (before k (omega arith)) (own-length k (omega arith))
        ∙ (sym (order-more row count k) ∙ ap (λ (i : ℕ). length (order_to row count i)) (add-one k))))

    -- a polygon's list is the corners of its cells
    pub polygon-list : (k : ℕ) → k < length ps
        → slice_index_or (corner_lists (bare qs).nodes qs) k [] ≡ flat_map corner_numbers (take (length (polygon_ids row count k)) (drop (length (order_to row count k)) (bare qs).cells))
    unfolding bare
    polygon-list k h =
        let long = length-pieces (table row count) ps 0 in
        list-cells [] qs k (omega arith)
        ∙ ap₂ (λ (m n : ℕ). flat_map corner_numbers (take m (drop n (patches_from [] qs)))) (own-length k h) (before k (omega arith))

    -- past the last polygon there is none
    pub no-list : (k : ℕ) → length ps ≤ k → slice_index_or (corner_lists (bare qs).nodes qs) k [] ≡ []
    unfolding corner_lists
    no-list k h =
        let long = length-pieces (table row count) ps 0 in
        get_or_past (corner_lists (bare qs).nodes qs) k [] (omega (arith, length-map qs (λ (q : Piece). map (number (bare qs).nodes) (corners_of q))))
