-- What holds of a table's leaves and of its polygons holds of the pieces, and of the nodes. Assumes nothing.
use Rattle.std.proofs.Common.{◌≡◌, refl, sym, subst, Bool, true, false, cond, ◌&&◌, ◌==◌, if◌then◌else◌, map, filter, None, Some, List, [], ◌∷◌, ◌++◌, ℕ, zero, suc, ◌+◌, ◌≤◌, ◌<◌, arith, length, get_or, take, drop, slice_get}
use Rattle.std.specs.List.{All as AllAt}
use Rattle.cell.specs.Boxes.{Box}
use Rattle.table.specs.Mesh.{Cell, is_none}
use Rattle.net.specs.Net.{Poly, MeshNode, Piece, same_node, corners_at, corners_of, leaves_of, pieces, nodes_from}
use Rattle.net.proofs.All.{All, all_nil, all_cons, all-by, all-weld, all-each-by}
use Rattle.net.proofs.Pieces.{all_corners, nodes-weld}
use Rattle.net.proofs.Faces.{Within}

-- a list's elements by their places
pub all-from : {A : Type 0} (P : A → Type 0) (d : A) (l : List A) → ((i : ℕ) → i < length l → P (get_or l i d)) → All P l
unfolding All
all-from P d [] h = tt
all-from P d (a ∷ l) h = (h 0 (omega arith), all-from P d l (λ i q. h (suc i) (omega arith)))

-- std's `All`, whatever stands past the list's end
pub all-of : {A : Type 0} (P : A → Type 0) (l : List A) → AllAt P l → All P l
unfolding All
all-of P [] h = tt
all-of P (a ∷ l) h = (h 0 a (omega arith), all-of P l (λ i d q. h (suc i) d (omega arith)))

-- the leaves of one polygon, of one cell more
pub leaves_of-cons : (c : Cell) (cs : List Cell) (k : ℕ) → leaves_of (c ∷ cs) k ≡ (if is_none c.kids && (c.polygon == k) then c.box ∷ leaves_of cs k else leaves_of cs k)
unfolding leaves_of
leaves_of-cons c cs k = by (is_none c.kids && (c.polygon == k))
  where
    others : List Cell
    others = filter (λ c. is_none c.kids && (c.polygon == k)) cs

    by : (b : Bool) → map {B = Box} (λ c. c.box) (cond b (c ∷ others) others) ≡ (if b then c.box ∷ map (λ c. c.box) others else map (λ c. c.box) others)
    by true = refl
    by false = refl

module _ (P : Box → Type 0) where
  -- of the leaves of one polygon
  leaves_all : (cs : List Cell) (k : ℕ) → All (λ (c : Cell). c.kids ≡ None → P c.box) cs → All P (leaves_of cs k)
  unfolding All leaves_of
  leaves_all [] k h = tt
  leaves_all (c ∷ cs) k h = grind (arith, leaves_of-cons c cs k, h.0, leaves_all cs k h.1, all_cons P c.box)

  pub leaves-pieces : (cs : List Cell) (ps : List Poly) (k : ℕ) → All (λ (c : Cell). c.kids ≡ None → P c.box) cs
      → All (λ (q : Piece). All P q.leaves) (pieces cs ps k)
  unfolding All pieces
  leaves-pieces cs [] k h = tt
  leaves-pieces cs (p ∷ ps) k h = (leaves_all cs k h, leaves-pieces cs ps (suc k) h)

  -- of every cell
  pub all-pieces : (cs : List Cell) (ps : List Poly) (k : ℕ) → All (λ (c : Cell). P c.box) cs → All (λ (q : Piece). All P q.leaves) (pieces cs ps k)
  all-pieces cs ps k h = leaves-pieces cs ps k (all-by (λ (c : Cell). P c.box) (λ (c : Cell). c.kids ≡ None → P c.box) cs (λ c p e. p) h)

pub polys-pieces : (Q : Poly → Type 0) (cs : List Cell) (ps : List Poly) (k : ℕ) → All Q ps → All (λ (q : Piece). Q q.poly) (pieces cs ps k)
unfolding All pieces
polys-pieces Q cs [] k h = tt
polys-pieces Q cs (p ∷ ps) k h = (h.0, polys-pieces Q cs ps (suc k) h.1)

-- ---- the pieces

abbrev pub piece_of : List Cell → Poly → ℕ → Piece
piece_of cs p k = record { poly = p; leaves = leaves_of cs k }

-- the polygon k, those before it and those behind it
pieces-split : (cs : List Cell) (ps : List Poly) (j k : ℕ) (p : Poly) → slice_get ps k ≡ Some p
    → pieces cs ps j ≡ pieces cs (take k ps) j ++ (piece_of cs p (j + k) ∷ pieces cs (drop (suc k) ps) (suc (j + k)))
unfolding pieces
pieces-split cs [] j k p h = absurd (cc h)
pieces-split cs (r ∷ ps) j zero p h = grind arith
pieces-split cs (r ∷ ps) j (suc k) p h = grind (arith, pieces-split cs ps (suc j) k p h)

pub pieces-at : (cs : List Cell) (ps : List Poly) (k : ℕ) (p : Poly) → slice_get ps k ≡ Some p
    → pieces cs ps 0 ≡ pieces cs (take k ps) 0 ++ (piece_of cs p k ∷ pieces cs (drop (suc k) ps) (suc k))
pieces-at cs ps k p h = grind (arith, pieces-split cs ps 0 k p h)

pub length-pieces : (cs : List Cell) (ps : List Poly) (j : ℕ) → length (pieces cs ps j) ≡ length ps
unfolding pieces
length-pieces cs [] j = refl
length-pieces cs (p ∷ ps) j = omega (arith, length-pieces cs ps (suc j))

-- ---- nodes

-- what holds of the corners of every piece holds of every node
pub nodes-all : (Q : MeshNode → Type 0) (qs : List Piece) → All (λ (q : Piece). All Q (corners_of q)) qs → All Q (nodes_from [] qs)
nodes-all Q qs h =
    subst (All Q) (sym (nodes-weld [] qs))
    (all-weld Q same_node [] (all_corners qs) (all_nil Q) (all-each-by (λ (q : Piece). All Q (corners_of q)) Q corners_of qs (λ q c. c) h))

-- a box whose coordinates are at most M
abbrev pub BoxWithin : ℕ → Box → Type 0
BoxWithin M r = (r.x0 ≤ M) × (r.y0 ≤ M) × (r.x1 ≤ M) × (r.y1 ≤ M)

pub nodes-within : (M : ℕ) (qs : List Piece) → All (λ (q : Piece). All (BoxWithin M) q.leaves) qs → All (Within M) (nodes_from [] qs)
unfolding corners_of
nodes-within M qs h =
    nodes-all (Within M) qs
    (all-by (λ (q : Piece). All (BoxWithin M) q.leaves) (λ (q : Piece). All (Within M) (corners_of q)) qs
    (λ q l. all-each-by (BoxWithin M) (Within M) (corners_at q.poly) q.leaves (λ r b. unfold All in ((b.0, b.1), ((b.2, b.1), ((b.2, b.3), ((b.0, b.3), tt))))) l) h)
