-- The nodes have no duplicates: each is the first that is the same as itself. Assumes nothing.
use Rattle.std.proofs.Common.{◌≡◌, Bool, true, false, List, [], ◌∷◌, ◌++◌, ℕ, ◌<◌, arith, length, get_or, length-append}
use lib.ListN.{get_or-append}
use lib.Seq.{get_or-append_seam}
use Rattle.table.specs.Mesh.{Cell}
use Rattle.net.specs.Net.{position_of, has, weld, Poly, MeshNode, Piece, same_node, nth, nowhere, number, pieces, corners_of, nodes_from, bare, weigh, network}
use Rattle.net.proofs.Positions.{positions}
use Rattle.net.proofs.Weld.{welding}
use Rattle.net.proofs.Sound.{node-self}

module _ {A : Type 0} (same : A → A → Bool) (d : A) (self : (a : A) → same a a ≡ true) where
  abbrev pub Distinct : List A → Type 0
  Distinct l = (i : ℕ) → i < length l → position_of same l (get_or l i d) ≡ i

  distinct_snoc : (l : List A) (x : A) → Distinct l → has same l x ≡ false → Distinct (l ++ (x ∷ []))
  distinct_snoc l x D e i h = grind (arith, positions, D i, length-append l (x ∷ []), get_or-append l (x ∷ []) d i, get_or-append_seam l x [] d, self x)

  distinct-weld : (l xs : List A) → Distinct l → Distinct (weld same l xs)
  distinct-weld l [] D = grind (arith, welding)
  distinct-weld l (x ∷ xs) D = grind (arith, welding, distinct-weld l xs D, distinct-weld (l ++ (x ∷ [])) xs, distinct_snoc l x D)

distinct-nodes : (n : List MeshNode) (qs : List Piece) → Distinct same_node nowhere node-self n → Distinct same_node nowhere node-self (nodes_from n qs)
unfolding nodes_from
distinct-nodes n [] D = D
distinct-nodes n (q ∷ qs) D = distinct-nodes (weld same_node n (corners_of q)) qs (distinct-weld same_node nowhere node-self n (corners_of q) D)

-- no two nodes of a net have the same layer, component, x and y
pub no-duplicates : (t : List Cell) (ps : List Poly) (i : ℕ) → i < length (network t ps).nodes → number (network t ps).nodes (nth (network t ps).nodes i) ≡ i
unfolding network weigh bare
no-duplicates t ps = distinct-nodes [] (pieces t ps 0) (λ i h. absurd (omega arith))
